-- The answer section of an answer has no fault.
use Rattle.std.proofs.Common.{◌≡◌, ℕ, List, [], ◌∷◌, ◌++◌, sym, subst, refl}
use Rattle.std.specs.List.{cons_option}
use Rattle.std.specs.Prelude.{Option, Some, None, Result, Ok, Err}
use Rattle.dns_name.specs.Names.{Fault, Labels}
use Rattle.dns_data.specs.Layout.{Layout}
use Rattle.dns_item.specs.Questions.{QuestionItem}
use Rattle.dns_item.specs.TypedRecords.{parsed_as}
use Rattle.dns_read.specs.Limited.{limited}
use Rattle.dns_read.specs.RecordSearches.{cname_layout}
use Rattle.dns_read.specs.SectionStarts.{records_of}
use Rattle.dns_read.specs.declared.section.Section.TheVariants.{Answer}
use Rattle.dns_reply.specs.Laws.{AnswersAreRead}
use Rattle.dns_reply.specs.Records.{Records, first_fault}
use Rattle.dns_reply.specs.Said.{Said}
use Rattle.dns_reply.specs.Said.Said.{Answered}
use Rattle.dns_reply.specs.Sayings.{Says, SaysTo}
use Rattle.dns_reply.specs.Sayings.SaysTo.{unreadable, many_opts, failed, records}
use Rattle.dns_reply.specs.Sayings.Says.{truncated, done, refused, asked}
use Rattle.dns_reply.proofs.WithinLemmas.{to_answer}

module _ {X : Type 0} where
  -- if two readings have no fault, the first has none
  none_left : (xs ys : List (Result X Fault)) → first_fault (xs ++ ys) ≡ None → first_fault xs ≡ None
  none_left [] ys e = refl
  none_left (Ok x ∷ xs) ys e = none_left xs ys e
  none_left (Err f ∷ xs) ys e = e

  none_after : (o : Option (Result X Fault)) (xs : List (Result X Fault)) → first_fault (cons_option o xs) ≡ None → first_fault xs ≡ None
  none_after None xs e = e
  none_after (Some (Ok x)) xs e = e
  none_after (Some (Err f)) xs e = absurd (cc)

-- a reading has no fault if what a data type yields for it has none
none_read : (layouts : ℕ → Option Layout) (xs : Records) → first_fault (limited layouts xs) ≡ None → first_fault xs ≡ None
none_read layouts [] e = refl
none_read layouts (Ok x ∷ xs) e = none_read layouts xs (none_after (parsed_as layouts x) (limited layouts xs) e)
none_read layouts (Err f ∷ xs) e = absurd (cc)

module _ (b : List ℕ) (zone name : Labels) (answers : Records) (ttl : ℕ) where
  to_read : (q : QuestionItem) (x : Said) → SaysTo b zone q x → x ≡ Answered name answers ttl → first_fault answers ≡ None
  to_read q x (unreadable h) is = absurd (let f = is in cc)
  to_read q x (many_opts h n) is = absurd (let f = is in cc)
  to_read q x (failed s r t) is = absurd (let f = is in cc)
  to_read q x (records s r o) is =
      let found = to_answer b zone q name answers ttl x (records s r o) is in
      let none = none_read cname_layout (records_of Answer b) (none_left (limited cname_layout (records_of Answer b)) _ s.readable.readable) in
      subst (λ (xs : Records). first_fault xs ≡ None) (sym found.0) none

  said_read : (x : Said) → Says b zone x → x ≡ Answered name answers ttl → first_fault answers ≡ None
  said_read x (truncated e) is = absurd (let f = is in cc)
  said_read x (done e n r) is = absurd (let f = is in cc)
  said_read x (refused e n r) is = absurd (let f = is in cc)
  said_read x (asked {q = q} e n o) is = to_read q x o is

-- Each record of the answer section of an answer was read.
pub answers_are_read : AnswersAreRead
answers_are_read b zone name answers ttl says = said_read b zone name answers ttl (Answered name answers ttl) says refl
