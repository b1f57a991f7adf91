-- Why a push fails if there is no limit and no bound on the capacity: only because an allocation failed.
use Rattle.std.proofs.Common.{◌≡◌, ◌∙◌, ℕ, ◌+◌, ◌<◌, ◌≤◌, Bool, List, [], ◌∷◌, ◌++◌, length, length-append, ap, sym, refl, subst, arith, None}
use Rattle.std.proofs.lemmas.List.{length-map}
use Rattle.std.specs.Prelude.{option_map, Option, Some, Result, Ok, Err}
use Rattle.dns_message.specs.Names.{Fault}
use Rattle.dns_message.specs.Targets.{Static}
use Rattle.dns_message.specs.Questions.{QuestionItem}
use Rattle.dns_message.specs.Records.{RecordItem, EncodedRecord}
use Rattle.dns_message.specs.declared.record.ParsedRecord.{ParsedRecord}
use Rattle.dns_message.proofs.CallerLemmas.{readings_of_records_end, records_from_are_read, every_append}
use Rattle.dns_message.specs.Sections.{in_octets, records_from, records_in, record_count}
use Rattle.dns_message.specs.declared.message.Section.{Section}
use Rattle.dns_message.specs.declared.message.Section.TheVariants.{Answer, Authority, Additional}
use Rattle.dns_message.specs.Builders.{RefusesAfter, CopiesList, CopiesSection, CopiesSections, PushesKept, record_sections, none as no_record}
use Rattle.dns_message.specs.Builders.{copied as record_copied, refused, fault, started, unstarted, none as no_section, copied as section_copied, stopped}
use Rattle.dns_message.specs.Builders.{PushReturns, size_after, Every, InAdditional, InAnswer, InAuthority, InBuilder, InQuestion, Stage, State, most_entries}
use Rattle.dns_message.specs.Builders.{move_to, no_limit, records_at, stage_of, up_to, with_question, with_questions, with_record}
use Rattle.dns_message.specs.declared.builder.CopyRecordsError.{CopyRecordsError}
use Rattle.dns_message.specs.declared.builder.CopyRecordsError.TheVariants.{Push}
use Rattle.dns_message.specs.declared.builder.PushError.{PushError}
use Rattle.dns_message.specs.declared.builder.PushError.TheVariants.{CountOverflow, LimitExceeded, ShortBuf, OutOfMemory}
use Rattle.example_rewrite.proofs.Sizes.{HasShortItems, IsNamed, IsShort, items_of, short_message}

-- a state without a limit, with short items, each section within the greatest count
pub record IsOpen (s : State) : Type 0 where
  pub limit : s.limit ≡ no_limit
  pub short : HasShortItems s
  pub questions : length s.questions ≤ most_entries
  pub answers : length s.answers ≤ most_entries
  pub authorities : length s.authorities ≤ most_entries
  pub additionals : length s.additionals ≤ most_entries

-- what holds of all elements of two lists together holds of those of each
every_parts : {X : Type 0} (P : X → Type 0) (xs ys : List X) → Every P (xs ++ ys) → Every P xs × Every P ys
every_parts P [] ys all = (tt, all)
every_parts P (x ∷ xs) ys all = let rest = every_parts P xs ys all.1 in ((all.0, rest.0), rest.1)

-- with a further short record, a state still has short items
more_short : (stage : Stage) (s : State) (x : RecordItem) → HasShortItems s → IsShort x → HasShortItems (with_record stage x s)
more_short InBuilder s x is one = is
more_short InQuestion s x is one = is
more_short InAnswer s x is one = record { questions = is.questions; answers = every_append IsShort s.answers (x ∷ []) is.answers (one, tt); authorities = is.authorities; additionals = is.additionals }
more_short InAuthority s x is one =
    record { questions = is.questions; answers = is.answers; authorities = every_append IsShort s.authorities (x ∷ []) is.authorities (one, tt); additionals = is.additionals }
more_short InAdditional s x is one =
    record { questions = is.questions; answers = is.answers; authorities = is.authorities; additionals = every_append IsShort s.additionals (x ∷ []) is.additionals (one, tt) }

-- and it has one item more
more_items : (stage : Stage) (s : State) (x : RecordItem) → items_of (with_record stage x s) ≤ items_of s + 1
more_items InBuilder s x = omega arith
more_items InQuestion s x = omega arith
more_items InAnswer s x = let n = length-append s.answers (x ∷ []) in omega (arith, n)
more_items InAuthority s x = let n = length-append s.authorities (x ∷ []) in omega (arith, n)
more_items InAdditional s x = let n = length-append s.additionals (x ∷ []) in omega (arith, n)

-- so it is within the limit
within_limit : (stage : Stage) (s : State) (x : RecordItem) → IsOpen s → IsShort x → size_after Static (with_record stage x) s ≤ s.limit
within_limit stage s x is one =
    let a = short_message (with_record stage x s) (more_short stage s x is.short one) in
    let b = more_items stage s x in
    let c = is.questions in
    let d = is.answers in
    let e = is.authorities in
    let f = is.additionals in
    let l = is.limit in
    omega (arith, a, b, c, d, e, f, l)

-- it is open again if the record can be counted
more_open : (stage : Stage) (s : State) (x : RecordItem) → IsOpen s → IsShort x → length (records_at stage s) < most_entries → IsOpen (with_record stage x s)
more_open InBuilder s x is one few = is
more_open InQuestion s x is one few = is
more_open InAnswer s x is one few =
    let n = length-append s.answers (x ∷ []) in
    record { limit = is.limit; short = more_short InAnswer s x is.short one; questions = is.questions; answers = omega (arith, n, few); authorities = is.authorities; additionals = is.additionals }
more_open InAuthority s x is one few =
    let n = length-append s.authorities (x ∷ []) in
    record { limit = is.limit; short = more_short InAuthority s x is.short one; questions = is.questions; answers = is.answers; authorities = omega (arith, n, few); additionals = is.additionals }
more_open InAdditional s x is one few =
    let n = length-append s.additionals (x ∷ []) in
    record { limit = is.limit; short = more_short InAdditional s x is.short one; questions = is.questions; answers = is.answers; authorities = is.authorities; additionals = omega (arith, n, few) }

-- moving to the next section keeps a state open
moved_open : (section : Section) (s : State) → IsOpen s → IsOpen (move_to (stage_of section) s)
moved_open Answer s is = record {
  limit = is.limit;
  short = record { questions = is.short.questions; answers = is.short.answers; authorities = tt; additionals = tt };
  questions = is.questions;
  answers = is.answers;
  authorities = omega arith;
  additionals = omega arith;
}
moved_open Authority s is = record {
  limit = is.limit;
  short = record { questions = is.short.questions; answers = is.short.answers; authorities = is.short.authorities; additionals = tt };
  questions = is.questions;
  answers = is.answers;
  authorities = is.authorities;
  additionals = omega arith;
}
moved_open Additional s is = record {
  limit = is.limit;
  short = record { questions = is.short.questions; answers = is.short.answers; authorities = is.short.authorities; additionals = is.short.additionals };
  questions = is.questions;
  answers = is.answers;
  authorities = is.authorities;
  additionals = is.additionals;
}

-- further questions with valid names
asked_short : (s : State) (xs : List QuestionItem) → HasShortItems s → Every IsNamed xs → HasShortItems (with_questions xs s)
asked_short s xs is all = record { questions = every_append IsNamed s.questions xs is.questions all; answers = is.answers; authorities = is.authorities; additionals = is.additionals }

asked_within : (s : State) (x : QuestionItem) → IsOpen s → IsNamed x → size_after Static (with_question x) s ≤ s.limit
asked_within s x is one =
    let a = short_message (with_question x s) (asked_short s (x ∷ []) is.short (one, tt)) in
    let n = length-append s.questions (x ∷ []) in
    let c = is.questions in
    let d = is.answers in
    let e = is.authorities in
    let f = is.additionals in
    let l = is.limit in
    omega (arith, a, n, c, d, e, f, l)

asked_open : (s : State) (xs : List QuestionItem) → IsOpen s → Every IsNamed xs → length s.questions + length xs ≤ most_entries → IsOpen (with_questions xs s)
asked_open s xs is all few =
    let n = length-append s.questions xs in
    record { limit = is.limit; short = asked_short s xs is.short all; questions = omega (arith, n, few); answers = is.answers; authorities = is.authorities; additionals = is.additionals }

-- An open state at a stage, without records of later sections, onto which `left` more records can be pushed and counted.
pub record CanTake (stage : Stage) (left : ℕ) (s : State) : Type 0 where
  pub is_open : IsOpen s
  pub last : s ≡ up_to stage s
  pub counted : length (records_at stage s) + left ≤ most_entries

-- pushing a record onto a stage's own list leaves the later lists empty
last_more : (stage : Stage) (s : State) (x : RecordItem) → s ≡ up_to stage s → with_record stage x s ≡ up_to stage (with_record stage x s)
last_more InBuilder s x e = e
last_more InQuestion s x e = e
last_more InAnswer s x e = ap (with_record InAnswer x) e
last_more InAuthority s x e = ap (with_record InAuthority x) e
last_more InAdditional s x e = refl

-- and adds one record there
one_more : (stage : Stage) (s : State) (x : RecordItem) → length (records_at stage (with_record stage x s)) ≤ length (records_at stage s) + 1
one_more InBuilder s x = omega arith
one_more InQuestion s x = omega arith
one_more InAnswer s x = let n = length-append s.answers (x ∷ []) in omega (arith, n)
one_more InAuthority s x = let n = length-append s.authorities (x ∷ []) in omega (arith, n)
one_more InAdditional s x = let n = length-append s.additionals (x ∷ []) in omega (arith, n)

-- fewer records can be pushed too
fewer : (stage : Stage) {m n : ℕ} {s : State} → n ≤ m → CanTake stage m s → CanTake stage n s
fewer stage less can = record { is_open = can.is_open; last = can.last; counted = let l = can.counted in omega (arith, less, l) }

-- a reading has at most as many records as the count says
in_reading : (b : List ℕ) (n p : ℕ) → length (records_in b n p) ≤ n
unfolding records_in
in_reading b n p =
    let e = length-map (records_from b n p) (in_octets b) in
    let l = (readings_of_records_end b).short n p (records_from b n p) ((records_from_are_read b).reading n p) in
    omega (arith, e, l)

-- a section takes as many records as can be counted if nothing was pushed into it
takes_answers : (s : State) → IsOpen s → s.answers ≡ [] → CanTake InAnswer most_entries (move_to InAnswer s)
takes_answers s is none =
    let e = ap (λ (xs : List RecordItem). length xs) none in
    record { is_open = moved_open Answer s is; last = refl; counted = omega (arith, e) }

takes_authorities : (s : State) → CanTake InAnswer 0 s → CanTake InAuthority most_entries (move_to InAuthority s)
takes_authorities s can =
    let e = ap (λ (t : State). length t.authorities) can.last in
    record { is_open = moved_open Authority s can.is_open; last = refl; counted = omega (arith, e) }

takes_additionals : (s : State) → CanTake InAuthority 0 s → CanTake InAdditional most_entries (move_to InAdditional s)
takes_additionals s can =
    let e = ap (λ (t : State). length t.additionals) can.last in
    record { is_open = moved_open Additional s can.is_open; last = refl; counted = omega (arith, e) }

-- no section of a message has more records than can be counted
pub record AreFew (b : List ℕ) : Type 0 where
  pub answers : record_count Answer b ≤ most_entries
  pub authorities : record_count Authority b ≤ most_entries
  pub additionals : record_count Additional b ≤ most_entries

module _ (grows : Bool) where
  question_refused : (s : State) (x : QuestionItem) (left : ℕ) (e : PushError) → IsOpen s → IsNamed x → length s.questions + (left + 1) ≤ most_entries
      → PushReturns None grows s.limit (size_after Static (with_question x) s) (length s.questions) (Err e) → e ≡ OutOfMemory
  question_refused s x left OutOfMemory is one few p = refl
  question_refused s x left ShortBuf is one few p = absurd p
  question_refused s x left LimitExceeded is one few p = let l = asked_within s x is one in let q = p.1 in absurd (omega (arith, l, q))
  question_refused s x left CountOverflow is one few p = let q = p.2 in absurd (omega (arith, few, q))

  -- pushing one of several questions fails only because an allocation failed
  pub asking_refused : (s : State) (xs first : List QuestionItem) (e : PushError) → IsOpen s → Every IsNamed xs → length s.questions + length xs ≤ most_entries
      → RefusesAfter None grows Static s xs first e → e ≡ OutOfMemory
  asking_refused s xs first e is all few p =
      let named = every_parts IsNamed first (p.next ∷ p.others) (subst (Every IsNamed) p.all all) in
      let l = ap (λ (ys : List QuestionItem). length ys) p.all in
      let m = length-append first (p.next ∷ p.others) in
      let n = length-append s.questions first in
      question_refused (with_questions first s) p.next (length p.others) e (asked_open s first is named.0 (omega (arith, few, l, m))) named.1.0 (omega (arith, few, l, m, n)) p.refused

  -- pushing a short record fails only because an allocation failed
  push_refused : (stage : Stage) (s : State) (x : RecordItem) (left : ℕ) (e : PushError) → CanTake stage (left + 1) s → IsShort x
      → PushReturns None grows s.limit (size_after Static (with_record stage x) s) (length (records_at stage s)) (Err e) → e ≡ OutOfMemory
  push_refused stage s x left OutOfMemory can one p = refl
  push_refused stage s x left ShortBuf can one p = absurd p
  push_refused stage s x left LimitExceeded can one p = let l = within_limit stage s x can.is_open one in let q = p.1 in absurd (omega (arith, l, q))
  push_refused stage s x left CountOverflow can one p = let l = can.counted in let q = p.2 in absurd (omega (arith, l, q))

  module _ {R : Type 0} (item : R → RecordItem) (short : (r : R) → IsShort (item r)) where
    -- so does pushing what is kept of a record
    kept_refused : (stage : Stage) (s t : State) (kept : Option R) (left : ℕ) (e : PushError) → CanTake stage (left + 1) s
        → PushesKept None grows Static stage (option_map item kept) s (Err e) t → e ≡ OutOfMemory
    kept_refused stage s t None left e can p = let k : Err e ≡ Ok tt = p.0 in absurd (cc)
    kept_refused stage s t (Some r) left e can p = push_refused stage s (item r) left e can (short r) p.0

    -- after it is pushed, one record fewer can be pushed
    kept_pushed : (stage : Stage) (s t : State) (kept : Option R) (left : ℕ) → CanTake stage (left + 1) s
        → PushesKept None grows Static stage (option_map item kept) s (Ok tt) t → CanTake stage left t
    kept_pushed stage s t None left can p =
        let l = can.counted in
        subst (CanTake stage left) (sym p.1) (record { is_open = can.is_open; last = can.last; counted = omega (arith, l) })
    kept_pushed stage s t (Some r) left can p =
        let l = can.counted in
        let n = one_more stage s (item r) in
        subst (CanTake stage left) (sym p.1) (record {
          is_open = more_open stage s (item r) can.is_open (short r) p.0.2;
          last = last_more stage s (item r) can.last;
          counted = omega (arith, l, n);
        })

    module _ {F : Type 0} (call : F → ParsedRecord → Option R → F → Type 0) where
      list_refused : (stage : Stage) (e : PushError) {xs : List (Result EncodedRecord Fault)} {f g : F} {s t : State} {result : Result (Unit {0}) CopyRecordsError}
          → CopiesList call item None grows Static stage xs f s result g t → result ≡ Err (Push e) → CanTake stage (length xs) s → e ≡ OutOfMemory
      list_refused stage e no_record is can = absurd (cc)
      list_refused stage e (record_copied {xs = xs} one rest) is can =
          let more : CanTake stage (length xs + 1) _ = record { is_open = can.is_open; last = can.last; counted = let l = can.counted in omega (arith, l) } in
          list_refused stage e rest is (kept_pushed stage _ _ one.kept (length xs) more one.pushed)
      list_refused stage e (refused {xs = xs} {e = e'} one) is can =
          let more : CanTake stage (length xs + 1) _ = record { is_open = can.is_open; last = can.last; counted = let l = can.counted in omega (arith, l) } in
          let same : e' ≡ e = cc in
          sym same ∙ kept_refused stage _ _ one.kept (length xs) e' more one.pushed
      list_refused stage e fault is can = absurd (cc)

      list_copied : (stage : Stage) {xs : List (Result EncodedRecord Fault)} {f g : F} {s t : State} {result : Result (Unit {0}) CopyRecordsError}
          → CopiesList call item None grows Static stage xs f s result g t → result ≡ Ok tt → CanTake stage (length xs) s → CanTake stage 0 t
      list_copied stage no_record is can = can
      list_copied stage (record_copied {xs = xs} one rest) is can =
          let more : CanTake stage (length xs + 1) _ = record { is_open = can.is_open; last = can.last; counted = let l = can.counted in omega (arith, l) } in
          list_copied stage rest is (kept_pushed stage _ _ one.kept (length xs) more one.pushed)
      list_copied stage (refused one) is can = absurd (cc)
      list_copied stage fault is can = absurd (cc)

      section_refused : (b : List ℕ) (section : Section) (e : PushError) {f g : F} {s t : State} {result : Result (Unit {0}) CopyRecordsError}
          → CopiesSection call item None grows Static b section f s result g t → result ≡ Err (Push e) → record_count section b ≤ most_entries
          → CanTake (stage_of section) most_entries s → e ≡ OutOfMemory
      section_refused b section e (started p starts copies) is few can =
          let l = in_reading b (record_count section b) p in
          list_refused (stage_of section) e copies is (fewer (stage_of section) (omega (arith, few, l)) can)
      section_refused b section e (unstarted faulty) is few can = absurd (cc)

      section_taken : (b : List ℕ) (section : Section) {f g : F} {s t : State} {result : Result (Unit {0}) CopyRecordsError}
          → CopiesSection call item None grows Static b section f s result g t → result ≡ Ok tt → record_count section b ≤ most_entries
          → CanTake (stage_of section) most_entries s → CanTake (stage_of section) 0 t
      section_taken b section (started p starts copies) is few can =
          let l = in_reading b (record_count section b) p in
          list_copied (stage_of section) copies is (fewer (stage_of section) (omega (arith, few, l)) can)
      section_taken b section (unstarted faulty) is few can = absurd (cc)

      -- if all records can be counted, copying them onto an open state without answers fails at a push only because an allocation failed
      pub copying_refused : (b : List ℕ) (e : PushError) {f g : F} {s t : State} {result : Result (Unit {0}) CopyRecordsError}
          → CopiesSections call item None grows Static b record_sections f s result g t → result ≡ Err (Push e) → AreFew b → IsOpen s → s.answers ≡ [] → e ≡ OutOfMemory
      copying_refused b e (stopped one) is few is_open none =
          section_refused b Answer e one is few.answers (takes_answers _ is_open none)
      copying_refused b e (section_copied one (stopped two)) is few is_open none =
          let first = section_taken b Answer one refl few.answers (takes_answers _ is_open none) in
          section_refused b Authority e two is few.authorities (takes_authorities _ first)
      copying_refused b e (section_copied one (section_copied two (stopped three))) is few is_open none =
          let first = section_taken b Answer one refl few.answers (takes_answers _ is_open none) in
          let second = section_taken b Authority two refl few.authorities (takes_authorities _ first) in
          section_refused b Additional e three is few.additionals (takes_additionals _ second)
      copying_refused b e (section_copied one (section_copied two (section_copied three no_section))) is few is_open none = absurd (cc)
