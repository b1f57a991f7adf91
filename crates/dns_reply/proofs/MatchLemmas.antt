-- Whether a message is a reply, and why not.
use Rattle.std.proofs.Common.{◌≡◌, ◌∙◌, ◌⊎◌, inl, inr, ℕ, Bool, true, false, List, ap, sym, refl}
use Rattle.std.proofs.lemmas.Bool.{eq-eqb}
use Rattle.std.specs.Bool.{one_answer}
use Rattle.std.specs.Cmp.Lexicographic.{bytes_decides, pointwise_decides}
use Rattle.std.specs.Prelude.{◌||◌, ◌&&◌, ◌==◌, ◌↔◌, IsTrue, Option, Some}
use Rattle.dns_name.specs.Names.{Labels}
use Rattle.dns_item.specs.Questions.{QuestionItem}
use Rattle.dns_read.specs.Searches.{questions_of}
use Rattle.dns_read.specs.SameQuestions.{same_readings}
use Rattle.dns_read.specs.Sections.{question_count}
use Rattle.dns_reply.specs.Laws.{ReplyOrReason, RepliesAnswer}
use Rattle.dns_reply.specs.Matches.{IsReply, IsNotReply, lacks_question, repeats_questions, case_fits, same_case, same_octets}
use Rattle.dns_reply.specs.Sayings.{header_of}
use Rattle.dns_reply.specs.declared.matching.LetterCase.{LetterCase}
use Rattle.dns_reply.specs.declared.reply.NotReply.{NotReply}
use Rattle.dns_reply.specs.declared.reply.NotReply.TheVariants.{NoResponse, OtherId, OtherOpcode, OtherQuestion}

module _ (case : LetterCase) (b query : List ℕ) where
  one_reason : (x y : NotReply) → IsNotReply case b query x → IsNotReply case b query y → x ≡ y
  one_reason NoResponse NoResponse h k = refl
  one_reason NoResponse OtherId h k = absurd (let e = sym h ∙ k.0 in cc)
  one_reason NoResponse OtherOpcode h k = absurd (let e = sym h ∙ k.0 in cc)
  one_reason NoResponse OtherQuestion h k = absurd (let e = sym h ∙ k.0 in cc)
  one_reason OtherId NoResponse h k = absurd (let e = sym k ∙ h.0 in cc)
  one_reason OtherId OtherId h k = refl
  one_reason OtherId OtherOpcode h k = absurd (h.1 k.1)
  one_reason OtherId OtherQuestion h k = absurd (h.1 k.1)
  one_reason OtherOpcode NoResponse h k = absurd (let e = sym k ∙ h.0 in cc)
  one_reason OtherOpcode OtherId h k = absurd (k.1 h.1)
  one_reason OtherOpcode OtherOpcode h k = refl
  one_reason OtherOpcode OtherQuestion h k = absurd (h.2 k.2)
  one_reason OtherQuestion NoResponse h k = absurd (let e = sym k ∙ h.0 in cc)
  one_reason OtherQuestion OtherId h k = absurd (k.1 h.1)
  one_reason OtherQuestion OtherOpcode h k = absurd (k.2 h.2)
  one_reason OtherQuestion OtherQuestion h k = refl

  not_both : (x : NotReply) → IsReply case b query → IsNotReply case b query x → ⊥
  not_both NoResponse is h = absurd (let e = sym is.response ∙ h in cc)
  not_both OtherId is h = h.1 is.id
  not_both OtherOpcode is h = h.2 is.opcode
  not_both OtherQuestion is h = absurd (let e = sym is.questions ∙ h.3 in cc)

-- A message is a reply to a query, or isn't for one reason.
pub reply_or_reason : ReplyOrReason
reply_or_reason = record { one_reason = one_reason; not_both = not_both }

-- one of two tests passes
either : (x y : Bool) → (x || y) ≡ true → (x ≡ true) ⊎ (y ≡ true)
either true y e = inl refl
either false y e = inr e

-- the parts of a conjunction
both_first : (x y : Bool) → (x && y) ≡ true → x ≡ true
both_first true y e = refl
both_first false y e = absurd (cc)

-- all four tests of `answers_query` pass
all_four : (qr id count same : Bool) → qr ≡ true → id ≡ true → (count && same) ≡ true → (qr && id && count && same) ≡ true
all_four true true count same e f g = g
all_four true false count same e f g = absurd (cc)
all_four false id count same e f g = absurd (cc)

-- equal numbers pass the test
same_numbers : (m n : ℕ) → m ≡ n → (m == n) ≡ true
same_numbers = eq-eqb

-- A reply with questions is one that `Message::is_answer` accepts.
pub replies_answer : RepliesAnswer
replies_answer case b query is =
    elim (either (lacks_question b) (repeats_questions case b query) is.questions) [
      | inl lacks ↦ inl lacks
      | inr repeats ↦
          let same = both_first ((question_count b == question_count query) && same_readings (questions_of b) (questions_of query)) (case_fits case b query) repeats in
          inr (all_four (header_of b).qr ((header_of b).id == (header_of query).id) (question_count b == question_count query) (same_readings (questions_of b) (questions_of query))
          is.response (same_numbers (header_of b).id (header_of query).id is.id) same)
    ]

-- A test that is true exactly if two names are the same says whether their octets are.
same_octets_told : (r : Bool) (m n : Labels) → IsTrue r ↔ (m ≡ n) → r ≡ same_octets m n
same_octets_told r m n told = one_answer r (same_octets m n) told (pointwise_decides bytes_decides m n)

-- Such a test of the names of two questions says whether these have the same letter case.
pub same_case_told : (r : Bool) (o p : Option QuestionItem) (x y : QuestionItem) → Some x ≡ o → Some y ≡ p → IsTrue r ↔ (x.name ≡ y.name) → r ≡ same_case o p
same_case_told r o p x y e f told = same_octets_told r x.name y.name told ∙ ap (λ (q : Option QuestionItem). same_case q (Some y)) e ∙ ap (same_case o) f
