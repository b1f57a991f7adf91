use Rattle.std.proofs.Common.{◌≡◌, ◌∙◌, Bool, true, false, Some, None, Option, List, [], ◌∷◌, length, ap, sym, refl, arith}
use Rattle.std.specs.Iterator.{YieldsFirstBy}
use Rattle.std.specs.Prelude.{◌&&◌, not, is_some, Result}
use Rattle.dns_octets.specs.declared.error.ParseError.{ParseError}
use Rattle.dns_name.specs.Names.{Fault}
use Rattle.dns_name.specs.declared.parsed_name.ParsedName.{ParsedName}
use Rattle.dns_item.specs.Questions.{QuestionItem}
use Rattle.dns_item.specs.declared.question.Question.{Question}
use Rattle.dns_read.specs.QuestionSection.{question_result, questions_left}
use Rattle.dns_read.specs.SameQuestions.{same_item, same_readings}
use Rattle.dns_read.specs.declared.question_section.QuestionSection.{QuestionSection}
use Rattle.dns_read.proofs.question_section.QuestionSection.same_questions.Goals as goal

-- two readings are the same if their first items are and the remaining items are
heads : (x y : Result QuestionItem Fault) (xs ys all others : List (Result QuestionItem Fault)) → all ≡ x ∷ xs → others ≡ y ∷ ys
    → same_readings all others ≡ same_item x y && same_readings xs ys
heads x y xs ys all others e f = λ i. same_readings (e i) (f i)

-- an empty reading is the same as another only if that has nothing left
ended : (r : Option (Result (Question ParsedName) ParseError)) (old new : QuestionSection) (nothing : Bool) → is_some r ≡ not nothing → YieldsFirstBy question_result questions_left old r new
    → nothing ≡ same_readings [] (questions_left old)
ended None old new true e h = ap (same_readings []) (sym h.0)
ended None old new false e h = absurd (cc)
ended (Some x) old new true e h = absurd (cc)
ended (Some x) old new false e h = ap (same_readings []) (sym h)

pub loop-question-init : goal.loop-question-init
loop-question-init c = refl

pub returns-in_default-next : goal.returns-in_default-next
returns-in_default-next c = (λ i. same_readings (sym c.in-Some.ensures.steps i) (sym c.in_default-next.ensures.steps.0 i)) ∙ c.loop-question.invariant

pub returns-then-not-same_answers : goal.returns-then-not-same_answers
returns-then-not-same_answers c =
    ap (λ (b : Bool). b && same_readings (questions_left c.next.new.self) (questions_left c.next-in-Some.new.self)) c.if-not-same_answers.ensures
    ∙ sym (heads _ _ _ _ _ _ c.in-Some.ensures.steps c.in-Some-next.ensures.steps) ∙ c.loop-question.invariant

pub loop-question-smaller : goal.loop-question-smaller
loop-question-smaller c = let shorter = ap length c.in-Some.ensures.steps in omega (arith, shorter)

pub loop-question-preserved : goal.loop-question-preserved
loop-question-preserved c =
    ap (λ (b : Bool). b && same_readings (questions_left c.next.new.self) (questions_left c.next-in-Some.new.self)) c.if-not-same_answers.ensures
    ∙ sym (heads _ _ _ _ _ _ c.in-Some.ensures.steps c.in-Some-next.ensures.steps) ∙ c.loop-question.invariant

pub returns : goal.returns
returns c =
    ended c.next-2.result c.loop-question.others c.next-2.new.self c.is_none.result c.is_none.ensures c.next-2.ensures.steps
    ∙ ap (λ (xs : List (Result QuestionItem Fault)). same_readings xs (questions_left c.loop-question.others)) (sym c.in_default.ensures.steps.0) ∙ c.loop-question.invariant
