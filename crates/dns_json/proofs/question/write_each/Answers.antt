use Rattle.std.proofs.Common.{List, ap, map, refl}
use Rattle.std.specs.Prelude.{Result}
use Rattle.dns_name.specs.Names.{Fault}
use Rattle.dns_item.specs.Questions.{QuestionItem}
use Rattle.json_print.proofs.theory.Pieces.{no_items_printed, items_printed_more, all_items_printed}
use Rattle.dns_json.specs.Entries.{readable}
use Rattle.dns_json.specs.Messages.{question_json}
use Rattle.dns_json.proofs.EntryTexts.{entry_first}
use Rattle.dns_json.proofs.question.write_each.Goals as goal
use Rattle.dns_read.specs.QuestionSection.{question_result, questions_left}

pub loop-question-init : goal.loop-question-init
loop-question-init g c = no_items_printed _ _ _ _ refl

pub loop-question-preserved : goal.loop-question-preserved
loop-question-preserved g c =
    items_printed_more _ _ _ _ _ _ _ _ _ _ c.loop-question.invariant c.in_ok-later.ensures.text
    (entry_first question_json c.loop-question.later _ (questions_left c.loop-question.questions) (question_result c.in-Some.question)
    (questions_left c.next.new.self) c.in-Some.ensures.steps c.in_ok-later.ensures.later)

pub returns-clause-text : goal.returns-clause-text
returns-clause-text g c = λ ok.
    all_items_printed _ _ _ _ _ _ c.loop-question.invariant
    (ap (λ (xs : List (Result QuestionItem Fault)). map question_json (readable xs)) c.in_default.ensures.steps.0)
