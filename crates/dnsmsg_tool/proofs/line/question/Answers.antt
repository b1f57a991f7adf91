use Rattle.std.proofs.Common.{◌∙◌, ℕ, List, subst}
use Rattle.std.specs.Prelude.{Ok}
use Rattle.dns_name.specs.NameReading.{name_labels}
use Rattle.dns_item.specs.Question.{question_item}
use Rattle.dns_item.specs.QuestionTexts.{ReadsText}
use Rattle.dnsmsg_tool.proofs.LineLemmas.{no_question}
use Rattle.dnsmsg_tool.proofs.line.question.Goals as goal

pub returns-in-Ok : goal.returns-in-Ok
returns-in-Ok c = subst (λ (text : List ℕ). ReadsText text (Ok (question_item name_labels c.in-Ok.question))) (c.deref.ensures ∙ c.in_ok-spaced.ensures) c.in-Ok.ensures

pub returns-in-Err-Presentation : goal.returns-in-Err-Presentation
returns-in-Err-Presentation c =
    no_question c.args.words.now c.deref.result.now c.vec_from_str.result _ _ (c.deref.ensures ∙ c.in_ok-spaced.ensures)
    c.in-Err-Presentation.is c.in-Err-Presentation.field-0-is c.vec_from_str.ensures
