use Rattle.std.proofs.Common.{◌∙◌, List, Some, ap, length}
use Rattle.std.specs.Prelude.{Result}
use Rattle.dns_item.specs.Questions.{QuestionItem}
use Rattle.dns_name.specs.Names.{Fault}
use Rattle.dns_read.specs.Message.{message_octets}
use Rattle.dns_json.specs.Entries.{is_readable}
use Rattle.dns_json.specs.Messages.{ends_at}
use Rattle.dns_json.proofs.Readings.{answers_read, authorities_read, additionals_read, end_read, whole_is}
use Rattle.dns_json.proofs.readable.is_whole.Goals as goal

pub returns : goal.returns
returns c =
    let b = message_octets c.args.message.now in
    c.are_all.ensures
    ∙ whole_is b _ _ _ _ _ (c.are_readable-questions.ensures ∙ ap (λ (xs : List (Result QuestionItem Fault)). is_readable (Some xs)) c.question.ensures.questions)
    (c.is_readable-answers.ensures ∙ ap is_readable (answers_read b c.answer.result c.answer.ensures.starts c.answer.ensures.fault))
    (c.is_readable-authorities.ensures ∙ ap is_readable (authorities_read b c.authority.result c.authority.ensures.starts c.authority.ensures.fault))
    (c.is_readable-additionals.ensures ∙ ap is_readable (additionals_read b c.additional-last.result c.additional-last.ensures.starts c.additional-last.ensures.fault))
    (c.ends_at-ends.ensures
    ∙ (λ i. ends_at (end_read b c.additional-last.result c.additional-last.ensures.starts c.additional-last.ensures.fault i) (length (c.as_slice.ensures.octets i))))
