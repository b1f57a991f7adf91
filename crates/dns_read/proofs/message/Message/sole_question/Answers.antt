use Rattle.std.proofs.Common.{◌∙◌, ap, sym}
use Rattle.dns_code.specs.HeaderSection.{header_size}
use Rattle.dns_read.specs.Message.{message_octets}
use Rattle.dns_read.specs.QuestionsFrom.{questions_from}
use Rattle.dns_read.proofs.theory.QuestionsFromLemmas.{questions_from_are_read}
use Rattle.dns_read.proofs.ReadingItems.{has_item}
use Rattle.dns_read.proofs.message.Message.sole_question.Goals as goal

pub returns-in-Some-clause-none : goal.returns-in-Some-clause-none
returns-in-Some-clause-none g c zero =
    let b = message_octets c.args.self.now in
    let none = c.question.ensures.questions ∙ ap (λ n. questions_from b n header_size) zero ∙ (questions_from_are_read b).none header_size in
    absurd (let some = sym c.in-Some.ensures.steps ∙ none in cc)

pub returns-in-None-clause-one : goal.returns-in-None-clause-one
returns-in-None-clause-one g c one =
    let b = message_octets c.args.self.now in
    let left = c.question.ensures.questions ∙ ap (λ n. questions_from b n header_size) one in
    absurd (has_item 0 header_size _ ((questions_from_are_read b).reading 1 header_size) (sym left ∙ c.in-None.ensures.steps.0))
