use Rattle.std.proofs.Common.{refl}
use Rattle.dns_read.specs.Message.{message_octets}
use Rattle.dns_read.specs.QuestionSection.{BeginsQuestions}
use Rattle.dns_read.specs.declared.section.Section.TheVariants.{Answer, Authority, Additional}
use Rattle.dns_read.proofs.theory.SectionLemmas.{begins_answers, begins_next}
use Rattle.dns_read.proofs.message.Message.sections.Goals as goal

pub returns-clause-authority : goal.returns-clause-authority
returns-clause-authority g c =
    let b = message_octets c.args.self.now in
    let q = c.question-question.ensures in
    let question : BeginsQuestions b c.question-question.result = record { octets = q.octets; start = q.position; count = q.count; questions = q.questions } in
    let answer = begins_answers b c.question-question.result c.in_ok-answer.answer question c.in_ok-answer.ensures in
    begins_next Answer Authority b c.in_ok-answer.answer c.in_ok-authority.authority refl answer c.in_ok-authority.ensures

pub returns-clause-additional : goal.returns-clause-additional
returns-clause-additional g c =
    begins_next Authority Additional (message_octets c.args.self.now) c.in_ok-authority.authority c.in_ok-additional.additional refl (returns-clause-authority g c) c.in_ok-additional.ensures
