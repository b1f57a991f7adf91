use Rattle.std.proofs.Common.{◌∙◌, ap, sym}
use Rattle.dns_code.specs.Header.{fields, fields_in}
use Rattle.dns_read.specs.Message.{message_octets}
use Rattle.dns_read.specs.QuestionSection.{questions_left}
use Rattle.dns_transfer.specs.Asked.{asked_by}
use Rattle.dns_transfer.specs.Messages.RefusesMessage.{before, no_start}
use Rattle.dns_transfer.proofs.MessageLemmas.{error_of_message}
use Rattle.dns_transfer.proofs.message.answers_of.Goals as goal

pub returns-in-Err-clause-refuses : goal.returns-in-Err-clause-refuses
returns-in-Err-clause-refuses g c =
    before (sym (error_of_message (asked_by c.args.query.now) c.args.state (message_octets c.args.message.now) (fields c.header.result) c.opt_rcode-rcode.result
    (questions_left c.question.result)
    (ap fields_in c.header.ensures) c.opt_rcode-rcode.ensures c.question.ensures.questions) ∙ c.in-Err.ensures)

pub returns-in-Err-answer-clause-refuses : goal.returns-in-Err-answer-clause-refuses
returns-in-Err-answer-clause-refuses g c =
    no_start (sym (error_of_message (asked_by c.args.query.now) c.args.state (message_octets c.args.message.now) (fields c.header.result)
    c.opt_rcode-rcode.result (questions_left c.question.result)
    (ap fields_in c.header.ensures) c.opt_rcode-rcode.ensures c.question.ensures.questions) ∙ c.in_default.ensures) c.in-Err-answer.ensures.fault

pub returns-in-Ok-clause-no_error : goal.returns-in-Ok-clause-no_error
returns-in-Ok-clause-no_error g c =
    sym (error_of_message (asked_by c.args.query.now) c.args.state (message_octets c.args.message.now) (fields c.header.result) c.opt_rcode-rcode.result
    (questions_left c.question.result)
    (ap fields_in c.header.ensures) c.opt_rcode-rcode.ensures c.question.ensures.questions) ∙ c.in_default.ensures
