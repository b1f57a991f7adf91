use Rattle.std.proofs.Common.{◌∙◌, inl, inr, refl, subst, sym}
use Rattle.std.proofs.lemmas.Bool.{false≢true}
use Rattle.dns_item.specs.Question.{parsed_question}
use Rattle.dns_name.specs.ParsedName.{labels}
use Rattle.dns_read.specs.Message.{message_octets}
use Rattle.dns_reply.specs.Replies.{said_of}
use Rattle.dns_reply.specs.Said.Said.{Failed}
use Rattle.dns_reply.specs.Sayings.{SaysTo}
use Rattle.dns_reply.specs.Sayings.SaysTo.{failed}
use Rattle.dns_reply.proofs.SayingLemmas.{of_message}
use Rattle.dns_reply.proofs.saying.said_soundly.Goals as goal

pub returns-then-not-is_of_name : goal.returns-then-not-is_of_name
returns-then-not-is_of_name g c =
    let is = c.opt_rcode-rcode.ensures in
    let no = c.if-not-is_of_name.ensures.1 in
    subst (λ n. SaysTo (message_octets c.args.received.now) (labels c.args.zone.now) (parsed_question c.args.question.now) (Failed n)) (sym is)
    (failed c.requires.sound (λ e. false≢true (no (inl (is ∙ e)))) (λ e. false≢true (no (inr (is ∙ e)))))

pub said_of_question-requires : goal.said_of_question-requires
said_of_question-requires g c = c.if-not-is_of_name.ensures.0 refl

pub returns : goal.returns
returns g c =
    let b = message_octets c.args.received.now in
    of_message b c.args.answers c.args.authorities (labels c.args.zone.now) (parsed_question c.args.question.now) c.opt_rcode-rcode.result (said_of c.said_of_question.result)
    c.requires.answers c.requires.authorities c.requires.sound c.opt_rcode-rcode.ensures (c.if-not-is_of_name.ensures.0 refl) c.said_of_question.ensures
