use Rattle.std.proofs.Common.{◌≡◌, ◌∙◌, ap, subst}
use Rattle.dns_code.specs.Header.{HeaderFields, fields, fields_in}
use Rattle.dns_code.proofs.theory.HeaderOctets.{fields_in-take}
use Rattle.dns_read.specs.Message.{message_octets}
use Rattle.dns_build.specs.Answers.{answer_header}
use Rattle.dns_build.specs.BuilderStates.{Represents}
use Rattle.dns_build.specs.State.{InQuestion, move_to, with_header}
use Rattle.dns_build.proofs.answer.Builder+T+AtBuilder.answering.Goals as goal

pub returns : goal.returns
returns g c s represents =
    let asked : fields c.header.result ≡ fields_in (message_octets c.args.msg.now) = ap fields_in c.header.ensures ∙ fields_in-take (message_octets c.args.msg.now) in
    let own = c.header-2.ensures s represents in
    let header : fields c.answer_header.result ≡ answer_header c.args.rcode (fields_in (message_octets c.args.msg.now)) s.header =
    c.answer_header.ensures ∙ (λ i. answer_header c.args.rcode (asked i) (own i)) in
    subst (λ (h : HeaderFields). Represents InQuestion g.T.Composer.rule (move_to InQuestion (with_header h s)) c.question.result) header (c.question.ensures _ (c.set_header.ensures s represents))
