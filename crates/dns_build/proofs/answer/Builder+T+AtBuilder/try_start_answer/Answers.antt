use Rattle.std.proofs.Common.{◌≡◌, ◌∙◌, ap, subst}
use Rattle.dns_code.specs.Header.{HeaderFields, fields}
use Rattle.dns_read.specs.Message.{message_octets}
use Rattle.dns_build.specs.Opt.{with_rcode}
use Rattle.dns_build.specs.Answers.{RepresentsAnswer, answering}
use Rattle.dns_build.specs.State.{State, with_header, with_questions}
use Rattle.dns_build.proofs.answer.Builder+T+AtBuilder.try_start_answer.Goals as goal

pub returns-in-Ok : goal.returns-in-Ok
returns-in-Ok g c s represents =
    let asks = rw c.in-Ok.is at c.push_questions.ensures _ (c.answering-builder.ensures s represents) in
    (asks.0, c.answer.ensures _ asks.1)

pub returns-in-Err : goal.returns-in-Err
returns-in-Err g c s represents =
    let asks = rw c.in-Err.is at c.push_questions.ensures _ (c.answering-builder.ensures s represents) in
    let left : State = with_questions asks.0 (answering c.args.rcode (message_octets c.args.msg.now) s) in
    let header : fields c.with_rcode.result ≡ with_rcode 2 left.header = c.with_rcode.ensures ∙ ap (with_rcode 2) (c.header.ensures left asks.2) in (
      _,
      asks.0,
      asks.1,
      subst (λ (h : HeaderFields). RepresentsAnswer g.T.Composer.rule (with_header h left) c.answer-in-Err.result) header (c.answer-in-Err.ensures _ (c.set_header.ensures left asks.2)),
    )
