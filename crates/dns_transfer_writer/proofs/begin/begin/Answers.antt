use Rattle.std.proofs.Common.{◌≡◌, ◌∙◌, ℕ, ap, subst, sym}
use Rattle.dns_code.specs.Header.{fields, fields_in}
use Rattle.dns_code.proofs.theory.HeaderOctets.{fields_in-take}
use Rattle.dns_read.specs.Message.{message_octets}
use Rattle.dns_build.specs.BuilderStates.{Built, Represents, fresh}
use Rattle.dns_build.specs.State.{InBuilder, with_limit}
use Rattle.dns_transfer_writer.specs.Messages.{CantBegin, transfer_header}
use Rattle.dns_transfer_writer.proofs.MessageLemmas.{begins-first, begins-later, no-header}
use Rattle.dns_transfer_writer.proofs.begin.begin.Goals as goal

pub returns-in-Err : goal.returns-in-Err
returns-in-Err g c =
    subst (CantBegin g.T.Composer.capacity g.T.Composer.grows g.T.Composer.rule c.args.begun c.args.limit (message_octets c.args.query.now)) (sym c.from.ensures)
    (no-header _ _ _ _ _ Built _ c.in-Err.error c.in-Err.ensures.outcome)

pub returns-then-begun : goal.returns-then-begun
returns-then-begun g c =
    let limited = subst (λ (n : ℕ). Represents InBuilder g.T.Composer.rule (with_limit n fresh) c.set_push_limit.new.self) c.from-2.ensures (c.set_push_limit.ensures _ c.in-Ok.ensures.fresh) in
    let asked : fields c.header.result ≡ fields_in (message_octets c.args.query.now) = ap fields_in c.header.ensures ∙ fields_in-take (message_octets c.args.query.now) in
    let header : fields c.transfer_header.result ≡ transfer_header (fields_in (message_octets c.args.query.now)) = c.transfer_header.ensures ∙ ap transfer_header asked in
    begins-later g.T.Composer.capacity g.T.Composer.grows _ _ _ _ _ _ c.if-begun.true header (c.answer.ensures _ (c.set_header.ensures _ limited))

pub returns-else-begun : goal.returns-else-begun
returns-else-begun g c =
    let limited = subst (λ (n : ℕ). Represents InBuilder g.T.Composer.rule (with_limit n fresh) c.set_push_limit.new.self) c.from-2.ensures (c.set_push_limit.ensures _ c.in-Ok.ensures.fresh) in
    let asked : fields c.header.result ≡ fields_in (message_octets c.args.query.now) = ap fields_in c.header.ensures ∙ fields_in-take (message_octets c.args.query.now) in
    let header : fields c.transfer_header.result ≡ transfer_header (fields_in (message_octets c.args.query.now)) = c.transfer_header.ensures ∙ ap transfer_header asked in
    begins-first g.T.Composer.capacity g.T.Composer.grows _ _ _ _ _ _ c.if-begun.false header (c.start_answer.ensures _ (c.set_header.ensures _ limited))
