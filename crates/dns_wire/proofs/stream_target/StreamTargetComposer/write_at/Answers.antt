use Rattle.dns_wire.proofs.theory.CompressionTables.{clear_plain}
use Rattle.dns_wire.proofs.Streams.{over}
use Rattle.dns_wire.proofs.stream_target.StreamTargetComposer.write_at.Goals as goal

pub write_at-requires-clause-clear : goal.write_at-requires-clause-clear
write_at-requires-clause-clear g c = clear_plain _ _ _ (g.met.T.Composer.plain_forgets c.self.invariant.plain _)

pub returns : goal.returns
returns g c = over _ _ _ c.args.octets.now c.args.offset c.self.invariant.long c.write_at.ensures c.self.view_is
