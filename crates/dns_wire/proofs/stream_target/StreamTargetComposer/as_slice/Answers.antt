use Rattle.dns_wire.proofs.theory.CompressionTables.{nothing_is_kept}
use Rattle.dns_wire.proofs.Streams.{fits}
use Rattle.dns_wire.proofs.stream_target.StreamTargetComposer.as_slice.Goals as goal

pub returns-clause-is_target : goal.returns-clause-is_target
returns-clause-is_target g c = nothing_is_kept _

pub returns-clause-fits : goal.returns-clause-fits
returns-clause-fits g c = fits _ (g.T.Composer.written c.self.inside.target) _ c.self.invariant.long c.self.invariant.short c.as_slice.ensures.fits c.self.view_is
