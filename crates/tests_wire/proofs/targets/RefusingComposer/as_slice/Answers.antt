use Rattle.dns_wire.proofs.theory.CompressionTables.{nothing_is_kept}
use Rattle.tests_wire.proofs.targets.RefusingComposer.as_slice.Goals as goal

pub returns-clause-is_target : goal.returns-clause-is_target
returns-clause-is_target c = nothing_is_kept _
