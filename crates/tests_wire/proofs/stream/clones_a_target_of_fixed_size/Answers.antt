use Rattle.dns_wire.proofs.theory.CompressionTables.{clear_nothing}
use Rattle.tests_wire.proofs.stream.clones_a_target_of_fixed_size.Goals as goal

pub write_at-requires-clause-clear : goal.write_at-requires-clause-clear
write_at-requires-clause-clear g c = clear_nothing 0 1
