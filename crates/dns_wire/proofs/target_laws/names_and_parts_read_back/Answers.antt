use Rattle.dns_wire.proofs.theory.TargetTheorems as theorems
use Rattle.dns_wire.proofs.target_laws.names_and_parts_read_back.Goals as goal

pub returns : goal.returns
returns c = record { names = theorems.names_read_back; parts = theorems.parts_read_back }
