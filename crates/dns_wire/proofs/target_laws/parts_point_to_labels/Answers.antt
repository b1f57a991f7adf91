use Rattle.dns_wire.proofs.theory.TargetTheorems as offsets
use Rattle.dns_wire.proofs.target_laws.parts_point_to_labels.Goals as goal

pub returns : goal.returns
returns c = offsets.parts_point_to_labels
