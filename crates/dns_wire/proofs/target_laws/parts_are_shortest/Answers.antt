use Rattle.dns_wire.proofs.theory.TargetTheorems as offsets
use Rattle.dns_wire.proofs.theory.ShortestEncoders as encoders
use Rattle.dns_wire.proofs.target_laws.parts_are_shortest.Goals as goal

pub returns : goal.returns
returns c = record { shortest = encoders.parts_are_shortest; in_range = offsets.short_parts_are_in_pointer_range }
