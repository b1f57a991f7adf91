use Rattle.std.proofs.Common.{◌≡◌, ◌↔◌}
use Rattle.dns_name.specs.ParsedName.{labels, labels_left}
use Rattle.dns_name.proofs.compare.same_octets.Given as goal

abbrev pub invariant-loop-label : goal.invariant-loop-label
invariant-loop-label l =
    (goal.iterator-loop-label).can_next l.label-iterator ×
    (goal.iterator-loop-label).is_finite l.label-iterator ×
    ((labels_left l.label-iterator ≡ labels_left l.rest) ↔ (labels l.fn.name ≡ labels l.fn.other))
