use Rattle.std.proofs.Common.{◌≡◌, ◌↔◌}
use Rattle.dns_name.specs.ParsedName.{labels, labels_left}
use Rattle.dns_name.specs.Names.{lowered}
use Rattle.dns_name.proofs.compare.same_labels.Given as goal

abbrev pub invariant-loop-label : goal.invariant-loop-label
invariant-loop-label l =
    (goal.iterator-loop-label).can_next l.label-iterator ×
    (goal.iterator-loop-label).is_finite l.label-iterator ×
    ((lowered (labels_left l.label-iterator) ≡ lowered (labels_left l.others)) ↔ (lowered (labels l.fn.name) ≡ lowered (labels l.fn.other)))
