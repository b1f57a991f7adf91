use Rattle.std.proofs.Common.{◌↔◌}
use Rattle.dns_name.specs.ParsedName.{labels, labels_left}
use Rattle.dns_name.specs.Suffixes.{NameStartsWith}
use Rattle.dns_name.proofs.Suffixes.{Starts}
use Rattle.dns_name.proofs.compare.has_first_labels.Given as goal

abbrev pub invariant-loop-base_label : goal.invariant-loop-base_label
invariant-loop-base_label l =
    (goal.iterator-loop-base_label).can_next l.base_label-iterator ×
    (goal.iterator-loop-base_label).is_finite l.base_label-iterator ×
    (Starts (labels_left l.rest) (labels_left l.base_label-iterator) ↔ NameStartsWith (labels l.fn.name) (labels l.fn.base))
