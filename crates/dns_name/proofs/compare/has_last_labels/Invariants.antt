use Rattle.std.proofs.Common.{◌↔◌}
use Rattle.dns_name.specs.ParsedName.{labels}
use Rattle.dns_name.specs.Suffixes.{suffixes_left, NameEndsWith}
use Rattle.dns_name.proofs.Suffixes.{IsAmong}
use Rattle.dns_name.proofs.compare.has_last_labels.Given as goal

abbrev pub invariant-loop-suffix : goal.invariant-loop-suffix
invariant-loop-suffix l =
    (goal.iterator-loop-suffix).can_next l.suffix-iterator ×
    (goal.iterator-loop-suffix).is_finite l.suffix-iterator ×
    (IsAmong (suffixes_left l.suffix-iterator) (labels l.fn.base) ↔ NameEndsWith (labels l.fn.name) (labels l.fn.base))
