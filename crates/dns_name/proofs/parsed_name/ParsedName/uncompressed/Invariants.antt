use Rattle.std.proofs.Common.{◌≡◌, ◌++◌}
use Rattle.std.specs.List.{flat_map}
use Rattle.dns_name.specs.Names.{framed, uncompressed}
use Rattle.dns_name.specs.ParsedName.{labels, labels_left}
use Rattle.dns_name.proofs.parsed_name.ParsedName.uncompressed.Given as goal

abbrev pub invariant-loop-label : goal.invariant-loop-label
invariant-loop-label l =
    (goal.iterator-loop-label).can_next l.label-iterator ×
    (goal.iterator-loop-label).is_finite l.label-iterator ×
    (l.octets.items ++ flat_map framed (labels_left l.label-iterator) ≡ uncompressed (labels l.fn.self))
