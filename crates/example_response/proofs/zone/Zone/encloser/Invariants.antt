use Rattle.std.proofs.Common.{◌≡◌, find}
use Rattle.dns_message.specs.Names.{labels}
use Rattle.dns_message.specs.Names.{suffixes, suffixes_left}
use Rattle.example_response.specs.Zones.{name_exists}
use Rattle.example_response.proofs.zone.Zone.encloser.Given as goal

abbrev pub invariant-loop-suffix : goal.invariant-loop-suffix
invariant-loop-suffix l =
    (goal.iterator-loop-suffix).can_next l.suffix-iterator ×
    (goal.iterator-loop-suffix).is_finite l.suffix-iterator ×
    (find (name_exists l.self) (suffixes_left l.suffix-iterator) ≡ find (name_exists l.self) (suffixes (labels l.fn.name)))
