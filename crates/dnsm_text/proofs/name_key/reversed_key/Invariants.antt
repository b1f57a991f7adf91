use Rattle.dns_name.specs.ParsedName.{labels, labels_left}
use Rattle.dnsm_text.proofs.ReversedKeys.{KeyFrom}
use Rattle.dnsm_text.proofs.name_key.reversed_key.Given as goal

abbrev pub invariant-loop-label : goal.invariant-loop-label
invariant-loop-label l =
    (goal.iterator-loop-label).can_next l.label-iterator ×
    (goal.iterator-loop-label).is_finite l.label-iterator ×
    KeyFrom l.key.items (labels_left l.label-iterator) (labels l.fn.name)
