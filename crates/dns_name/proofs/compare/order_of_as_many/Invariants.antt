use Rattle.std.proofs.Common.{◌≡◌, length}
use Rattle.dns_name.specs.ParsedName.{labels_left}
use Rattle.dns_name.specs.NameOrders.{name_order}
use Rattle.dns_name.proofs.RootOrders.{rest_order}
use Rattle.dns_name.proofs.compare.order_of_as_many.Given as goal

abbrev pub invariant-loop-label : goal.invariant-loop-label
invariant-loop-label l =
    (goal.iterator-loop-label).can_next l.label-iterator ×
    (goal.iterator-loop-label).is_finite l.label-iterator ×
    (length (labels_left l.label-iterator) ≡ length (labels_left l.others)) ×
    (rest_order (labels_left l.label-iterator) (labels_left l.others) l.order ≡ name_order (labels_left l.fn.labels) (labels_left l.fn.others))
