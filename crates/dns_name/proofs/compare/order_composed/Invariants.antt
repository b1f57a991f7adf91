use Rattle.std.proofs.Common.{◌≡◌}
use Rattle.dns_name.specs.ParsedName.{labels_left, labels}
use Rattle.dns_name.specs.NameOrders.{composed_order}
use Rattle.dns_name.proofs.Orders.{row_order}
use Rattle.dns_name.proofs.compare.order_composed.Given as goal

abbrev pub invariant-loop-label : goal.invariant-loop-label
invariant-loop-label l =
    (goal.iterator-loop-label).can_next l.label-iterator ×
    (goal.iterator-loop-label).is_finite l.label-iterator ×
    (row_order (labels_left l.label-iterator) (labels_left l.others) ≡ composed_order (labels l.fn.name) (labels l.fn.other))
