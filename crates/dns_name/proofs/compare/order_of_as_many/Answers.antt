use Rattle.dns_name.specs.ParsedName.{labels_left}
use Rattle.dns_name.proofs.RootOrders.{rest_order-none}
use Rattle.dns_name.proofs.compare.order_of_as_many.Goals as goal

pub returns : goal.returns
returns c =
    let kept = c.loop-label.invariant in
    rest_order-none (labels_left c.loop-label.label-iterator) (labels_left c.loop-label.others) _ _ c.in-None.ensures.steps.0 kept.2 kept.3
