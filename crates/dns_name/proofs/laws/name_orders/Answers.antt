use Rattle.std.proofs.Common.{ap}
use Rattle.std.specs.Prelude.{◌∷◌, []}
use Rattle.dns_name.specs.NameOrders.{name_order-total}
use Rattle.dns_name.specs.Names.{uncompressed}
use Rattle.dns_name.proofs.NameOrderLemmas.{name_order_agrees, composed_order_total, composed_order_agrees}
use Rattle.dns_name.proofs.laws.name_orders.Goals as goal

pub returns : goal.returns
returns c = record {
  name_order = name_order-total;
  composed_order = composed_order_total;
  name_order_agrees = name_order_agrees;
  composed_order_agrees = composed_order_agrees;
  hash = λ m n h. ap (λ labels. uncompressed labels ∷ []) h;
}
