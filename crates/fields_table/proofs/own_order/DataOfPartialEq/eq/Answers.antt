use Rattle.std.proofs.Common.{false, ap, sym, ◌∙◌}
use Rattle.std.specs.Ordering.{is_eq}
use Rattle.fields_table.specs.OwnOrders.{own_order-ties}
use Rattle.fields_table.proofs.OwnOrders.{compared}
use Rattle.fields_table.proofs.own_order.DataOfPartialEq.eq.Goals as goal

pub returns : goal.returns
returns g c =
    let x = c.args.self.now in
    let y = c.args.other.now in
    c.is_eq.ensures
    ∙ ap is_eq (c.compare_fields.ensures ∙ compared false x y c.fields.result c.fields-2.result c.fields.ensures c.fields-2.ensures)
    ∙ sym (own_order-ties x y)
