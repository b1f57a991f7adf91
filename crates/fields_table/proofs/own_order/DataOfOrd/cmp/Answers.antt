use Rattle.std.proofs.Common.{false, ◌∙◌}
use Rattle.fields_table.proofs.OwnOrders.{compared}
use Rattle.fields_table.proofs.own_order.DataOfOrd.cmp.Goals as goal

pub returns : goal.returns
returns g c =
    c.compare_fields.ensures ∙ compared false c.args.self.now c.args.other.now c.fields.result c.fields-2.result c.fields.ensures c.fields-2.ensures
