use Rattle.std.proofs.Common.{true, ◌∙◌}
use Rattle.fields_table.proofs.OwnOrders.{compared, compared_in_canonical_form}
use Rattle.fields_table.proofs.own_order.DataOfCanonicalOrd.canonical_cmp.Goals as goal

pub returns : goal.returns
returns g c =
    let x = c.args.self.now in
    let y = c.args.other.now in
    c.compare_fields.ensures
    ∙ compared true x y c.fields.result c.fields-2.result c.fields.ensures c.fields-2.ensures
    ∙ compared_in_canonical_form x y
