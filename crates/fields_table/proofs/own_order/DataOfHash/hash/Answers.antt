use Rattle.std.proofs.Common.{List, fold, ap, ◌∙◌}
use Rattle.std.specs.List.{flat_map}
use Rattle.dns_wire.specs.Parts.{Part}
use Rattle.fields_table.specs.DataOrders.{part_hash_input}
use Rattle.fields_table.proofs.OwnOrders.{own_parts_left}
use Rattle.fields_table.proofs.own_order.DataOfHash.hash.Goals as goal

pub returns : goal.returns
returns g c =
    c.hash_fields.ensures
    ∙ ap (λ (ps : List Part). fold g.H.Hasher.write c.args.state.now (flat_map part_hash_input ps)) (own_parts_left c.args.self.now c.fields.result c.fields.ensures)
