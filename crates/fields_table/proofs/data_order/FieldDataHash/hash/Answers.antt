use Rattle.std.proofs.Common.{List, fold, ap, ◌∙◌}
use Rattle.std.specs.Hash.{le_bytes}
use Rattle.std.specs.List.{flat_map}
use Rattle.dns_wire.specs.Parts.{Part}
use Rattle.fields_table.specs.Data.{parts_of}
use Rattle.fields_table.specs.DataOrders.{part_hash_input}
use Rattle.fields_table.proofs.theory.NamedFields.{parts_of_fields}
use Rattle.fields_table.proofs.data_order.FieldDataHash.hash.Goals as goal

pub returns : goal.returns
returns g c =
    let write = g.H.Hasher.write in
    c.hash_fields.ensures
    ∙ ap (λ (ps : List Part). fold write c.hash.new.state (flat_map part_hash_input ps)) (parts_of_fields c.args.self.now c.fields.result c.fields.ensures)
    ∙ ap (λ s. fold write s (flat_map part_hash_input (parts_of c.args.self.now))) (c.hash.ensures ∙ ap (λ n. write c.args.state.now (le_bytes 2 n)) (c.to_int.ensures ∙ c.rtype.ensures))
