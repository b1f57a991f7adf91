use Rattle.std.proofs.Common.{◌≡◌, List, true, ap, ◌∙◌}
use Rattle.std.specs.Cmp.Lexicographic.{slice_cmp}
use Rattle.std.specs.Ordering.{nat_cmp, ordering_then, is_ne}
use Rattle.std.specs.declared.cmp.Ordering.{Ordering}
use Rattle.dns_wire.specs.Parts.{Part}
use Rattle.fields_table.specs.Data.{rtype_of, parts_of}
use Rattle.fields_table.specs.FieldOrders.{field_order, parts_left}
use Rattle.fields_table.proofs.theory.NamedFields.{parts_of_fields}
use Rattle.fields_table.proofs.OrderedData.{undecided}
use Rattle.fields_table.proofs.data_order.compare.Goals as goal

pub returns : goal.returns
returns c =
    let order = field_order c.args.canonical in
    let not : is_ne c.cmp-order.result ≡ true → ⊥ = λ h. cc in
    let types : c.cmp-order.result ≡ nat_cmp (rtype_of c.args.data.now) (rtype_of c.args.other.now) = cc in
    let fields =
    c.compare_fields.ensures
    ∙ ap (λ (ps : List Part). slice_cmp order ps (parts_left c.fields-2.result)) (parts_of_fields c.args.data.now c.fields.result c.fields.ensures)
    ∙ ap (slice_cmp order (parts_of c.args.data.now)) (parts_of_fields c.args.other.now c.fields-2.result c.fields-2.ensures) in
    fields
    ∙ undecided c.cmp-order.result (slice_cmp order (parts_of c.args.data.now) (parts_of c.args.other.now)) not
    ∙ ap (λ (o : Ordering). ordering_then o (slice_cmp order (parts_of c.args.data.now) (parts_of c.args.other.now))) types
