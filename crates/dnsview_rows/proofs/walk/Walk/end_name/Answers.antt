use Rattle.std.proofs.Common.{◌≡◌, ◌∙◌, sym, ap, arith, slice_get, Some}
use Rattle.dns_name.specs.Parsers.{offset}
use Rattle.dnsview_rows.specs.Fields.{field_row}
use Rattle.dnsview_rows.specs.Walks.{at, octets}
use Rattle.dnsview_rows.specs.declared.row.RowField.TheVariants.{Root, Pointer}
use Rattle.dnsview_rows.proofs.Names.{end_skipped, not_none, pointer_row, root_row, some_same}
use Rattle.dnsview_rows.proofs.walk.Walk.end_name.Goals.{in_default-via-in-Some+in_default, in_default-via-in_default}
use Rattle.dnsview_rows.proofs.walk.Walk.end_name.Goals as goal

pub returns-in-Some-eq0-clause-covers : goal.returns-in-Some-eq0-clause-covers
returns-in-Some-eq0-clause-covers c =
    let p = at c.args.self.now in
    let q = offset c.args.after in
    let zero_there : slice_get (octets c.args.self.now) p ≡ Some 0 = let zero_octet : c.in-Some-eq0.field-0 ≡ 0 = omega arith in c.first.ensures ∙ c.in-Some-eq0.is ∙ ap (λ n. Some n) zero_octet in
    let row = field_row p q (Root c.args.name c.args.start) in
    end_skipped c.args.name c.args.start row c.args.self.now c.mark.new.self c.args.after c.mark.result c.requires.seen c.mark.ensures.adds c.mark.ensures.moves
    (root_row (octets c.args.self.now) c.args.name c.args.start p q zero_there c.requires.ends)

pub returns-in_default-clause-covers : goal.returns-in_default-clause-covers
returns-in_default-clause-covers c =
    let p = at c.args.self.now in
    let q = offset c.args.after in
    let row = field_row p q (Pointer c.args.name c.args.start) in
    let other : slice_get (octets c.args.self.now) p ≡ Some 0 → ⊥ = λ e. elim c.in_default.branch [
      | in_default-via-in-Some+in_default w ↦ w.in_default.field-0-test.1 (some_same _ 0 (sym w.in_default.ensures ∙ e))
      | in_default-via-in_default w ↦ not_none 0 (sym w.in_default.is ∙ sym c.first.ensures ∙ e)
    ] in
    end_skipped c.args.name c.args.start row c.args.self.now c.mark-in_default.new.self c.args.after c.mark-in_default.result c.requires.seen
    c.mark-in_default.ensures.adds c.mark-in_default.ensures.moves
    (pointer_row (octets c.args.self.now) c.args.name c.args.start p q other c.requires.ends)
