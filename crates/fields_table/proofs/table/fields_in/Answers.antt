use Rattle.std.proofs.Common.{◌+◌, ◌-◌, ◌/◌, List, [], length, drop, length-take, length-drop, add-one, ap, sym, ◌∙◌, refl, arith}
use Rattle.std.proofs.lemmas.Bool.{eqb-false}
use Rattle.fields_table.specs.Table.{Row, fields_in, types_in}
use Rattle.fields_table.proofs.TableLemmas.{take_above, drop_above, found, before, later, rest_is}
use Rattle.fields_table.proofs.table.fields_in.Goals as goal

pub rows-init : goal.rows-init
rows-init c = (omega arith, c.requires, refl)

pub returns-then-row-rtype : goal.returns-then-row-rtype
returns-then-row-rtype c =
    let left = c.rows.left.now in
    let some = eqb-false (length left) 0 (sym c.rows-test.ensures) in
    sym (c.rows.invariant.2 ∙ found left 0 (length left / 2) _ c.args.rtype c.rows.invariant.1 (omega arith) c.if-row-rtype.true)

pub rows-preserved-then-rtype-row : goal.rows-preserved-then-rtype-row
rows-preserved-then-rtype-row c =
    let left = c.rows.left.now in
    let middle = length left / 2 in
    let some = eqb-false (length left) 0 (sym c.rows-test.ensures) in
    let few = c.rows.invariant.0 in (
      omega (arith, length-take middle left),
      take_above left 0 middle c.rows.invariant.1,
      c.rows.invariant.2 ∙ before left 0 middle _ c.args.rtype c.rows.invariant.1 (omega arith) c.if-rtype-row.true,
    )

pub rows-preserved : goal.rows-preserved
rows-preserved c =
    let left = c.rows.left.now in
    let middle = length left / 2 in
    let some = eqb-false (length left) 0 (sym c.rows-test.ensures) in
    let few = c.rows.invariant.0 in (
      omega (arith, ap length (rest_is left (middle + 1)), length-drop (middle + 1) left),
      take_above (drop (middle + 1) left) 0 (length left - (middle + 1)) (drop_above left 0 (middle + 1) c.rows.invariant.1),
      c.rows.invariant.2 ∙ later left 0 middle (0, record { ref_ptr = (0, 0); now = [] }, record { ref_ptr = (0, 0); now = [] }) c.args.rtype c.rows.invariant.1 (omega arith) (omega arith)
          ∙ ap (λ k. fields_in (types_in (drop k left)) c.args.rtype) (sym (add-one middle))
          ∙ ap (λ (xs : List Row). fields_in (types_in xs) c.args.rtype) (sym (rest_is left (middle + 1))),
    )
