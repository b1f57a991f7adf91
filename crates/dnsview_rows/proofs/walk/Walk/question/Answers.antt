use Rattle.std.proofs.Common.{◌≡◌, ◌+◌, ◌∷◌, [], arith, ap, length, refl, rules}
use Rattle.dnsview_rows.specs.Entries.{item_row}
use Rattle.dnsview_rows.specs.Fields.{field_row}
use Rattle.dnsview_rows.specs.Walks.{at, octets, LacksField, MarksStop, MissesItemName}
use Rattle.dnsview_rows.specs.declared.row.RowField.TheVariants as fields
use Rattle.dnsview_rows.specs.declared.row.NameOf.TheVariants as names
use Rattle.dnsview_rows.specs.declared.row.Part.TheVariants.{Question}
use Rattle.dnsview_rows.proofs.Cuts.{cut_here}
use Rattle.dnsview_rows.proofs.Items.{class_cut, marks_question, question_short, question_unnamed}
use Rattle.dnsview_rows.proofs.Stops.{on_fault, on_fault_2}
use Rattle.dnsview_rows.proofs.walk.Walk.question.Goals as goal

pub returns-in_err-item-clause-stops : goal.returns-in_err-item-clause-stops
returns-in_err-item-clause-stops c =
    let old = c.args.self.now in
    let new = c.item.new.self in
    on_fault c.from_residual.result (MissesItemName names.Question (item_row Question c.args.number (at old)) old new) (MarksStop Question c.args.number old new)
    (λ fault h. question_unnamed c.args.number old new fault h) (search rules)

pub returns-in_err-number-clause-stops : goal.returns-in_err-number-clause-stops
returns-in_err-number-clause-stops c =
    let old = c.args.self.now in
    let mid = c.item.new.self in
    let new = c.number.new.self in
    let r = at mid in
    on_fault_2 c.from_residual-in_err-number.result (LacksField fields.Type (octets mid) (r + 2)) (λ _. new ≡ mid) (MarksStop Question c.args.number old new)
    (λ fault h same. question_short c.args.number old mid new fault c.in_ok-item.ensures.covers
    (cut_here r 2 (r + 2) fields.Type (field_row (r + 2) (r + 4) fields.Class ∷ []) mid new fault h same refl refl) (omega (arith, h.1))) (search rules) (search rules)

pub returns-in_err-number-2-clause-stops : goal.returns-in_err-number-2-clause-stops
returns-in_err-number-2-clause-stops c =
    let old = c.args.self.now in
    let mid = c.item.new.self in
    let typed = c.number.new.self in
    let new = c.number-2.new.self in
    let same_octets = ap length c.in_ok-number.ensures.adds.seen in
    on_fault_2 c.from_residual-in_err-number-2.result (LacksField fields.Class (octets typed) (at typed + 2)) (λ _. new ≡ typed) (MarksStop Question c.args.number old new)
    (λ fault h same. question_short c.args.number old mid new fault c.in_ok-item.ensures.covers
    (class_cut mid typed new fault c.in_ok-number.ensures.adds h same) (omega (arith, h.1, same_octets, c.in_ok-number.ensures.adds.offset))) (search rules) (search rules)

pub returns-clause-shows : goal.returns-clause-shows
returns-clause-shows c =
    marks_question c.args.number c.args.self.now c.item.new.self c.number.new.self c.number-2.new.self c.in_ok-item.ensures.covers
    c.in_ok-number.ensures.adds c.in_ok-number-2.ensures.adds c.in_ok-number-2.ensures.within
