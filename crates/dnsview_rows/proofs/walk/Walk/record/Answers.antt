use Rattle.std.proofs.Common.{◌≡◌, ℕ, ◌+◌, ◌≤◌, ◌∙◌, ap, subst, length, None, Err, rules}
use Rattle.std.specs.Int.{w16}
use Rattle.dns_name.specs.Parsers.{number_at}
use Rattle.fields_table.specs.LayoutTypes.{layout_type}
use Rattle.dnsview_rows.specs.Entries.{item_row, number_rows}
use Rattle.dnsview_rows.specs.Walks.{at, octets, CutsFields, LacksFields, MarksStop, MarksWithin, MissesItemName, StopsWithin}
use Rattle.dnsview_rows.specs.declared.row.NameOf.TheVariants as names
use Rattle.dnsview_rows.proofs.Items.{data_stops, marks_record, numbers_short, record_unnamed}
use Rattle.dnsview_rows.proofs.Stops.{on_fault, on_fault_2}
use Rattle.dnsview_rows.proofs.walk.Walk.record.Goals as goal

pub returns-in_err-item-clause-stops : goal.returns-in_err-item-clause-stops
returns-in_err-item-clause-stops c =
    let old = c.args.self.now in
    let new = c.item.new.self in
    on_fault c.from_residual.result (MissesItemName names.Owner (item_row c.args.part c.args.number (at old)) old new) (MarksStop c.args.part c.args.number old new)
    (λ fault h. record_unnamed c.args.part c.args.number old new fault c.requires.part h) (search rules)

pub returns-in-Err-clause-stops : goal.returns-in-Err-clause-stops
returns-in-Err-clause-stops c =
    let old = c.args.self.now in
    let mid = c.item.new.self in
    let new = c.record_fields.new.self in
    on_fault_2 {T = Unit} (Err c.in-Err.stop) (LacksFields (octets mid) (at mid + 10))
    (CutsFields (number_rows (number_at w16 (octets mid) (at mid)) (at mid)) mid new) (MarksStop c.args.part c.args.number old new)
    (λ fault short cut. numbers_short c.args.part c.args.number old mid new fault c.requires.part c.in_ok-item.ensures.covers short cut) (search rules) (search rules)

pub returns-in_err-within-in-Ok-clause-stops : goal.returns-in_err-within-in-Ok-clause-stops
returns-in_err-within-in-Ok-clause-stops c =
    let old = c.args.self.now in
    let a = c.item.new.self in
    let b = c.record_fields.new.self in
    let new = c.within.new.self in
    let numbers = c.in-Ok.numbers in
    let same : c.layout_type-rtype.result ≡ layout_type numbers.1 numbers.2 numbers.0 = cc in
    on_fault c.from_residual-in_err-within-in-Ok.result (StopsWithin c.layout_type-rtype.result c.from-len.result b new) (MarksStop c.args.part c.args.number old new)
    (λ fault h.
    let P : ℕ → Type 0 = λ len. StopsWithin c.layout_type-rtype.result len b new fault in
    let R : ℕ → Type 0 = λ n. StopsWithin n numbers.2 b new fault in
    data_stops c.args.part c.args.number numbers.0 numbers.1 numbers.2 old a b new fault c.requires.part c.in_ok-item.ensures.covers
    c.in-Ok.ensures.covers (subst R same (subst P c.from-len.ensures h))) (search rules)

pub returns-in_ok-within-in-Ok-clause-shows : goal.returns-in_ok-within-in-Ok-clause-shows
returns-in_ok-within-in-Ok-clause-shows c =
    let b = c.record_fields.new.self in
    let new = c.within.new.self in
    let numbers = c.in-Ok.numbers in
    let same : c.layout_type-rtype.result ≡ layout_type numbers.1 numbers.2 numbers.0 = cc in
    let P : ℕ → Type 0 = λ len. at b + len ≤ length (octets b) in
    let Q : ℕ → Type 0 = λ len. MarksWithin c.layout_type-rtype.result len None b new in
    let R : ℕ → Type 0 = λ n. MarksWithin n numbers.2 None b new in
    marks_record c.args.part c.args.number numbers.0 numbers.1 numbers.2 c.args.self.now c.item.new.self b new c.requires.part
    c.in_ok-item.ensures.covers c.in-Ok.ensures.covers (subst R same (subst Q c.from-len.ensures c.in_ok-within-in-Ok.ensures.shows)) c.in_ok-within-in-Ok.ensures.seen
    (c.in_ok-within-in-Ok.ensures.offset ∙ ap (λ n. at b + n) c.from-len.ensures) (subst P c.from-len.ensures c.in_ok-within-in-Ok.ensures.there)
