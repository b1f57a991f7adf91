use Rattle.std.proofs.Common.{◌≡◌, ◌+◌, ◌∷◌, ◌++◌, [], ◌∙◌, refl, rules}
use Rattle.std.specs.Int.{w16}
use Rattle.dns_name.specs.Parsers.{number_at}
use Rattle.dnsview_rows.specs.Entries.{class_rows, number_rows}
use Rattle.dnsview_rows.specs.Fields.{field_row}
use Rattle.dnsview_rows.specs.Walks.{at, octets, CutsFields, LacksField}
use Rattle.dnsview_rows.specs.declared.row.RowField.TheVariants as fields
use Rattle.dnsview_rows.proofs.Cuts.{cut_here}
use Rattle.dnsview_rows.proofs.Items.{class_lacks, len_lacks}
use Rattle.dnsview_rows.proofs.Stops.{on_fault, on_fault_2}
use Rattle.dnsview_rows.proofs.walk.Walk.record_fields.Goals as goal

pub returns-in_err-number-clause-cuts : goal.returns-in_err-number-clause-cuts
returns-in_err-number-clause-cuts c =
    let old = c.args.self.now in
    let new = c.number.new.self in
    let r = at old in
    let n = number_at w16 (octets old) r in
    on_fault_2 c.from_residual.result (LacksField fields.Type (octets old) (r + 2)) (λ _. new ≡ old) (CutsFields (number_rows n r) old new)
    (λ fault h same. cut_here r 2 (r + 2) fields.Type (class_rows n (r + 2) ++ field_row (r + 8) (r + 10) fields.RdLength ∷ []) old new fault h same refl refl) (search rules) (search rules)

pub returns-in_err-class-clause-cuts : goal.returns-in_err-class-clause-cuts
returns-in_err-class-clause-cuts c =
    let old = c.args.self.now in
    let a = c.number.new.self in
    let new = c.class_and_ttl.new.self in
    let rtype = c.from_int-rtype.result in
    let read : rtype ≡ number_at w16 (octets old) (at old) = c.from_int-rtype.ensures ∙ c.in_ok-number.ensures.number in
    on_fault c.from_residual-in_err-class.result (CutsFields (class_rows rtype (at a)) a new) (CutsFields (number_rows (number_at w16 (octets old) (at old)) (at old)) old new)
    (λ fault h. class_lacks rtype old a new fault c.in_ok-number.ensures.adds read h) (search rules)

pub returns-in_err-len-clause-cuts : goal.returns-in_err-len-clause-cuts
returns-in_err-len-clause-cuts c =
    let old = c.args.self.now in
    let a = c.number.new.self in
    let last = c.class_and_ttl.new.self in
    let new = c.number-2.new.self in
    let rtype = c.from_int-rtype.result in
    let read : rtype ≡ number_at w16 (octets old) (at old) = c.from_int-rtype.ensures ∙ c.in_ok-number.ensures.number in
    on_fault_2 c.from_residual-in_err-len.result (LacksField fields.RdLength (octets last) (at last + 2)) (λ _. new ≡ last)
    (CutsFields (number_rows (number_at w16 (octets old) (at old)) (at old)) old new)
    (λ fault h same. len_lacks rtype old a last new fault c.in_ok-number.ensures.adds read c.in_ok-class.ensures.adds h same) (search rules) (search rules)
