use Rattle.std.proofs.Common.{◌≡◌, ◌+◌, ◌∷◌, [], refl, rules}
use Rattle.dnsview_rows.specs.Entries.{opt_rows}
use Rattle.dnsview_rows.specs.Fields.{field_row}
use Rattle.dnsview_rows.specs.Walks.{at, octets, CutsFields, LacksField}
use Rattle.dnsview_rows.specs.declared.row.RowField.TheVariants.{PayloadSize, ExtendedRcode, Version, OptFlags}
use Rattle.dnsview_rows.proofs.Cuts.{cut_here}
use Rattle.dnsview_rows.proofs.Items.{opt_cut_2, opt_cut_3, opt_cut_4}
use Rattle.dnsview_rows.proofs.Stops.{on_fault_2}
use Rattle.dnsview_rows.proofs.walk.Walk.opt_fields.Goals as goal

pub returns-in_err-size-clause-cuts : goal.returns-in_err-size-clause-cuts
returns-in_err-size-clause-cuts c =
    let old = c.args.self.now in
    let new = c.number.new.self in
    let p = at old in
    let after = field_row (p + 2) (p + 3) ExtendedRcode ∷ field_row (p + 3) (p + 4) Version ∷ field_row (p + 4) (p + 6) OptFlags ∷ [] in
    on_fault_2 c.from_residual.result (LacksField PayloadSize (octets old) (p + 2)) (λ _. new ≡ old) (CutsFields (opt_rows p) old new)
    (λ fault h same. cut_here p 2 (p + 2) PayloadSize after old new fault h same refl refl) (search rules) (search rules)

pub returns-in_err-octets-clause-cuts : goal.returns-in_err-octets-clause-cuts
returns-in_err-octets-clause-cuts c =
    let old = c.args.self.now in
    let a = c.number.new.self in
    let new = c.octets.new.self in
    on_fault_2 c.from_residual-in_err-octets.result (LacksField ExtendedRcode (octets a) (at a + 1)) (λ _. new ≡ a) (CutsFields (opt_rows (at old)) old new)
    (λ fault h same. opt_cut_2 old a new fault c.in_ok-size.ensures.adds h same) (search rules) (search rules)

pub returns-in_err-octets-2-clause-cuts : goal.returns-in_err-octets-2-clause-cuts
returns-in_err-octets-2-clause-cuts c =
    let old = c.args.self.now in
    let a = c.number.new.self in
    let b = c.octets.new.self in
    let new = c.octets-2.new.self in
    on_fault_2 c.from_residual-in_err-octets-2.result (LacksField Version (octets b) (at b + 1)) (λ _. new ≡ b) (CutsFields (opt_rows (at old)) old new)
    (λ fault h same. opt_cut_3 old a b new fault c.in_ok-size.ensures.adds c.in_ok-octets.ensures.adds h same) (search rules) (search rules)

pub returns-in_err-octets-3-clause-cuts : goal.returns-in_err-octets-3-clause-cuts
returns-in_err-octets-3-clause-cuts c =
    let old = c.args.self.now in
    let a = c.number.new.self in
    let b = c.octets.new.self in
    let d = c.octets-2.new.self in
    let new = c.octets-3.new.self in
    on_fault_2 c.from_residual-in_err-octets-3.result (LacksField OptFlags (octets d) (at d + 2)) (λ _. new ≡ d) (CutsFields (opt_rows (at old)) old new)
    (λ fault h same. opt_cut_4 old a b d new fault c.in_ok-size.ensures.adds c.in_ok-octets.ensures.adds c.in_ok-octets-2.ensures.adds h same) (search rules) (search rules)
