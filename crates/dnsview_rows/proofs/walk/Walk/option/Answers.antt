use Rattle.std.proofs.Common.{◌≡◌, ◌+◌, ◌∙◌, rules}
use Rattle.dnsview_rows.specs.Walks.{at, octets, LacksField, MissesOption}
use Rattle.dnsview_rows.specs.declared.row.RowField.TheVariants.{OptionCode, OptionData, OptionLength}
use Rattle.dnsview_rows.proofs.DataRows.{cut_code, cut_len, cut_value}
use Rattle.dnsview_rows.proofs.Stops.{on_fault_2}
use Rattle.dnsview_rows.proofs.walk.Walk.option.Goals as goal

pub returns-in_err-code-clause-stops : goal.returns-in_err-code-clause-stops
returns-in_err-code-clause-stops c =
    let old = c.args.self.now in
    let new = c.number.new.self in
    on_fault_2 c.from_residual.result (LacksField OptionCode (octets old) (at old + 2)) (λ _. new ≡ old) (MissesOption old new)
    (λ fault h same. cut_code old new fault h same) (search rules) (search rules)

pub returns-in_err-len-clause-stops : goal.returns-in_err-len-clause-stops
returns-in_err-len-clause-stops c =
    let old = c.args.self.now in
    let mid = c.number.new.self in
    let new = c.number-2.new.self in
    let code = c.in_ok-code.code in
    on_fault_2 c.from_residual-in_err-len.result (LacksField (OptionLength code) (octets mid) (at mid + 2)) (λ _. new ≡ mid) (MissesOption old new)
    (λ fault h same. cut_len code old mid new fault c.in_ok-code.ensures.adds c.in_ok-code.ensures.number h same) (search rules) (search rules)

pub returns-in_err-octets-in_default-clause-stops : goal.returns-in_err-octets-in_default-clause-stops
returns-in_err-octets-in_default-clause-stops c =
    let old = c.args.self.now in
    let mid = c.number.new.self in
    let last = c.number-2.new.self in
    let new = c.octets.new.self in
    let code = c.in_ok-code.code in
    let size = c.from.result in
    on_fault_2 c.from_residual-in_err-octets-in_default.result (LacksField (OptionData code) (octets last) (at last + size)) (λ _. new ≡ last) (MissesOption old new)
    (λ fault h same. cut_value code size old mid last new fault c.in_ok-code.ensures.adds c.in_ok-code.ensures.number c.in_ok-len.ensures.adds (c.from.ensures ∙ c.in_ok-len.ensures.number) h same)
    (search rules) (search rules)
