use Rattle.std.proofs.Common.{◌≡◌, ◌+◌, ◌<◌, ◌≤◌, ◌∙◌, arith, length, refl, rules, Some, None, take}
use Rattle.dns_name.specs.Parsers.{offset}
use Rattle.dnsview_rows.specs.Walks.{at, octets, StopsData, StopsWithin}
use Rattle.dnsview_rows.specs.Walks.StopsWithin.{missing, stopped}
use Rattle.dnsview_rows.specs.declared.walk.Walk.{Walk}
use Rattle.dnsview_rows.proofs.DataRows.{not_past, within_rows}
use Rattle.dnsview_rows.proofs.Stops.{on_fault}
use Rattle.dnsview_rows.proofs.walk.Walk.within.Goals as goal

pub returns-in_err-data-clause-stops : goal.returns-in_err-data-clause-stops
returns-in_err-data-clause-stops c =
    let old = c.args.self.now in
    let new = c.data.new.self in
    let mid : Walk = record { parser = c.in-Ok.inner; rows = old.rows } in
    let there : at old + c.args.len ≤ length (octets old) = search rules in
    let seen : octets mid ≡ take (at old + c.args.len) (octets old) = search rules in
    let same_offset : at mid ≡ at old = search rules in
    on_fault c.from_residual.result (StopsData c.args.rtype mid new) (StopsWithin c.args.rtype c.args.len old new)
    (λ fault h. stopped (Some fault) there (within_rows c.args.rtype c.args.len (Some fault) old mid new seen same_offset refl h) (λ e. absurd (cc e))) (search rules)

pub returns-then-pos-clause-stops : goal.returns-then-pos-clause-stops
returns-then-pos-clause-stops c =
    let old = c.args.self.now in
    let new = c.data.new.self in
    let mid : Walk = record { parser = c.in-Ok.inner; rows = old.rows } in
    let there : at old + c.args.len ≤ length (octets old) = search rules in
    let seen : octets mid ≡ take (at old + c.args.len) (octets old) = search rules in
    let same_offset : at mid ≡ at old = search rules in
    let to : offset c.parse_parser.new.self ≡ at old + c.args.len = search rules in
    let past = not_past old new c.args.len (c.in_ok-data.ensures.sees ∙ seen) there in
    let fewer : at new < at old + c.args.len = omega (arith, past, to) in
    stopped None there (within_rows c.args.rtype c.args.len None old mid new seen same_offset refl c.in_ok-data.ensures.shows) (λ _. fewer)

pub returns-in_default-clause-stops : goal.returns-in_default-clause-stops
returns-in_default-clause-stops c =
    let short : length (octets c.args.self.now) < at c.args.self.now + c.args.len = search rules in
    missing short refl
