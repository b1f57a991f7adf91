use Rattle.std.proofs.Common.{rules, subst, ℕ, List}
use Rattle.dns_name.specs.Names.{fault_of, FaultAt}
use Rattle.dnsview_rows.specs.Faults.{StopsName}
use Rattle.dnsview_rows.specs.Walks.{at, octets}
use Rattle.dnsview_rows.proofs.Faults.{reports_name}
use Rattle.dnsview_rows.proofs.walk.Walk.name.Goals as goal

pub returns-in-Err-clause-misses : goal.returns-in-Err-clause-misses
returns-in-Err-clause-misses c =
    let old = c.args.self.now in
    let new = c.labels.new.self in
    let fault = c.name_fault.result in
    let f = fault_of c.in-Err.error in
    let fails : FaultAt (octets old) (at old) f = search rules in
    let covers = c.in_ok-labels.ensures.covers in
    let P : List ℕ → ℕ → Type 0 = λ b start. StopsName b c.args.name start (at new) fault in
    let stops : P (octets old) (at old) = subst (λ b. P b (at old)) covers.adds.seen (subst (λ start. P (octets new) start) c.pos-start.ensures c.name_fault.ensures) in
    let reports = reports_name (octets old) c.args.name (at old) (at new) fault f stops (covers.faults f fails) in
    record { rows = covers.rows; adds = covers.adds.rows; f = f; lacks = record { faulty = fails; labels = covers.shown; stops = stops; reports = reports } }
