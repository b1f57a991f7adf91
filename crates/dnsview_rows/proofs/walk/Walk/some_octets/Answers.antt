use Rattle.std.proofs.Common.{◌≡◌, ◌+◌, ◌<◌, arith, rules, subst, sym}
use Rattle.dnsview_rows.specs.Walks.{at, octets, CoversOctets, LacksField, MissesOctets}
use Rattle.dnsview_rows.proofs.DataRows.{octets_missing, octets_none, some_octets}
use Rattle.dnsview_rows.proofs.Stops.{on_fault_2}
use Rattle.dnsview_rows.proofs.walk.Walk.some_octets.Goals as goal

pub returns-in-0-clause-covers : goal.returns-in-0-clause-covers
returns-in-0-clause-covers c =
    let old = c.args.self.now in
    let none : c.args.n ≡ 0 = omega arith in
    subst (λ n. CoversOctets c.args.field n old old) (sym none) (octets_none c.args.field old)

pub returns-in_default-clause-covers : goal.returns-in_default-clause-covers
returns-in_default-clause-covers c =
    let some : 0 < c.args.n = search rules in
    some_octets c.args.field c.args.n c.args.self.now c.octets.new.self c.octets.result some c.octets.ensures.adds c.octets.ensures.within

pub returns-in_default-clause-misses : goal.returns-in_default-clause-misses
returns-in_default-clause-misses c =
    let old = c.args.self.now in
    let new = c.octets.new.self in
    on_fault_2 c.octets.result (LacksField c.args.field (octets old) (at old + c.args.n)) (λ _. new ≡ old) (MissesOctets c.args.field c.args.n old new)
    (λ fault h same. octets_missing c.args.field c.args.n old new fault h same) c.octets.ensures.short c.octets.ensures.stays
