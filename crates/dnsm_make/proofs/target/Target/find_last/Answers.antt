use Rattle.std.proofs.Common.{arith, subst}
use Rattle.dns_wire.specs.Targets.{Written}
use Rattle.dnsm_make.specs.LastNames.{IsPointer}
use Rattle.dnsm_make.proofs.LastNameLemmas.{at_same, last_pointer}
use Rattle.dnsm_make.proofs.target.Target.find_last.Goals as goal

pub returns-clause-pointer : goal.returns-clause-pointer
returns-clause-pointer g c =
    let name = g.N.ToName.name c.args.name.now in
    let w = c.self.inside.tree in
    let last = c.self.inside.last in
    let at = at_same _ _ _ _ _ _ c.as_slice-content.ensures.octets c.from.ensures c.in-Some.ensures (c.are_at.ensures c.if-not-are_at.false) in
    subst (λ (t : Written). IsPointer t name last) c.self.view_is
    (last_pointer w last name c.as_slice-content.ensures.is_target (g.met.N.ToName.is_name c.args.name.now) c.self.invariant (omega arith) at).0

pub returns-clause-in_range : goal.returns-clause-in_range
returns-clause-in_range g c =
    let name = g.N.ToName.name c.args.name.now in
    let at = at_same _ _ _ _ _ _ c.as_slice-content.ensures.octets c.from.ensures c.in-Some.ensures (c.are_at.ensures c.if-not-are_at.false) in
    (last_pointer c.self.inside.tree c.self.inside.last name c.as_slice-content.ensures.is_target (g.met.N.ToName.is_name c.args.name.now) c.self.invariant (omega arith) at).1
