use Rattle.std.proofs.Common.{arith, subst, true, false}
use Rattle.dnsview_rows.specs.Faults.StopsName.{ahead, after, pointed}
use Rattle.dnsview_rows.specs.Walks.{octets, HasName}
use Rattle.dnsview_rows.proofs.walk.Walk.pointer_fault.Goals as goal

pub returns-then-target-pos : goal.returns-then-target-pos
returns-then-target-pos c = λ of start. ahead c.requires (omega arith)

pub returns-then-has_name : goal.returns-then-has_name
returns-then-has_name c = λ of start.
    let b = octets c.args.self.now in
    let name : HasName b c.args.target true = subst (λ x. HasName b c.args.target x) c.if-has_name.true c.has_name.ensures in
    pointed c.requires (omega arith) name.1

pub returns-else-has_name : goal.returns-else-has_name
returns-else-has_name c = λ of start.
    let b = octets c.args.self.now in
    let no_name : HasName b c.args.target false = subst (λ x. HasName b c.args.target x) c.if-has_name.false c.has_name.ensures in
    after c.requires (omega arith) no_name.1
