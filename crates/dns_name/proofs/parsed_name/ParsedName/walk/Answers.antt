use Rattle.std.proofs.Common.{◌+◌, ◌-◌, ◌≤◌, arith}
use Rattle.std.proofs.lemmas.Result.{err_from_is_err_and}
use Rattle.dns_name.proofs.theory.CachedNames.{arrives_root, arrives_pointer, arrives_back, fails_ahead, fails_after}
use Rattle.dns_name.proofs.parsed_name.ParsedName.walk.Goals as goal

pub returns-then-is_pointed_to-clause-arrives : goal.returns-then-is_pointed_to-clause-arrives
returns-then-is_pointed_to-clause-arrives c =
    rw (c.from.ensures, c.from-then-is_pointed_to.ensures) (arrives_back _ _ c.args.cached.now (c.is_pointed_to.ensures c.if-is_pointed_to.true) c.requires.cached)

pub returns-in_default-clause-arrives : goal.returns-in_default-clause-arrives
returns-in_default-clause-arrives c = arrives_root _ _ _ _ (rw c.in_default.is at c.in_ok-row.ensures)

pub returns-then-from-row-clause-arrives : goal.returns-then-from-row-clause-arrives
returns-then-from-row-clause-arrives c =
    let row = rw c.in-Some.is at c.in_ok-row.ensures in
    fails_ahead _ _ _ _ _ _ row (omega arith)

pub returns-then-known-le-MAX_SIZE-clause-arrives : goal.returns-then-known-le-MAX_SIZE-clause-arrives
returns-then-known-le-MAX_SIZE-clause-arrives c =
    let row = rw c.in-Some.is at c.in_ok-row.ensures in
    let small : (c.in_ok-row.row.end - c.args.start) + c.args.cached.now.size ≤ 254 = omega (arith, c.if-known-le-MAX_SIZE.true, c.from-3.ensures) in
    let known = c.requires.cached (omega (arith, small)) in
    arrives_pointer _ _ _ _ _ c.args.cached.now.size c.args.cached.now.count _ _ row (omega arith) (rw c.if-target-cached.true known) small (omega arith) (omega arith)

pub returns-in_err-size-clause-arrives : goal.returns-in_err-size-clause-arrives
returns-in_err-size-clause-arrives c =
    let p = err_from_is_err_and c.from_residual-in_err-size.result c.from_residual-in_err-size.ensures.1 in
    let row = rw c.in-Some.is at c.in_ok-row.ensures in
    rw (p.1, p.2) (fails_after _ _ _ _ _ _ row (omega arith) c.in_err-size.ensures)

pub returns-clause-arrives : goal.returns-clause-arrives
returns-clause-arrives c =
    let row = rw c.in-Some.is at c.in_ok-row.ensures in
    arrives_pointer _ _ _ _ _ _ _ _ _ row (omega arith) c.in_ok-size.ensures.name (omega (arith, c.in_ok-size.ensures.short)) (omega arith) (omega arith)
