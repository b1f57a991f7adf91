use Rattle.std.proofs.Common.{◌≡◌, ◌<◌, arith, length}
use Rattle.std.specs.Prelude.{Ok}
use Rattle.std.proofs.lemmas.Result.{err_from_is_err_and}
use Rattle.dns_name.specs.Names.{head_at, SkipFaulty}
use Rattle.dns_name.specs.declared.head.Head.TheVariants.{Label}
use Rattle.dns_name.proofs.head.Head.after.Goals as goal

pub returns-in_err-head-clause-begins : goal.returns-in_err-head-clause-begins
returns-in_err-head-clause-begins c =
    let p = err_from_is_err_and c.from_residual.result c.from_residual.ensures.1 in
    rw (p.1, p.2) (SkipFaulty.head c.in_err-head.ensures.head)

pub returns-then-size-taken-gt-MAX_SIZE-clause-begins : goal.returns-then-size-taken-gt-MAX_SIZE-clause-begins
returns-then-size-taken-gt-MAX_SIZE-clause-begins c =
    let h : head_at c.args.octets.now c.args.offset ≡ Ok (Label c.in-Label.len) = cc c.in_ok-head.ensures.head in
    SkipFaulty.long h (omega arith)

pub returns-then-taken-octets-clause-begins : goal.returns-then-taken-octets-clause-begins
returns-then-taken-octets-clause-begins c =
    let h : head_at c.args.octets.now c.args.offset ≡ Ok (Label c.in-Label.len) = cc c.in_ok-head.ensures.head in
    let w : c.args.offset < length c.args.octets.now = c.in_ok-head.ensures.within in
    SkipFaulty.cut h (omega arith) (omega arith)
