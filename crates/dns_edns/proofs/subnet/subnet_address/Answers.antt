use Rattle.std.proofs.Common.{arith}
use Rattle.std.proofs.lemmas.Result.{err_from_is_err_and}
use Rattle.dns_edns.proofs.KindLemmas.{v4_read, v6_read, no_v4, no_v6}
use Rattle.dns_edns.proofs.subnet.subnet_address.Goals as goal

pub returns-in_ok-address_of-in-1 : goal.returns-in_ok-address_of-in-1
returns-in_ok-address_of-in-1 c = v4_read _ _ _ _ (omega arith) c.in_ok-address_of-in-1.ensures

pub returns-in_ok-address_of-in-2 : goal.returns-in_ok-address_of-in-2
returns-in_ok-address_of-in-2 c = v6_read _ _ _ _ (omega arith) c.in_ok-address_of-in-2.ensures

pub returns-in_err-address_of-in-1 : goal.returns-in_err-address_of-in-1
returns-in_err-address_of-in-1 c =
    let p = err_from_is_err_and c.from_residual.result c.from_residual.ensures.1 in
    rw p.1 (no_v4 _ _ _ (omega arith) c.in_err-address_of-in-1.ensures)

pub returns-in_err-address_of-in-2 : goal.returns-in_err-address_of-in-2
returns-in_err-address_of-in-2 c =
    let p = err_from_is_err_and c.from_residual-in_err-address_of-in-2.result c.from_residual-in_err-address_of-in-2.ensures.1 in
    rw p.1 (no_v6 _ _ _ (omega arith) c.in_err-address_of-in-2.ensures)
