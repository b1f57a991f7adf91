use Rattle.std.proofs.Common.{inr}
use Rattle.dnsm_make.proofs.build.build_over.Goals as goal

pub returns-in_ok-check_all-in-Err-clause-none : goal.returns-in_ok-check_all-in-Err-clause-none
returns-in_ok-check_all-in-Err-clause-none g c =
    let m = c.in_ok-check_all-in-Err.ensures.mean in
    inr (m.0, m.1, c.in-Err.ensures.none m.0 m.1)
