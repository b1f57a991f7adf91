use Rattle.std.proofs.Common.{◌∙◌, arith, sym}
use Rattle.dnsm_status.proofs.theory.CallerLemmas.{refused_octets}
use Rattle.dnsm.proofs.comparing.dnsm_name_key.Goals as goal

pub returns-in-Ok-clause-short : goal.returns-in-Ok-clause-short
returns-in-Ok-clause-short c =
    λ full.
    let fits = c.as_slice.ensures.fits in
    let capacity = c.hand_out.ensures.capacity (λ done. let none = sym done ∙ full in omega arith) in
    omega (arith, fits, capacity.1)

pub returns-in-Err-clause-writes : goal.returns-in-Err-clause-writes
returns-in-Err-clause-writes c = refused_octets c.args.out.now _ _ c.refuse.ensures.empty
