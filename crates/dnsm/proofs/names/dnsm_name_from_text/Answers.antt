use Rattle.std.proofs.Common.{◌∙◌, ap, arith, length, sym}
use Rattle.dns_name.specs.NameReading.{name_labels}
use Rattle.dnsm.proofs.TextSizes.{spelled_short}
use Rattle.dnsm_status.proofs.theory.CallerLemmas.{refused_octets}
use Rattle.dnsm.proofs.names.dnsm_name_from_text.Goals as goal

pub returns-in-Ok-clause-short : goal.returns-in-Ok-clause-short
returns-in-Ok-clause-short c =
    λ full.
    let fits = spelled_short c.args.text.now (name_labels c.in-Ok.name) c.in-Ok.ensures.name in
    let size = ap length c.as_slice.ensures in
    let capacity = c.hand_out.ensures.capacity (λ done. let none = sym done ∙ full in omega arith) in
    omega (arith, fits, size, capacity.1)

pub returns-in-Err-clause-writes : goal.returns-in-Err-clause-writes
returns-in-Err-clause-writes c = refused_octets c.args.out.now _ _ c.refuse.ensures.empty
