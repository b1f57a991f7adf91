use Rattle.std.proofs.Common.{refl, rules}
use Rattle.dns_print.proofs.theory.Prints.{print_three}
use Rattle.dns_dig.proofs.opt.write_opt_flags.Goals as goal

pub returns-clause-text : goal.returns-clause-text
returns-clause-text g c = λ ok.
    let dnssec = rw c.dnssec_ok.ensures at (c.write_if.ensures.text (search rules)) in
    let compact = rw c.ttl-bits.ensures.ttl at (c.write_if-2.ensures.text (search rules)) in
    let reserved = rw c.ttl-bits.ensures.ttl at (c.write_reserved.ensures.text ok) in
    print_three _ _ _ _ _ _ _ _ _ dnssec compact reserved refl
