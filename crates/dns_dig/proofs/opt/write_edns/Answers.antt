use Rattle.std.proofs.Common.{refl, rules}
use Rattle.dns_print.proofs.theory.Prints.{print_three}
use Rattle.dns_dig.proofs.opt.write_edns.Goals as goal

pub returns-clause-text : goal.returns-clause-text
returns-clause-text g c = λ ok.
    let version = rw c.version.ensures at (c.write_version.ensures.text (search rules)) in
    let size = rw c.udp_payload_size.ensures at (c.write_size.ensures.text ok) in
    print_three _ _ _ _ _ _ _ _ _ version (c.write_opt_flags.ensures.text (search rules)) size refl
