use Rattle.std.proofs.Common.{rules}
use Rattle.dns_print.proofs.theory.Prints.{print_two}
use Rattle.fields_lists.proofs.TypeTexts.{octet_step}
use Rattle.fields_lists.proofs.type_map.+write_octets.Goals as goal

pub returns-clause-text : goal.returns-clause-text
returns-clause-text g t c =
    λ ok.
    let first = c.write_bits.ensures.text (search rules) in
    let second = c.write_octets.ensures.text ok in
    print_two _ _ _ _ _ _ _ first second (octet_step c.args.first c.args.octets.now c.in-len1-up.len_at_least)
