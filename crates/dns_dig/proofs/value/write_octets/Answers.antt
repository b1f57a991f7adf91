use Rattle.std.proofs.Common.{◌<◌, arith, length, refl, rules}
use Rattle.dns_print.proofs.theory.Prints.{print_three}
use Rattle.dns_dig.proofs.Choices.{octets_some}
use Rattle.dns_dig.proofs.value.write_octets.Goals as goal

pub returns-clause-text : goal.returns-clause-text
returns-clause-text g c = λ ok.
    let some : 0 < length c.args.octets.now = omega arith in
    let quoted = print_three _ _ _ _ _ _ _ _ _ (c.write_text-2.ensures.text (search rules)) (c.write_characters.ensures.text (search rules)) (c.write_text-3.ensures.text ok) refl in
    print_three _ _ _ _ _ _ _ _ _ (c.write_text.ensures.text (search rules)) (c.write_spaced_digits.ensures.text (search rules)) quoted (octets_some c.args.octets.now some)
