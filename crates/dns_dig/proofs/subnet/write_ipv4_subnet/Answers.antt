use Rattle.std.proofs.Common.{◌∙◌, ap, refl, rules}
use Rattle.std.proofs.lemmas.List.{take_rest}
use Rattle.dns_print.proofs.theory.Prints.{print_three}
use Rattle.dns_dig.specs.OptionTexts.{padded}
use Rattle.dns_dig.proofs.subnet.write_ipv4_subnet.Goals as goal

pub returns-clause-text : goal.returns-clause-text
returns-clause-text g c = λ ok.
    let octets = c.padded.ensures ∙ ap (padded 4) (take_rest c.args.octets.now 4) in
    let address = rw octets at (c.write_ipv4.ensures.text (search rules)) in
    print_three _ _ _ _ _ _ _ _ _ (c.write_text.ensures.text (search rules)) address (c.write_prefix_lengths.ensures.text ok) refl
