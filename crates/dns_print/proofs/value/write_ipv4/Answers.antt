use Rattle.std.proofs.Common.{append_assoc, rules}
use Rattle.dns_print.proofs.theory.Prints.{print_three}
use Rattle.dns_print.proofs.value.write_ipv4.Goals as goal

pub returns-clause-text : goal.returns-clause-text
returns-clause-text g c = λ ok.
    print_three _ _ _ _ _ _ _ _ _ (c.write_dotted_pair.ensures.text (search rules)) (c.write_text.ensures.text (search rules)) (c.write_dotted_pair-2.ensures.text ok)
    (simp append_assoc)
