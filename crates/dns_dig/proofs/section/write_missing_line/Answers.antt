use Rattle.std.proofs.Common.{append_assoc, codes, rules, sym}
use Rattle.dns_lines.specs.Show.{section_word}
use Rattle.dns_print.proofs.theory.Prints.{print_three}
use Rattle.dns_dig.proofs.section.write_missing_line.Goals as goal

pub returns-clause-text : goal.returns-clause-text
returns-clause-text g c = λ ok.
    let word = rw c.section_word.ensures at (c.write_text-2.ensures.text (search rules)) in
    print_three _ _ _ _ _ _ _ _ _ (c.write_text.ensures.text (search rules)) word (c.write_text-3.ensures.text ok)
    (sym (append_assoc (codes ";; the ") (section_word c.args.section) (codes " section has no start\n")))
