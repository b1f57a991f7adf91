use Rattle.std.proofs.Common.{ℕ, List, [], ◌++◌, ap, append_assoc, codes, rules, sym}
use Rattle.std.specs.Prelude.{if◌then◌else◌}
use Rattle.dns_lines.specs.Show.{section_word}
use Rattle.dns_print.proofs.theory.Prints.{print_four}
use Rattle.dns_dig.proofs.section.write_malformed.Goals as goal

pub returns-clause-text : goal.returns-clause-text
returns-clause-text g c = λ ok.
    let word = rw c.section_word.ensures at (c.write_text-2.ensures.text (search rules)) in
    print_four _ _ _ _ _ _ _ _ _ _ _ (c.write_heading.ensures.text (search rules)) (c.write_text.ensures.text (search rules)) word (c.write_text-3.ensures.text ok)
    (ap (λ (l : List ℕ). (if c.args.begun then [] else c.args.heading.now) ++ l) (sym (append_assoc (codes ";; malformed record in the ") (section_word c.args.section) (codes " section\n"))))
