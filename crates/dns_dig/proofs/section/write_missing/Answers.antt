use Rattle.std.proofs.Common.{ℕ, List, ◌++◌, append-nil, ap, codes, rules, sym}
use Rattle.dns_print.proofs.theory.Prints.{print_three}
use Rattle.dns_lines.specs.ZoneLines.{missing_line}
use Rattle.dns_dig.proofs.section.write_missing.Goals as goal

pub returns-clause-text : goal.returns-clause-text
returns-clause-text g c = λ ok.
    print_three _ _ _ _ _ _ _ _ _ (c.write_text.ensures.text (search rules)) (c.write_missing_line.ensures.text (search rules)) (c.write_text-2.ensures.text ok)
    (ap (λ (l : List ℕ). c.args.heading.now ++ (l ++ codes "\n")) (sym (append-nil (missing_line c.args.section))))
