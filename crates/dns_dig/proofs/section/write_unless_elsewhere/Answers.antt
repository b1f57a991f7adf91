use Rattle.std.proofs.Common.{◌∙◌, ℕ, List, ap, append-nil, rules, subst, sym}
use Rattle.std.specs.Fmt.{WritesInCalls}
use Rattle.dns_item.specs.ParsedRecord.{encoded_record}
use Rattle.dns_print.proofs.theory.Prints.{print_none}
use Rattle.dns_dig.specs.Lines.{begun_after, line_text, lines_text}
use Rattle.dns_dig.specs.Records.{record_line}
use Rattle.dns_dig.proofs.ItemLines.{elsewhere_none, here_one}
use Rattle.dns_dig.proofs.section.write_unless_elsewhere.Goals as goal

pub returns-then-is_elsewhere-clause-text : goal.returns-then-is_elsewhere-clause-text
returns-then-is_elsewhere-clause-text g c =
    let none = elsewhere_none c.args.section (encoded_record c.args.parsed.now) (sym c.is_elsewhere.ensures ∙ c.if-is_elsewhere.true) in
    subst (λ (ls : List (List ℕ)). WritesInCalls g.T.TextWriter.takes c.args.writer.now (lines_text c.args.heading.now c.args.begun ls) c.args.writer.now) (sym none) (print_none _ _)

pub returns-then-is_elsewhere-clause-begun : goal.returns-then-is_elsewhere-clause-begun
returns-then-is_elsewhere-clause-begun g c =
    let none = elsewhere_none c.args.section (encoded_record c.args.parsed.now) (sym c.is_elsewhere.ensures ∙ c.if-is_elsewhere.true) in
    ap (begun_after c.args.begun) (sym none)

pub returns-clause-text : goal.returns-clause-text
returns-clause-text g c =
    let x = encoded_record c.args.parsed.now in
    let one = here_one c.args.section x (sym c.is_elsewhere.ensures ∙ c.if-is_elsewhere.false) in
    subst (λ (t : List ℕ). WritesInCalls g.T.TextWriter.takes c.args.writer.now t c.write_line.new.writer)
    (sym (append-nil (line_text c.args.heading.now c.args.begun (record_line x))) ∙ ap (lines_text c.args.heading.now c.args.begun) (sym one)) (c.write_line.ensures.text (search rules))

pub returns-clause-begun : goal.returns-clause-begun
returns-clause-begun g c =
    let one = here_one c.args.section (encoded_record c.args.parsed.now) (sym c.is_elsewhere.ensures ∙ c.if-is_elsewhere.false) in
    ap (begun_after c.args.begun) (sym one)
