use Rattle.std.proofs.Common.{ℕ, List, append-nil, refl, rules, subst, sym}
use Rattle.std.specs.Fmt.{WritesInCalls}
use Rattle.dns_lines.specs.ZoneLines.{malformed_line}
use Rattle.dns_dig.specs.Lines.{line_text}
use Rattle.dns_dig.proofs.section.write_item.Goals as goal

pub write_unless_elsewhere-requires-clause-read : goal.write_unless_elsewhere-requires-clause-read
write_unless_elsewhere-requires-clause-read g c = rw c.in-Ok.is at c.requires.read

pub write_unless_elsewhere-requires-clause-short : goal.write_unless_elsewhere-requires-clause-short
write_unless_elsewhere-requires-clause-short g c = rw c.in-Ok.is at c.requires.short

pub returns-in-Ok-clause-text : goal.returns-in-Ok-clause-text
returns-in-Ok-clause-text g c = rw c.in-Ok.is c.write_unless_elsewhere.ensures.text

pub returns-in-Ok-clause-begun : goal.returns-in-Ok-clause-begun
returns-in-Ok-clause-begun g c = rw c.in-Ok.is c.write_unless_elsewhere.ensures.begun

pub returns-in_ok-write_malformed-in-Err-clause-text : goal.returns-in_ok-write_malformed-in-Err-clause-text
returns-in_ok-write_malformed-in-Err-clause-text g c =
    rw c.in-Err.is (subst (λ (t : List ℕ). WritesInCalls g.T.TextWriter.takes c.args.writer.now t c.write_malformed.new.writer)
    (sym (append-nil (line_text c.args.heading.now c.args.begun (malformed_line c.args.section)))) (c.write_malformed.ensures.text (search rules)))

pub returns-in_ok-write_malformed-in-Err-clause-begun : goal.returns-in_ok-write_malformed-in-Err-clause-begun
returns-in_ok-write_malformed-in-Err-clause-begun g c = rw c.in-Err.is refl
