use Rattle.std.proofs.Common.{ℕ, List, subst, sym}
use Rattle.dnsview_tool.specs.Viewing.{Gives}
use Rattle.dnsview_tool.specs.Viewing.IsPrinted.{bad_hex}
use Rattle.dns_lines.proofs.theory.PrintedLines.{on_ok}
use Rattle.dnsview_tool.proofs.Reported.{before_reporting, ends_in}
use Rattle.dnsview_tool.proofs.Viewed.{keeps_same}
use Rattle.dnsview_tool.proofs.program.print_input.Goals as goal

pub returns-in-Ok-Some-clause-prints : goal.returns-in-Ok-Some-clause-prints
returns-in-Ok-Some-clause-prints g c =
    let gives = rw c.in-Ok-Some.field-0-is at c.in-Ok-Some.ensures in
    c.print_message.ensures.prints c.args.input.items (subst (λ (octets : List ℕ). Gives c.args.input.items octets) (sym c.deref.ensures.value) gives)

pub returns-in-Ok-None-clause-prints : goal.returns-in-Ok-None-clause-prints
returns-in-Ok-None-clause-prints g c =
    ends_in c.report.result 1 _ c.report.ensures.status (on_ok c.report.result (λ p. bad_hex (rw c.in-Ok-None.field-0-is at c.in-Ok-None.ensures) (keeps_same _) p) c.report.ensures.text)

pub returns-in-Ok-None-clause-fails : goal.returns-in-Ok-None-clause-fails
returns-in-Ok-None-clause-fails g c = before_reporting c.report.result _ _ _ c.report.ensures.fails

pub returns-in-Err-clause-fails : goal.returns-in-Err-clause-fails
returns-in-Err-clause-fails g c = keeps_same _
