use Rattle.std.proofs.Common.{◌∙◌, refl, sym}
use Rattle.dnsview_tool.specs.Viewing.{IsPrinted}
use Rattle.dnsview_tool.specs.Viewing.IsPrinted.{shown, empty}
use Rattle.dns_lines.proofs.theory.PrintedLines.{on_ok}
use Rattle.dnsview_tool.proofs.Reported.{before_reporting, ends_in}
use Rattle.dnsview_tool.proofs.Viewed.{given_empty, given_some, keeps_same}
use Rattle.dnsview_tool.proofs.program.print_message.Goals as goal

pub returns-then-is_empty-clause-prints : goal.returns-then-is_empty-clause-prints
returns-then-is_empty-clause-prints g c =
    λ input gives.
    let none = given_empty input c.args.message.now _ refl gives (sym c.is_empty.ensures ∙ c.if-is_empty.true) in
    ends_in c.report.result 4 (IsPrinted c.args.form input _ _ _ _) c.report.ensures.status (on_ok c.report.result (λ p. empty none (keeps_same _) p) c.report.ensures.text)

pub returns-then-is_empty-clause-fails : goal.returns-then-is_empty-clause-fails
returns-then-is_empty-clause-fails g c = before_reporting c.report.result _ _ _ c.report.ensures.fails

pub returns-in-Ok-clause-prints : goal.returns-in-Ok-clause-prints
returns-in-Ok-clause-prints g c =
    λ input gives.
    shown c.args.message.now gives (given_some c.args.message.now _ refl (sym c.is_empty.ensures ∙ c.if-is_empty.false)) c.in-Ok.ensures (keeps_same _)

pub returns-in-Err-clause-fails : goal.returns-in-Err-clause-fails
returns-in-Err-clause-fails g c = keeps_same _
