use Rattle.std.proofs.Common.{inl, inr}
use Rattle.std.proofs.lemmas.Result.{IfOk-weaker}
use Rattle.dnsview_tool.specs.Requests.{asked}
use Rattle.dnsview_tool.proofs.Reported.{failed_reports, never_fails, printing_reported, reading_reported}
use Rattle.dnsview_tool.proofs.Viewed.{viewed_reports}
use Rattle.dnsview_tool.proofs.program.tool.Goals as goal

pub returns-in-Ok-clause-views : goal.returns-in-Ok-clause-views
returns-in-Ok-clause-views g c = inr (rw c.in-Ok.is at c.view.ensures.views)

pub returns-in-Ok-clause-reports : goal.returns-in-Ok-clause-reports
returns-in-Ok-clause-reports g c = viewed_reports _ _ _ _ _ _ _ (rw c.in-Ok.is at c.view.ensures.views)

pub returns-in-Ok-clause-fails : goal.returns-in-Ok-clause-fails
returns-in-Ok-clause-fails g c = λ e. absurd (never_fails (asked c.args.args.now) c.in-Ok.status (rw c.in-Ok.is at c.view.ensures.status) e)

pub returns-in-Err-Reading-clause-views : goal.returns-in-Err-Reading-clause-views
returns-in-Err-Reading-clause-views g c = IfOk-weaker c.fail.result _ _ (λ status e. inl e) c.fail.ensures.status

pub returns-in-Err-Reading-clause-reports : goal.returns-in-Err-Reading-clause-reports
returns-in-Err-Reading-clause-reports g c = failed_reports c.fail.result _ _ c.fail.ensures.status

pub returns-in-Err-Reading-clause-fails : goal.returns-in-Err-Reading-clause-fails
returns-in-Err-Reading-clause-fails g c = reading_reported c.fail.result _ _ _ _ _ (rw c.in-Err-Reading.field-0-is at c.in-Err-Reading.ensures.fails) c.fail.ensures.text

pub returns-in-Err-Printing-clause-views : goal.returns-in-Err-Printing-clause-views
returns-in-Err-Printing-clause-views g c = IfOk-weaker c.fail-in-Err-Printing.result _ _ (λ status e. inl e) c.fail-in-Err-Printing.ensures.status

pub returns-in-Err-Printing-clause-reports : goal.returns-in-Err-Printing-clause-reports
returns-in-Err-Printing-clause-reports g c = failed_reports c.fail-in-Err-Printing.result _ _ c.fail-in-Err-Printing.ensures.status

pub returns-in-Err-Printing-clause-fails : goal.returns-in-Err-Printing-clause-fails
returns-in-Err-Printing-clause-fails g c =
    printing_reported c.fail-in-Err-Printing.result _ _ _ _ _ (rw c.in-Err-Printing.field-0-is at c.in-Err-Printing.ensures.fails) c.fail-in-Err-Printing.ensures.text
