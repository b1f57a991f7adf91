use Rattle.std.proofs.Common.{◌∙◌, sym}
use Rattle.dnsview_tool.specs.Viewing.IsViewed.{help, version, wrong}
use Rattle.dns_lines.proofs.theory.PrintedLines.{on_ok}
use Rattle.dnsview_tool.proofs.Reported.{before_printing, before_reporting}
use Rattle.dnsview_tool.proofs.Viewed.{keeps_same, viewed_other, viewed_view}
use Rattle.dnsview_tool.proofs.program.view.Goals as goal

pub returns-in-View-clause-views : goal.returns-in-View-clause-views
returns-in-View-clause-views g c = viewed_view _ _ _ _ _ _ c.view_input.result c.in-View.form (sym c.of_words.ensures ∙ c.in-View.is) c.view_input.ensures.views

pub returns-in-Help-clause-views : goal.returns-in-Help-clause-views
returns-in-Help-clause-views g c =
    viewed_other _ _ _ _ _ _ c.answer.result 0 c.answer.ensures.status (on_ok c.answer.result (λ p xs. help (sym c.of_words.ensures ∙ c.in-Help.is) p (keeps_same _)) c.answer.ensures.text)

pub returns-in-Version-clause-views : goal.returns-in-Version-clause-views
returns-in-Version-clause-views g c =
    viewed_other _ _ _ _ _ _ c.answer-in-Version.result 0 c.answer-in-Version.ensures.status
    (on_ok c.answer-in-Version.result (λ p xs. version (sym c.of_words.ensures ∙ c.in-Version.is) p (keeps_same _)) c.answer-in-Version.ensures.text)

pub returns-in-Wrong-clause-views : goal.returns-in-Wrong-clause-views
returns-in-Wrong-clause-views g c =
    viewed_other _ _ _ _ _ _ c.refuse.result 2 c.refuse.ensures.status (on_ok c.refuse.result (λ p xs. wrong (sym c.of_words.ensures ∙ c.in-Wrong.is) (keeps_same _) p) c.refuse.ensures.text)

pub returns-in-Help-clause-fails : goal.returns-in-Help-clause-fails
returns-in-Help-clause-fails g c = before_printing c.answer.result _ _ _ c.answer.ensures.fails

pub returns-in-Version-clause-fails : goal.returns-in-Version-clause-fails
returns-in-Version-clause-fails g c = before_printing c.answer-in-Version.result _ _ _ c.answer-in-Version.ensures.fails

pub returns-in-Wrong-clause-fails : goal.returns-in-Wrong-clause-fails
returns-in-Wrong-clause-fails g c = before_reporting c.refuse.result _ _ _ c.refuse.ensures.fails
