use Rattle.std.proofs.lemmas.Result.{IfOk-weaker}
use Rattle.dnsview_tool.proofs.Viewed.{keeps_same, printed_read}
use Rattle.dnsview_tool.proofs.program.view_input.Goals as goal

pub returns-in-Ok-clause-views : goal.returns-in-Ok-clause-views
returns-in-Ok-clause-views g c =
    IfOk-weaker c.print_input.result _ _ (λ status p. printed_read _ _ _ _ _ _ status _ _ c.new-input.ensures.items c.in-Ok.ensures.bytes p) c.print_input.ensures.prints

pub returns-in-Err-clause-fails : goal.returns-in-Err-clause-fails
returns-in-Err-clause-fails g c = (keeps_same _, keeps_same _)
