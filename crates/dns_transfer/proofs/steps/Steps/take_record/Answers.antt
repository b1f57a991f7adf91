use Rattle.std.proofs.Common.{◌∙◌, ap, sym}
use Rattle.std.specs.Prelude.{Result, Err}
use Rattle.dns_item.specs.ParsedRecord.{encoded_record}
use Rattle.dns_transfer.specs.Steps.{step_result}
use Rattle.dns_transfer.specs.declared.error.TransferError.{TransferError}
use Rattle.dns_transfer.specs.declared.steps.Step.{Step}
use Rattle.dns_transfer.proofs.StepLemmas.{acts_first, refused_first}
use Rattle.dns_transfer.proofs.steps.Steps.take_record.Goals as goal

pub returns-in-Ok-clause-taken : goal.returns-in-Ok-clause-taken
returns-in-Ok-clause-taken c =
    acts_first c.args.self.now c.act.new.self (encoded_record c.args.shown) c.args.ahead c.requires.first c.act.ensures.asked c.args.state c.in-Ok.kind c.advance.result c.act.result
    (sym c.kind_of.ensures ∙ c.in-Ok.is) (sym c.advance.ensures) c.act.ensures.acts

pub returns-in-Err-clause-taken : goal.returns-in-Err-clause-taken
returns-in-Err-clause-taken c =
    refused_first c.args.self.now c.stop.new.self (encoded_record c.args.shown) c.args.ahead c.requires.first c.stop.ensures.asked c.args.state c.in-Err.error (Err c.stop.result)
    (sym c.kind_of.ensures ∙ c.in-Err.is) (ap (λ (f : TransferError). let r : Result Step TransferError = Err f in step_result r) c.stop.ensures.error) c.stop.ensures.state
