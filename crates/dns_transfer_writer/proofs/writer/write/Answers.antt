use Rattle.dns_transfer_writer.specs.Messages.CantWrite.{before}
use Rattle.dns_transfer_writer.proofs.MessageLemmas.{first-refused, holds, memory-out}
use Rattle.dns_transfer_writer.proofs.writer.write.Goals as goal

pub returns-in-Err : goal.returns-in-Err
returns-in-Err g c = before c.in-Err.ensures

pub returns-in-Err-push_ref : goal.returns-in-Err-push_ref
returns-in-Err-push_ref g c = first-refused _ _ _ _ _ _ _ _ _ c.in-Ok.ensures c.in-Err-push_ref.ensures.outcome.each

pub returns-in-Ok-fill : goal.returns-in-Ok-fill
returns-in-Ok-fill g c =
    let push = c.in_default.ensures in
    holds _ g.T.Composer.grows _ _ _ _ _ _ _ _ _ _ c.in-Ok.ensures push.outcome.each push.accepted c.in-Ok-fill.ensures.filled

pub returns : goal.returns
returns g c = let out = c.in-Err-fill.ensures.memory in memory-out _ _ _ _ _ _ _ _ out.0 out.1
