use Rattle.std.proofs.Common.{◌≡◌, false, arith}
use Rattle.dns_script.proofs.PushedRecords.{push_stays, is_own, others_stay}
use Rattle.dns_script.proofs.script.stay_in_records.Goals as goal

pub returns-in-PushRecord : goal.returns-in-PushRecord
returns-in-PushRecord g c _ _ =
    push_stays _ _ _ _ _ _ _ _ _ _ _ _ _ g.met.S.RecordStage.at c.in-PushRecord.is c.reply_of-reply.ensures c.push.ensures.accepted c.push.ensures.refused c.push.ensures.outcome

pub returns-in_default : goal.returns-in_default
returns-in_default g c moves opts =
    let own : is_own c.args.call.now ≡ false = grind arith in
    others_stay _ _ _ _ _ _ _ _ _ _ _ g.met.S.RecordStage.at own moves opts c.set-reply.ensures.done c.set-reply.ensures.misplaced c.set-reply.ensures.same
