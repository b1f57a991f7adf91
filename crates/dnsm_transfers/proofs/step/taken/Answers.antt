use Rattle.std.proofs.Common.{inr}
use Rattle.dnsm_status.specs.Codes.{number_of}
use Rattle.dns_transfer.specs.Asked.{asked_by}
use Rattle.dnsm_transfers.specs.Transfers.{state_of}
use Rattle.dnsm_transfers.proofs.TransferLemmas.{gives_error, gives_step, one_asked}
use Rattle.dnsm_transfers.proofs.step.taken.Goals as goal

pub returns-in-Ok-act_at-clause-gives : goal.returns-in-Ok-act_at-clause-gives
returns-in-Ok-act_at-clause-gives c =
    λ asked h.
    let t = c.args.transfer.now in
    gives_step asked (asked_by c.in-Ok.query) c.args.octets.now c.args.cursor.now c.cursor_after.result (state_of t) c.state_of.result c.in-Ok-act_at.acted
    (record { item = c.item_of-item.result; serial = c.numbers_of-kind.result.1; kind = c.numbers_of-kind.result.0 })
    (one_asked t c.in-Ok.query asked c.in-Ok.ensures.query h) c.state_of.ensures c.if-cursor-eq0.false c.in-Ok-act_at.ensures.acts c.cursor_after.ensures c.item_of-item.ensures
    c.numbers_of-kind.ensures.number c.numbers_of-kind.ensures.serial

pub returns-in-Err-act_at-clause-lacks : goal.returns-in-Err-act_at-clause-lacks
returns-in-Err-act_at-clause-lacks c =
    let t = c.args.transfer.now in
    inr (
      asked_by c.in-Ok.query,
      c.in-Ok.ensures.query,
      gives_error (asked_by c.in-Ok.query) c.args.octets.now c.args.cursor.now (state_of t) c.state_of.result c.in-Err-act_at.error (number_of c.fault_of.result) c.state_of.ensures
          c.if-cursor-eq0.false c.in-Err-act_at.ensures.stops c.fault_of.ensures,
    )
