use Rattle.std.proofs.Common.{◌+◌, ◌<◌, arith, rules}
use Rattle.dnsview_rows.specs.Walks.{MarksAmong, MarksStop}
use Rattle.dnsview_rows.proofs.Items.{first_none, one_more_item, stops_among}
use Rattle.dnsview_rows.proofs.Stops.{on_fault}
use Rattle.dnsview_rows.proofs.walk.Walk.records.Goals as goal

pub loop-index-init : goal.loop-index-init
loop-index-init c = record { comes = search rules; begun = omega arith; first = first_none c.args.part c.args.self.now }

pub returns-in_err-record-clause-stops : goal.returns-in_err-record-clause-stops
returns-in_err-record-clause-stops c =
    let old = c.args.self.now in
    let mid = c.loop-index.self in
    let new = c.record.new.self in
    let index = c.loop-index.index in
    let fewer : index < c.args.count = omega arith in
    on_fault c.from_residual.result (MarksStop c.args.part (index + 1) mid new) (MarksAmong c.args.part c.args.count old new)
    (λ fault h. stops_among c.args.part index c.args.count old mid new fault c.loop-index.invariant.first fewer h) (search rules)

pub loop-index-preserved : goal.loop-index-preserved
loop-index-preserved c = record {
  comes = search rules;
  begun = search rules;
  first = one_more_item c.args.part c.loop-index.index c.args.self.now c.loop-index.self c.record.new.self c.loop-index.invariant.first c.in_ok-record.ensures.shows;
}
