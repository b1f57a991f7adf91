use Rattle.std.proofs.Common.{◌∙◌}
use Rattle.dnsm_put.proofs.Buffers.{kept_later}
use Rattle.dnsm_put.proofs.SetLemmas.{put_next, put_none, put_whole, refuses_next}
use Rattle.dnsm_put.proofs.sets.put_all.Goals as goal

pub loop-item-init : goal.loop-item-init
loop-item-init c = put_none c.args.out.now c.args.draft.now

pub loop-item-preserved : goal.loop-item-preserved
loop-item-preserved c =
    let p = c.in_default.ensures in
    put_next c.args.out.now c.loop-item.out c.put.new.out c.args.draft.now c.loop-item.draft c.put.new.draft c.args.items.now c.loop-item.item-index _ c.loop-item-test.true c.loop-item.invariant
    (record {
      adds = p.adds;
      means = p.means;
      room = p.room;
      size = p.size;
      section = p.section;
      keeps = record { settings = c.put.ensures.settings; later = p.after; long = c.put.ensures.length; kept = c.put.ensures.kept; stay = c.put.ensures.stay };
    })

pub returns-in-Err-clause-refused : goal.returns-in-Err-clause-refused
returns-in-Err-clause-refused c =
    refuses_next c.args.out.now c.loop-item.out c.args.draft.now c.loop-item.draft c.args.items.now c.loop-item.item-index _ c.in-Err.error c.loop-item-test.true c.loop-item.invariant
    c.in-Err.ensures.refused

pub returns-in-Err-clause-kept : goal.returns-in-Err-clause-kept
returns-in-Err-clause-kept c =
    let h = c.loop-item.invariant.keeps in
    kept_later c.loop-item.out c.put.new.out c.args.draft.now.len c.loop-item.draft.len h.later c.put.ensures.kept ∙ h.kept

pub returns-clause-adds : goal.returns-clause-adds
returns-clause-adds c =
    (put_whole c.args.out.now c.loop-item.out c.args.draft.now c.loop-item.draft c.args.items.now c.loop-item.item-index c.loop-item-test.false c.loop-item.invariant).adds
