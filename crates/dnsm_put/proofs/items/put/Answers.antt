use Rattle.std.proofs.Common.{◌+◌, length, get_or, set, arith, ap, refl}
use Rattle.dnsm_put.specs.Items.{IsQuestionOf, IsRecordOf}
use Rattle.dnsm_put.proofs.Drafts.{adds, drafts_stay}
use Rattle.dnsm_put.proofs.items.put.Goals as goal

pub returns-in-Err-clause-refused : goal.returns-in-Err-clause-refused
returns-in-Err-clause-refused c = c.in-Err.ensures.refused (length c.args.out.now)

pub returns-clause-adds : goal.returns-clause-adds
returns-clause-adds c =
    let d = c.args.draft.now in
    let p = c.in-Some.ensures in
    let w = p.within in
    let m = c.most_of-most.ensures in
    let l = c.put_item.ensures.length in
    let e = c.from-section.ensures in
    adds (IsQuestionOf c.args.item.now) (IsRecordOf c.args.item.now) c.args.out.now c.put_item.new.out d _ c.args.item.now.section (record {
      kept = c.put_item.ensures.kept;
      long = l;
      within = omega arith;
      after = p.after;
      four = omega arith;
      counts = ap (λ k. set d.counts k (get_or d.counts k 0 + 1)) e;
      section = refl;
      before = c.in_default.ensures.acceptable.in_order.1;
    }) p.question p.record_of

pub returns-in_default-put_item-clause-stay : goal.returns-in_default-put_item-clause-stay
returns-in_default-put_item-clause-stay c = drafts_stay c.args.out.now c.put_item.new.out c.args.draft.now.len c.put_item.ensures.length c.put_item.ensures.kept

pub returns-clause-stay : goal.returns-clause-stay
returns-clause-stay c = drafts_stay c.args.out.now c.put_item.new.out c.args.draft.now.len c.put_item.ensures.length c.put_item.ensures.kept
