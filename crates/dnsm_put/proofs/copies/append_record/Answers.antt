use Rattle.std.proofs.Common.{◌+◌, get_or, set, arith, ap, refl}
use Rattle.fields_table.specs.FieldOrders.{parts_left}
use Rattle.dnsm_put.specs.Items.{IsQuestionOf, IsRecordWith}
use Rattle.dnsm_put.proofs.Drafts.{adds}
use Rattle.dnsm_put.proofs.copies.append_record.Goals as goal

pub returns-clause-adds : goal.returns-clause-adds
returns-clause-adds c =
    let d = c.args.draft.now in
    let item = c.args.item.now in
    let p = c.in-Some.ensures in
    let w = p.within in
    let m = c.most_of-most.ensures in
    let l = c.put_record_with.ensures.length in
    let e = c.from-section.ensures in
    let r = c.requires.section in
    adds (IsQuestionOf item) (IsRecordWith item (parts_left c.args.fields)) c.args.out.now c.put_record_with.new.out d _ item.section (record {
      kept = c.put_record_with.ensures.kept;
      long = l;
      within = omega arith;
      after = p.after;
      four = omega arith;
      counts = ap (λ k. set d.counts k (get_or d.counts k 0 + 1)) e;
      section = refl;
      before = r.2;
    }) (λ z x of. absurd (r.0 z)) (λ z x of. p.holds x of)
