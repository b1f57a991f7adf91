use Rattle.std.proofs.Common.{◌+◌, arith, ap, take, ◌∙◌}
use Rattle.dnsm_put.proofs.Buffers.{kept_later, take_over}
use Rattle.dnsm_put.proofs.ItemsWritten.{holds_record}
use Rattle.dnsm_put.proofs.copies.put_record_with.Goals as goal

pub returns-in_err-end-clause-kept : goal.returns-in_err-end-clause-kept
returns-in_err-end-clause-kept c =
    let a = c.in_ok-after.ensures.after in
    kept_later c.put_head.new.out c.put_fields.new.out c.args.at (c.in_ok-after.after + 10) (omega arith) c.put_fields.ensures.kept ∙ c.put_head.ensures.kept

pub returns-clause-holds : goal.returns-clause-holds
returns-clause-holds c = λ x of.
    let size = c.in_ok-end.ensures.size in
    holds_record c.put_head.new.out c.put_fields.new.out c.put_rdlength.new.out c.args.at c.in_ok-after.after c.in_ok-end.end c.args.item.now x _ of (omega arith)
    (c.in_ok-after.ensures.owner x.owner of.is_record.owner of.owner) c.in_ok-after.ensures.fields c.put_fields.ensures.kept c.put_fields.ensures.length
    c.in_ok-end.ensures.written (omega arith) c.put_rdlength.ensures

pub returns-clause-kept : goal.returns-clause-kept
returns-clause-kept c =
    let a = c.in_ok-after.ensures.after in
    let y = c.in_ok-end.ensures.after in
    let w = c.in_ok-end.ensures.within in
    let l = c.put_fields.ensures.length in
    let k = c.put_head.ensures.length in
    ap (take c.args.at) c.put_rdlength.ensures ∙ take_over c.put_fields.new.out _ (c.in_ok-after.after + 8) c.args.at (omega arith) (omega arith)
    ∙ kept_later c.put_head.new.out c.put_fields.new.out c.args.at (c.in_ok-after.after + 10) (omega arith) c.put_fields.ensures.kept ∙ c.put_head.ensures.kept
