use Rattle.std.proofs.Common.{◌∙◌, ap, arith, length}
use Rattle.std.proofs.lemmas.Result.{err_from_is_err_and}
use Rattle.dns_item.specs.Items.LacksRecord.{fields}
use Rattle.dns_edit.proofs.SpanLemmas.{lacks, lacks_data, without_owner}
use Rattle.dns_edit.proofs.span.span_at.Goals as goal

pub returns-in_err-skip : goal.returns-in_err-skip
returns-in_err-skip c =
    let p = err_from_is_err_and c.from_residual-in_err-skip.result c.from_residual-in_err-skip.ensures.1 in
    let at = c.in_ok-seek.ensures.ok.1 in
    rw (p.1, p.2) (without_owner _ _ c.seek.new.self _ (at.seen ∙ c.new-parser.ensures.seen) at.offset c.in_err-skip.ensures.0)

pub returns-in_err-rtype : goal.returns-in_err-rtype
returns-in_err-rtype c =
    let p = err_from_is_err_and c.from_residual-in_err-rtype.result c.from_residual-in_err-rtype.ensures.1 in
    let at = c.in_ok-seek.ensures.ok.1 in
    let s = at.seen ∙ c.new-parser.ensures.seen in
    let h = c.in_err-rtype.ensures in
    let n = ap length (c.in_ok-skip.ensures.1.seen ∙ s) in
    rw (p.1, p.2) (lacks _ _ _ _ _ s at.offset c.in_ok-skip.ensures (fields (omega (arith, h.0, n))) h.1)

pub returns-in_err-advance : goal.returns-in_err-advance
returns-in_err-advance c =
    let p = err_from_is_err_and c.from_residual-in_err-advance.result c.from_residual-in_err-advance.ensures.1 in
    let at = c.in_ok-seek.ensures.ok.1 in
    let s = at.seen ∙ c.new-parser.ensures.seen in
    let h = c.in_err-advance.ensures in
    let first = c.in_ok-rtype.ensures.1 in
    let n = ap length (first.seen ∙ c.in_ok-skip.ensures.1.seen ∙ s) in
    let o = first.offset in
    rw (p.1, p.2) (lacks _ _ _ _ _ s at.offset c.in_ok-skip.ensures (fields (omega (arith, h.0, n, o))) h.1)

pub returns-in_err-ttl : goal.returns-in_err-ttl
returns-in_err-ttl c =
    let p = err_from_is_err_and c.from_residual-in_err-ttl.result c.from_residual-in_err-ttl.ensures.1 in
    let at = c.in_ok-seek.ensures.ok.1 in
    let s = at.seen ∙ c.new-parser.ensures.seen in
    let h = c.in_err-ttl.ensures in
    let first = c.in_ok-rtype.ensures.1 in
    let second = c.in_ok-advance.ensures.1 in
    let n = ap length (second.seen ∙ first.seen ∙ c.in_ok-skip.ensures.1.seen ∙ s) in
    let o = first.offset in
    let q = second.offset in
    rw (p.1, p.2) (lacks _ _ _ _ _ s at.offset c.in_ok-skip.ensures (fields (omega (arith, h.0, n, o, q))) h.1)

pub returns-in_err-rdlen : goal.returns-in_err-rdlen
returns-in_err-rdlen c =
    let p = err_from_is_err_and c.from_residual-in_err-rdlen.result c.from_residual-in_err-rdlen.ensures.1 in
    let at = c.in_ok-seek.ensures.ok.1 in
    let s = at.seen ∙ c.new-parser.ensures.seen in
    let h = c.in_err-rdlen.ensures in
    let first = c.in_ok-rtype.ensures.1 in
    let second = c.in_ok-advance.ensures.1 in
    let third = c.in_ok-ttl.ensures.1 in
    let n = ap length (third.seen ∙ second.seen ∙ first.seen ∙ c.in_ok-skip.ensures.1.seen ∙ s) in
    let o = first.offset in
    let q = second.offset in
    let r = third.offset in
    rw (p.1, p.2) (lacks _ _ _ _ _ s at.offset c.in_ok-skip.ensures (fields (omega (arith, h.0, n, o, q, r))) h.1)

pub returns-in_err-advance-2 : goal.returns-in_err-advance-2
returns-in_err-advance-2 c =
    let p = err_from_is_err_and c.from_residual-in_err-advance-2.result c.from_residual-in_err-advance-2.ensures.1 in
    let at = c.in_ok-seek.ensures.ok.1 in
    let s = at.seen ∙ c.new-parser.ensures.seen in
    let h = c.in_err-advance-2.ensures in
    let first = c.in_ok-rtype.ensures.1 in
    let second = c.in_ok-advance.ensures.1 in
    let third = c.in_ok-ttl.ensures.1 in
    let fourth = c.in_ok-rdlen.ensures in
    let o = first.offset in
    let q = second.offset in
    let r = third.offset in
    let last = lacks_data _ _ _ _ s at.offset c.in_ok-skip.ensures (third.seen ∙ second.seen ∙ first.seen) (omega (arith, o, q, r)) fourth.1 fourth.0 (c.from.ensures ∙ fourth.2) h.0 in
    rw (p.1, p.2) (lacks _ _ _ _ _ s at.offset c.in_ok-skip.ensures last h.1)
