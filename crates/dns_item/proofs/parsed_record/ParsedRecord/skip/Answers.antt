use Rattle.std.proofs.Common.{◌∙◌, ap, arith, length, refl}
use Rattle.std.proofs.lemmas.Result.{err_from_is_err_and}
use Rattle.dns_item.specs.AfterNames.FieldsSkipFaultAt.{name}
use Rattle.dns_item.proofs.RecordLemmas.{without_fields, lacks_data}
use Rattle.dns_item.proofs.parsed_record.ParsedRecord.skip.Goals as goal

pub returns-in_err-skip : goal.returns-in_err-skip
returns-in_err-skip c =
    let p = err_from_is_err_and c.from_residual.result c.from_residual.ensures.1 in
    rw (p.1, p.2) (name c.in_err-skip.ensures.0, refl)

pub returns-in_err-advance : goal.returns-in_err-advance
returns-in_err-advance c =
    let p = err_from_is_err_and c.from_residual-in_err-advance.result c.from_residual-in_err-advance.ensures.1 in
    let h = c.in_err-advance.ensures in
    rw (p.1, p.2) (without_fields _ _ _ _ c.in_ok-skip.ensures (omega (arith, h.0)) refl h.1, refl)

pub returns-in_err-rdlen : goal.returns-in_err-rdlen
returns-in_err-rdlen c =
    let p = err_from_is_err_and c.from_residual-in_err-rdlen.result c.from_residual-in_err-rdlen.ensures.1 in
    let h = c.in_err-rdlen.ensures in
    let first = c.in_ok-advance.ensures in
    let at = first.1.offset in
    rw (p.1, p.2) (without_fields _ _ _ _ c.in_ok-skip.ensures (omega (arith, h.0, at)) (ap length first.1.seen) h.1, refl)

pub returns-in_err-advance-2 : goal.returns-in_err-advance-2
returns-in_err-advance-2 c =
    let p = err_from_is_err_and c.from_residual-in_err-advance-2.result c.from_residual-in_err-advance-2.ensures.1 in
    let h = c.in_err-advance-2.ensures in
    let first = c.in_ok-advance.ensures in
    let second = c.in_ok-rdlen.ensures in
    rw (p.1, p.2) (lacks_data _ _ _ _ _ _ c.in_ok-skip.ensures first.1 second.1 second.0 (c.from.ensures ∙ second.2) h.0 h.1, refl)
