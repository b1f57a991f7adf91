use Rattle.std.proofs.lemmas.Result.{err_from_is_err_and}
use Rattle.dns_item.specs.AfterNames.FieldsFaultAt.{name}
use Rattle.dns_item.proofs.RecordLemmas.{short}
use Rattle.dns_item.proofs.record_header.RecordHeader+ParsedName.parse_ahead.Goals as goal

pub returns-in_err-owner-clause-reads : goal.returns-in_err-owner-clause-reads
returns-in_err-owner-clause-reads c =
    let p = err_from_is_err_and c.from_residual.result c.from_residual.ensures.1 in
    rw (p.1, p.2) (name c.in_err-owner.ensures.reads.0)

pub returns-in_err-rtype-clause-reads : goal.returns-in_err-rtype-clause-reads
returns-in_err-rtype-clause-reads c =
    let p = err_from_is_err_and c.from_residual-in_err-rtype.result c.from_residual-in_err-rtype.ensures.1 in
    let h = c.in_err-rtype.ensures in
    rw (p.1, p.2) (short _ _ _ _ c.in_ok-owner.ensures.reads.0 c.in_ok-owner.ensures.reads.1 h.0 h.1)
