use Rattle.std.proofs.Common.{arith}
use Rattle.std.proofs.lemmas.Result.{err_from_is_err_and}
use Rattle.dns_item.proofs.RecordReadingLemmas.{whole_fault, whole_left_over}
use Rattle.dns_item.proofs.record_reading.parse_any_data.Goals as goal

pub returns-in_err-data : goal.returns-in_err-data
returns-in_err-data g c =
    let p = err_from_is_err_and c.from_residual.result c.from_residual.ensures.1 in
    rw (p.1, p.2) (whole_fault g.D.RecordData.rtype_of g.D.RecordData.parts c.args.rtype c.args.parser.now c.parse_any_rdata.new.parser _ _ (rw c.in_err-data.was at c.parse_any_rdata.ensures))

pub returns-then-remaining-gt0 : goal.returns-then-remaining-gt0
returns-then-remaining-gt0 g c =
    whole_left_over g.D.RecordData.rtype_of g.D.RecordData.parts c.args.rtype c.args.parser.now c.parse_any_rdata.new.parser _ c.in_ok-data.data
    (rw c.in_ok-data.was at c.parse_any_rdata.ensures) (omega (arith, c.remaining.ensures, c.if-remaining-gt0.true))
