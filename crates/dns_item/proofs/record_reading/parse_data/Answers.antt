use Rattle.std.proofs.Common.{refl, arith}
use Rattle.std.proofs.lemmas.Result.{err_from_is_err_and}
use Rattle.dns_item.proofs.RecordReadingLemmas.{whole_fault_taken, whole_left_over_taken}
use Rattle.dns_item.proofs.record_reading.parse_data.Goals as goal

pub returns-in_err-data : goal.returns-in_err-data
returns-in_err-data g c =
    let p = err_from_is_err_and c.from_residual.result c.from_residual.ensures.1 in
    rw (p.1, p.2) (whole_fault_taken g.D.RecordData.rtype_of g.D.RecordData.parts c.args.rtype c.args.parser.now c.parse_rdata.new.parser _ _ (rw c.in_err-data.was at c.parse_rdata.ensures))

pub returns-then-remaining-gt0 : goal.returns-then-remaining-gt0
returns-then-remaining-gt0 g c =
    whole_left_over_taken g.D.RecordData.rtype_of g.D.RecordData.parts c.args.rtype c.args.parser.now c.parse_rdata.new.parser _ c.in-Some.data _
    (rw (c.in_ok-data.was, c.in-Some.is) at c.parse_rdata.ensures) (omega (arith, c.remaining.ensures, c.if-remaining-gt0.true)) refl
