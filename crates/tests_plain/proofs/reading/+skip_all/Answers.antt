use Rattle.std.proofs.Common.{arith}
use Rattle.std.proofs.lemmas.Result.{err_from_is_err_and}
use Rattle.tests_plain.specs.PlainEntries.{EntrySkipFaultAt}
use Rattle.tests_plain.proofs.SectionSteps.{skips_none, stops_here, skips_on}
use Rattle.tests_plain.proofs.reading.+skip_all.Goals as goal

pub returns-then-count-eq0 : goal.returns-then-count-eq0
returns-then-count-eq0 t c = skips_none _ (EntrySkipFaultAt c.args.kind c.args.octets.now) _ _ (omega arith)

pub returns-in_err-entry_end : goal.returns-in_err-entry_end
returns-in_err-entry_end t c =
    let p = err_from_is_err_and c.from_residual.result c.from_residual.ensures.1 in
    rw (p.1, p.2) (stops_here _ _ _ _ _ (omega arith) c.in_err-entry_end.ensures)

pub returns : goal.returns
returns t c = skips_on _ _ _ _ _ c.skip_all.result (omega arith) c.in_ok-entry_end.ensures c.skip_all.ensures
