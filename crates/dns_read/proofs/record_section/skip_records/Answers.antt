use Rattle.std.proofs.Common.{arith, refl}
use Rattle.std.proofs.lemmas.Result.{err_from_is_err_and}
use Rattle.dns_item.specs.Items.{SkipsRecord, RecordSkipFaultAt}
use Rattle.dns_read.specs.Reading.Skipped.{none}
use Rattle.dns_read.proofs.SkipLemmas.{skips_more, skips_stop}
use Rattle.dns_read.proofs.record_section.skip_records.Goals as goal

pub loop-record-init : goal.loop-record-init
loop-record-init c = (none, record { input = refl; seen = refl; offset = refl })

pub loop-record-preserved : goal.loop-record-preserved
loop-record-preserved c =
    let l = c.loop-record in
    skips_more SkipsRecord RecordSkipFaultAt c.args.parser.now l.parser l._record l.invariant c.skip.new.parser c.in_ok-skip.ensures

pub returns-in_err-skip : goal.returns-in_err-skip
returns-in_err-skip c =
    let p = err_from_is_err_and c.from_residual.result c.from_residual.ensures.1 in
    let l = c.loop-record in
    rw (p.1, p.2) (skips_stop SkipsRecord RecordSkipFaultAt c.args.parser.now l.parser l._record l.invariant c.args.count _ c.in_err-skip.ensures.0 (omega arith))
