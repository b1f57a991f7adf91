use Rattle.std.proofs.Common.{arith}
use Rattle.fields_plain.proofs.Calendar.{day_reads}
use Rattle.fields_plain.proofs.time.read_day.Goals as goal

pub returns : goal.returns
returns c =
    day_reads c.args.word.now _ _ _ _ c.days_of.result (omega arith)
    c.in_ok-century.ensures.0 c.in_ok-year.ensures.0 c.in_ok-month.ensures.0 c.in_ok-day.ensures.0
    c.in_ok-century.ensures.1 c.in_ok-year.ensures.1 c.in_ok-month.ensures.1 c.in_ok-day.ensures.1
    c.days_of.ensures
