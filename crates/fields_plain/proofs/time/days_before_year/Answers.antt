use Rattle.std.proofs.Common.{◌≡◌, ◌+◌, ◌-◌, sym, ap, arith}
use Rattle.fields_plain.specs.Time.{year_size}
use Rattle.fields_plain.specs.TimeWords.{days_to}
use Rattle.fields_plain.proofs.Calendar.{days_more, days_none, year_bound}
use Rattle.fields_plain.proofs.time.days_before_year.Goals as goal

pub loop-earlier-init : goal.loop-earlier-init
loop-earlier-init c = record { days = sym days_none; bound = omega arith }

pub overflow_add-days : goal.overflow_add-days
overflow_add-days c = omega (arith, year_bound c.loop-earlier.earlier)

pub loop-earlier-preserved : goal.loop-earlier-preserved
loop-earlier-preserved c =
    let k = c.loop-earlier.earlier - 1970 in
    let year : 1970 + k ≡ c.loop-earlier.earlier = omega arith in
    let next : c.loop-earlier.earlier + 1 - 1970 ≡ k + 1 = omega arith in
    record {
      days = omega (arith, ap days_to next, days_more k, ap year_size year);
      bound = omega (arith, year_bound c.loop-earlier.earlier);
    }
