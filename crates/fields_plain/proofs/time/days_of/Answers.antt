use Rattle.std.proofs.Common.{◌≡◌, ◌-◌, ℕ, List, ap, arith, get_or}
use Rattle.std.specs.Prelude.{sum, take}
use Rattle.fields_plain.specs.TimeWords.{days_to}
use Rattle.fields_plain.proofs.Calendar.{day_is_date, date_is_day}
use Rattle.fields_plain.proofs.time.days_of.Goals as goal
use Rattle.fields_plain.proofs.time.days_of.Goals.{then-year-lt-FIRST_YEAR-via-then-year-lt-FIRST_YEAR, then-year-lt-FIRST_YEAR-via-else-year-lt-FIRST_YEAR+then-year-gt-LAST_YEAR, then-year-lt-FIRST_YEAR-via-else-year-lt-FIRST_YEAR+else-year-gt-LAST_YEAR+then-month-lt1, then-year-lt-FIRST_YEAR-via-else-year-lt-FIRST_YEAR+else-year-gt-LAST_YEAR+else-month-lt1+then-month-gt12, then-day-lt1-via-then-day-lt1, then-day-lt1-via-else-day-lt1+then-day-sizes}

pub returns-then-year-lt-FIRST_YEAR : goal.returns-then-year-lt-FIRST_YEAR
returns-then-year-lt-FIRST_YEAR c = λ n h.
    let date = day_is_date _ _ _ n h in
    elim c.then-year-lt-FIRST_YEAR.branch [
      | then-year-lt-FIRST_YEAR-via-then-year-lt-FIRST_YEAR w ↦ omega (arith, w.if-year-lt-FIRST_YEAR.true, date.first_year)
      | then-year-lt-FIRST_YEAR-via-else-year-lt-FIRST_YEAR+then-year-gt-LAST_YEAR w ↦ omega (arith, w.if-year-gt-LAST_YEAR.true, date.last_year)
      | then-year-lt-FIRST_YEAR-via-else-year-lt-FIRST_YEAR+else-year-gt-LAST_YEAR+then-month-lt1 w ↦ omega (arith, w.if-month-lt1.true, date.first_month)
      | then-year-lt-FIRST_YEAR-via-else-year-lt-FIRST_YEAR+else-year-gt-LAST_YEAR+else-month-lt1+then-month-gt12 w ↦ omega (arith, w.if-month-gt12.true, date.last_month)
    ]

pub returns-then-day-lt1 : goal.returns-then-day-lt1
returns-then-day-lt1 c = λ n h.
    let date = day_is_date _ _ _ n h in
    let size = ap (λ (xs : List ℕ). get_or xs (c.args.month - 1) 0) c.month_sizes-sizes.ensures in
    elim c.then-day-lt1.branch [
      | then-day-lt1-via-then-day-lt1 w ↦ omega (arith, w.if-day-lt1.true, date.first_day)
      | then-day-lt1-via-else-day-lt1+then-day-sizes w ↦ omega (arith, w.if-day-sizes.true, date.last_day, size)
    ]

pub returns-then-days-gt49710 : goal.returns-then-days-gt49710
returns-then-days-gt49710 c = λ n h.
    let date = day_is_date _ _ _ n h in
    let before = ap (λ (xs : List ℕ). sum (take (c.args.month - 1) xs)) c.month_sizes-sizes.ensures in
    let months : c.days_before_month.result ≡ sum (take (c.args.month - 1) c.month_sizes-sizes.result) = c.days_before_month.ensures.days in
    let years : c.days_before_year.result ≡ days_to (c.args.year - 1970) = c.days_before_year.ensures.days in
    omega (arith, date.whole, h.early, before, months, years, c.if-days-gt49710.true)

pub returns-else-days-gt49710 : goal.returns-else-days-gt49710
returns-else-days-gt49710 c =
    let size = ap (λ (xs : List ℕ). get_or xs (c.args.month - 1) 0) c.month_sizes-sizes.ensures in
    let before = ap (λ (xs : List ℕ). sum (take (c.args.month - 1) xs)) c.month_sizes-sizes.ensures in
    let months : c.days_before_month.result ≡ sum (take (c.args.month - 1) c.month_sizes-sizes.result) = c.days_before_month.ensures.days in
    let years : c.days_before_year.result ≡ days_to (c.args.year - 1970) = c.days_before_year.ensures.days in
    date_is_day _ _ _ _ (omega arith) (record {
      first_year = omega arith;
      last_year = omega arith;
      first_month = omega arith;
      last_month = omega arith;
      first_day = omega arith;
      last_day = omega (arith, size);
      whole = omega (arith, before, months, years);
    })
