-- Times: fourteen digits for year, month, day, hour, minute and second in UTC. RFC 4034 section 3.2.
use Rattle.std.specs.Prelude.{ℕ, zero, suc, ◌+◌, ◌-◌, ◌/◌, ◌%◌, ◌==◌, nat_lt, ◌&&◌, ◌||◌, not, Bool, if◌then◌else◌, List, [], ◌∷◌, ◌++◌}

-- the Gregorian calendar
abbrev pub is_leap : ℕ → Bool
is_leap year = (year % 4 == 0) && (not (year % 100 == 0) || (year % 400 == 0))

-- the days of a year
abbrev pub year_size : ℕ → ℕ
year_size year = if is_leap year then 366 else 365

-- the days of the months of a year
abbrev pub month_sizes : ℕ → List ℕ
month_sizes year = 31 ∷ (if is_leap year then 29 else 28) ∷ 31 ∷ 30 ∷ 31 ∷ 30 ∷ 31 ∷ 31 ∷ 30 ∷ 31 ∷ 30 ∷ 31 ∷ []

-- a day: the year or month that it falls into, and the day in it, counted from 0
pub record DayOf : Type 0 where
  pub period : ℕ
  pub day : ℕ

-- where the day after n days from the beginning of `year` falls, among at most `count` years
unfoldable pub year_of : ℕ → ℕ → ℕ → DayOf
year_of zero year n = record { period = year; day = n }
year_of (suc count) year n =
    if nat_lt n (year_size year) then record { period = year; day = n } else year_of count (year + 1) (n - year_size year)

-- where the day after n days from the beginning of `month` falls, among months of these sizes
unfoldable pub month_of : List ℕ → ℕ → ℕ → DayOf
month_of [] month n = record { period = month; day = n }
month_of (size ∷ sizes) month n =
    if nat_lt n size then record { period = month; day = n } else month_of sizes (month + 1) (n - size)

-- the last two decimal digits of a number
abbrev pub two_digits : ℕ → List ℕ
two_digits n = (48 + n / 10 % 10) ∷ (48 + n % 10) ∷ []

abbrev pub date_text : ℕ → ℕ → ℕ → List ℕ
date_text year month day = two_digits (year / 100) ++ two_digits (year % 100) ++ two_digits month ++ two_digits day

abbrev pub clock_text : ℕ → List ℕ
clock_text seconds = two_digits (seconds / 3600 % 24) ++ two_digits (seconds / 60 % 60) ++ two_digits (seconds % 60)

-- a day of a month of a year
abbrev pub month_text : ℕ → DayOf → List ℕ
month_text year in_month = date_text year in_month.period (in_month.day + 1)

-- a day of a year
abbrev pub day_text : DayOf → List ℕ
day_text in_year = month_text in_year.period (month_of (month_sizes in_year.period) 1 in_year.day)

-- seconds since the beginning of 1970; 32 bits of seconds end in 2106
abbrev pub time_text : ℕ → List ℕ
time_text seconds = day_text (year_of 137 1970 (seconds / 86400)) ++ clock_text seconds
