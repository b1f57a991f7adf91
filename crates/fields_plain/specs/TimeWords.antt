-- Words that represent times. RFC 4034 section 3.2.
use Rattle.std.specs.Prelude.{◌≡◌, ◌≢◌, ℕ, zero, suc, ◌+◌, ◌/◌, ◌%◌, ◌^◌, ◌<◌, ◌≤◌, ◌⊎◌, List, length}
use Rattle.std.specs.Str.Parse.{IsNumeral, digits_value}
use Rattle.fields_plain.specs.Time.{DayOf, clock_text, day_text, month_of, month_sizes, time_text, year_of, year_size}
use Rattle.fields_text.specs.Base32Words.{last_octets}

-- the time of the day
pub record IsClock (hour minute second seconds : ℕ) : Type 0 where
  pub within : seconds < 86400
  pub hours : seconds / 3600 ≡ hour
  pub minutes : seconds / 60 % 60 ≡ minute
  pub seconds_left : seconds % 60 ≡ second

-- the days of the first years from 1970 on
unfoldable pub days_to : ℕ → ℕ
days_to zero = 0
days_to (suc years) = days_to years + year_size (1970 + years)

-- where a day after the beginning of 1970 falls in its year, and in its month
abbrev pub in_year : ℕ → DayOf
in_year days = year_of 137 1970 days

abbrev pub in_month : ℕ → DayOf
in_month days = month_of (month_sizes (in_year days).period) 1 (in_year days).day

-- the date of a day after the beginning of 1970; 32 bits of seconds end on day 49,710
pub record IsDay (year month day days : ℕ) : Type 0 where
  pub early : days ≤ 49710
  pub years : (in_year days).period ≡ year
  pub months : (in_month days).period ≡ month
  pub days_left : (in_month days).day + 1 ≡ day

-- eight digits of a day, six of a time of the day, and fourteen of both
abbrev pub IsDayWord : List ℕ → ℕ → Type 0
IsDayWord word days = (days ≤ 49710) × (word ≡ day_text (in_year days))

abbrev pub IsClockWord : List ℕ → ℕ → Type 0
IsClockWord word seconds = (seconds < 86400) × (word ≡ clock_text seconds)

abbrev pub IsDateWord : List ℕ → ℕ → Type 0
IsDateWord word seconds = (seconds < 2 ^ 32) × (word ≡ time_text seconds)

-- the word is the fourteen digits of the time, or it has another length and is a decimal number of seconds
abbrev pub IsTimeWord : List ℕ → ℕ → Type 0
IsTimeWord word seconds =
    IsDateWord word seconds ⊎ ((length word ≢ 14) × IsNumeral 10 word × (digits_value 10 word ≡ seconds) × (seconds < 2 ^ 32))

-- a time. RFC 4034 section 3.2
abbrev pub IsTime : List ℕ → List ℕ → Type 0
IsTime word octets = (n : ℕ) × IsTimeWord word n × (octets ≡ last_octets 4 n)
