-- Days of years and of months.
use Rattle.std.proofs.Common.{◌≡◌, ◌∙◌, ℕ, zero, suc, ◌+◌, ◌-◌, ◌*◌, ◌/◌, ◌%◌, ◌^◌, ◌<◌, ◌≤◌, true, false, List, [], ◌∷◌, ◌++◌, length, take, drop, get_or, take-append-drop, length-drop, refl, sym, ap, subst, arith, inl, inr}
use Rattle.std.specs.Prelude.{sum, if◌then◌else◌, Option, Some, None}
use Rattle.std.proofs.NetLemmas.Arrays.{eight_items}
use Rattle.std.proofs.lemmas.List.{take_all}
use Rattle.std.proofs.lemmas.List.Sums.{sum_by-cons}
use Rattle.std.proofs.lemmas.Bool.{cases_lt, cond-true, cond-false, lt-ltb, le-ltb}
use Rattle.fields_plain.specs.Time.{DayOf, clock_text, date_text, day_text, is_leap, month_of, month_sizes, two_digits, year_of, year_size}
use Rattle.fields_text.specs.Reading.{Reads}
use Rattle.fields_plain.specs.TimeWords.{IsClockWord, IsDateWord, IsDay, IsDayWord, days_to, in_month, in_year}

-- a sum is the first number and the sum of the others
total : (x : ℕ) (xs : List ℕ) → sum (x ∷ xs) ≡ x + sum xs
total x xs = sum_by-cons (λ x. x) x xs

-- and of one more
pub sum_next : (xs : List ℕ) (k : ℕ) → k < length xs → sum (take k xs) + get_or xs k 0 ≤ sum xs
sum_next [] k h = absurd (omega arith)
sum_next (x ∷ xs) zero h = omega (arith, total x xs)
sum_next (x ∷ xs) (suc k) h = let rest = sum_next xs k (omega arith) in omega (arith, rest, total x xs, total x (take k xs))

-- a year has at most 366 days
pub year_bound : (year : ℕ) → year_size year ≤ 366
year_bound year = elim (is_leap year) as (λ b. (if b then 366 else 365) ≤ 366) [ true ↦ omega arith | false ↦ omega arith ]

-- the months of a year have its days
pub months_are_year : (year : ℕ) → sum (month_sizes year) ≡ year_size year
months_are_year year =
    elim (is_leap year) as (λ b. sum (31 ∷ (if b then 29 else 28) ∷ 31 ∷ 30 ∷ 31 ∷ 30 ∷ 31 ∷ 31 ∷ 30 ∷ 31 ∷ 30 ∷ 31 ∷ []) ≡ (if b then 366 else 365)) [
      | true ↦ refl
      | false ↦ refl
    ]

-- the days of k years from `first` on
unfoldable span : ℕ → ℕ → ℕ
span first zero = 0
span first (suc k) = year_size first + span (first + 1) k

-- the last of them is a year more
span_more : (first k : ℕ) → span first (suc k) ≡ span first k + year_size (first + k)
unfolding span
span_more first zero = let same : first + 0 ≡ first = omega arith in omega (arith, ap year_size same)
span_more first (suc k) =
    let rest = span_more (first + 1) k in
    let same : first + 1 + k ≡ first + suc k = omega arith in
    let last = ap year_size same in
    omega (arith, rest, last)

-- One more year has its days.
pub days_more : (k : ℕ) → days_to (k + 1) ≡ days_to k + year_size (1970 + k)
unfolding days_to
days_more k = let one : k + 1 ≡ suc k = omega arith in ap days_to one

-- Before 1970 no days are counted.
pub days_none : days_to 0 ≡ 0
unfolding days_to
days_none = refl

span_is : (k : ℕ) → span 1970 k ≡ days_to k
unfolding span days_to
span_is zero = refl
span_is (suc k) = span_more 1970 k ∙ ap (λ n. n + year_size (1970 + k)) (span_is k)

-- a day
abbrev day_at : ℕ → ℕ → DayOf
day_at period day = record { period = period; day = day }

-- the year of a day
year_found : (count first k d : ℕ) → k ≤ count → d < year_size (first + k) → year_of count first (span first k + d) ≡ day_at (first + k) d
unfolding year_of span
year_found zero first zero d h less = let same : first + 0 ≡ first = omega arith in let e : 0 + d ≡ d = omega arith in rw (same, e) refl
year_found (suc count) first zero d h less =
    let same : first + 0 ≡ first = omega arith in
    let e : 0 + d ≡ d = omega arith in
    let size = ap year_size same in
    let small : 0 + d < year_size first = omega (arith, size) in
    cond-true _ _ _ (lt-ltb (0 + d) (year_size first) small) ∙ (rw (same, e) refl)
year_found zero first (suc k) d h less = absurd (omega arith)
year_found (suc count) first (suc k) d h less =
    let same : first + 1 + k ≡ first + suc k = omega arith in
    let size = ap year_size same in
    let small : d < year_size (first + 1 + k) = omega (arith, size) in
    let later : year_size first ≤ year_size first + span (first + 1) k + d = omega arith in
    let left : year_size first + span (first + 1) k + d - year_size first ≡ span (first + 1) k + d = omega arith in
    cond-false _ _ _ (le-ltb (year_size first + span (first + 1) k + d) (year_size first) later)
    ∙ ap (λ n. year_of count (first + 1) n) left
    ∙ year_found count (first + 1) k d (omega arith) small
    ∙ ap (λ y. day_at y d) same

-- a day is in a year
record InYear (count first n : ℕ) (found : DayOf) : Type 0 where
  years : ℕ
  within : years < count
  period_is : found.period ≡ first + years
  whole : n ≡ span first years + found.day
  small : found.day < year_size (first + years)

year_exists : (count first n : ℕ) → n < span first count → InYear count first n (year_of count first n)
unfolding year_of span
year_exists zero first n less = absurd (omega arith)
year_exists (suc count) first n less =
    elim (cases_lt n (year_size first)) [
      | inl here ↦ (let same : first + 0 ≡ first = omega arith in
          let size = ap year_size same in
          let found : day_at first n ≡ year_of (suc count) first n = sym (cond-true _ _ _ (lt-ltb n (year_size first) here)) in
          let at : InYear (suc count) first n (day_at first n) =
          record { years = 0; within = omega arith; period_is = sym same; whole = omega arith; small = omega (arith, size) } in
          subst (λ (d : DayOf). InYear (suc count) first n d) found at)
      | inr later ↦ (let rest = year_exists count (first + 1) (n - year_size first) (omega arith) in
          let same : first + 1 + rest.years ≡ first + suc rest.years = omega arith in
          let size = ap year_size same in
          let found : year_of count (first + 1) (n - year_size first) ≡ year_of (suc count) first n = sym (cond-false _ _ _ (le-ltb n (year_size first) later)) in
          let at : InYear (suc count) first n (year_of count (first + 1) (n - year_size first)) =
          record {
            years = suc rest.years;
            within = omega (arith, rest.within);
            period_is = rest.period_is ∙ same;
            whole = omega (arith, rest.whole, later);
            small = omega (arith, rest.small, size);
          } in
          subst (λ (d : DayOf). InYear (suc count) first n d) found at)
    ]

-- the month of a day
month_found : (sizes : List ℕ) (first k d : ℕ) → k < length sizes → d < get_or sizes k 0 → month_of sizes first (sum (take k sizes) + d) ≡ day_at (first + k) d
unfolding month_of
month_found [] first k d h less = absurd (omega arith)
month_found (size ∷ sizes) first zero d h less =
    let same : first + 0 ≡ first = omega arith in
    let e : 0 + d ≡ d = omega arith in
    let small : 0 + d < size = omega arith in
    cond-true _ _ _ (lt-ltb (0 + d) size small) ∙ (rw (same, e) refl)
month_found (size ∷ sizes) first (suc k) d h less =
    let same : first + 1 + k ≡ first + suc k = omega arith in
    let whole = total size (take k sizes) in
    let later : size ≤ sum (size ∷ take k sizes) + d = omega (arith, whole) in
    let left : sum (size ∷ take k sizes) + d - size ≡ sum (take k sizes) + d = omega (arith, whole) in
    cond-false _ _ _ (le-ltb (sum (size ∷ take k sizes) + d) size later)
    ∙ ap (λ n. month_of sizes (first + 1) n) left
    ∙ month_found sizes (first + 1) k d (omega arith) less
    ∙ ap (λ m. day_at m d) same

-- a day is in a month
record InMonth (sizes : List ℕ) (first n : ℕ) (found : DayOf) : Type 0 where
  months : ℕ
  within : months < length sizes
  period_is : found.period ≡ first + months
  whole : n ≡ sum (take months sizes) + found.day
  small : found.day < get_or sizes months 0

month_exists : (sizes : List ℕ) (first n : ℕ) → n < sum sizes → InMonth sizes first n (month_of sizes first n)
unfolding month_of
month_exists [] first n less = absurd (omega arith)
month_exists (size ∷ sizes) first n less =
    elim (cases_lt n size) [
      | inl here ↦ (let found : day_at first n ≡ month_of (size ∷ sizes) first n = sym (cond-true _ _ _ (lt-ltb n size here)) in
          let at : InMonth (size ∷ sizes) first n (day_at first n) =
          record { months = 0; within = omega arith; period_is = omega arith; whole = omega arith; small = here } in
          subst (λ (d : DayOf). InMonth (size ∷ sizes) first n d) found at)
      | inr later ↦ (let rest = month_exists sizes (first + 1) (n - size) (omega (arith, total size sizes, later)) in
          let found : month_of sizes (first + 1) (n - size) ≡ month_of (size ∷ sizes) first n = sym (cond-false _ _ _ (le-ltb n size later)) in
          let at : InMonth (size ∷ sizes) first n (month_of sizes (first + 1) (n - size)) =
          record {
            months = suc rest.months;
            within = omega (arith, rest.within);
            period_is = omega (arith, rest.period_is);
            whole = omega (arith, rest.whole, later, total size (take rest.months sizes));
            small = rest.small;
          } in
          subst (λ (d : DayOf). InMonth (size ∷ sizes) first n d) found at)
    ]

-- the parts of a date, and the number of its day
pub record IsDate (year month day n : ℕ) : Type 0 where
  pub first_year : 1970 ≤ year
  pub last_year : year ≤ 2106
  pub first_month : 1 ≤ month
  pub last_month : month ≤ 12
  pub first_day : 1 ≤ day
  pub last_day : day ≤ get_or (month_sizes year) (month - 1) 0
  pub whole : n ≡ days_to (year - 1970) + sum (take (month - 1) (month_sizes year)) + (day - 1)

-- 137 years have more than 49,710 days
years_enough : 49710 < span 1970 137
unfolding span
years_enough = omega arith

-- a day of a date
pub day_is_date : (year month day n : ℕ) → IsDay year month day n → IsDate year month day n
day_is_date year month day n h =
    let enough = years_enough in
    let early = h.early in
    let y = year_exists 137 1970 n (omega (arith, enough, early)) in
    let count : y.years ≡ (in_year n).period - 1970 = omega (arith, y.period_is) in
    let same_year : 1970 + y.years ≡ (in_year n).period = sym y.period_is in
    let small : (in_year n).day < sum (month_sizes (in_year n).period) =
    omega (arith, y.small, ap year_size same_year, months_are_year (in_year n).period) in
    let m = month_exists (month_sizes (in_year n).period) 1 (in_year n).day small in
    let months = m.months in
    let at : IsDate (in_year n).period (in_month n).period ((in_month n).day + 1) n =
    record {
      first_year = omega (arith, y.period_is);
      last_year = omega (arith, y.period_is, y.within);
      first_month = omega (arith, m.period_is);
      last_month = omega (arith, m.period_is, m.within);
      first_day = omega arith;
      last_day =
          (let same : m.months ≡ (in_month n).period - 1 = omega (arith, m.period_is) in
          let size = ap (λ k. get_or (month_sizes (in_year n).period) k 0) same in
          omega (arith, size, m.small));
      whole =
          (let same : m.months ≡ (in_month n).period - 1 = omega (arith, m.period_is) in
          let before = ap (λ k. sum (take k (month_sizes (in_year n).period))) same in
          let years = ap days_to count in
          omega (arith, before, years, span_is y.years, y.whole, m.whole));
    } in
    let with_year = subst (λ y. IsDate y (in_month n).period ((in_month n).day + 1) n) h.years at in
    let with_month = subst (λ m. IsDate year m ((in_month n).day + 1) n) h.months with_year in
    subst (λ d. IsDate year month d n) h.days_left with_month

-- a date has its day
pub date_is_day : (year month day n : ℕ) → n ≤ 49710 → IsDate year month day n → IsDay year month day n
date_is_day year month day n early h =
    let first_year = h.first_year in
    let last_year = h.last_year in
    let first_month = h.first_month in
    let last_month = h.last_month in
    let first_day = h.first_day in
    let last_day = h.last_day in
    let sizes = month_sizes year in
    let d = sum (take (month - 1) sizes) + (day - 1) in
    let k = year - 1970 in
    let year_is : 1970 + k ≡ year = omega arith in
    let month_is : 1 + (month - 1) ≡ month = omega arith in
    let day_again : day - 1 + 1 ≡ day = omega arith in
    let n_is : n ≡ span 1970 k + d = omega (arith, h.whole, span_is k) in
    let next = sum_next sizes (month - 1) (omega arith) in
    let within : d < year_size (1970 + k) = omega (arith, next, months_are_year year, ap year_size year_is) in
    let found : in_year n ≡ day_at year d =
    ap (year_of 137 1970) n_is ∙ year_found 137 1970 k d (omega arith) within ∙ ap (λ y. day_at y d) year_is in
    let month_at : in_month n ≡ day_at month (day - 1) =
    ap (λ (f : DayOf). month_of (month_sizes f.period) 1 f.day) found
    ∙ month_found sizes 1 (month - 1) (day - 1) (omega arith) (omega arith)
    ∙ ap (λ m. day_at m (day - 1)) month_is in
    record {
      early = early;
      years = ap (λ (f : DayOf). f.period) found;
      months = ap (λ (f : DayOf). f.period) month_at;
      days_left = ap (λ (f : DayOf). f.day + 1) month_at ∙ day_again;
    }

-- two numbers below 100 with the same digits
pub same_digits : (m n : ℕ) → m < 100 → n < 100 → two_digits m ≡ two_digits n → m ≡ n
same_digits m n a b e =
    let tens : 48 + m / 10 % 10 ≡ 48 + n / 10 % 10 = cc in
    let ones : 48 + m % 10 ≡ 48 + n % 10 = cc in
    omega arith

-- the eight digits of a date
module _ (year month day n : ℕ) (h : IsDay year month day n) where
  -- The eight printed digits of a day are those of its year, month and day of the month.
  pub digits_of_day : day_text (in_year n) ≡ date_text year month day
  digits_of_day =
      ap (λ y. date_text y (in_month n).period ((in_month n).day + 1)) h.years
      ∙ ap (λ m. date_text year m ((in_month n).day + 1)) h.months
      ∙ ap (λ d. date_text year month d) h.days_left

-- the date of a day
pub own_date : (n : ℕ) → n ≤ 49710 → IsDay (in_year n).period (in_month n).period ((in_month n).day + 1) n
own_date n early = record { early = early; years = refl; months = refl; days_left = refl }

-- months have at most 31 days
pub month_bound : (year k : ℕ) → get_or (month_sizes year) k 0 ≤ 31
month_bound year k = elim (is_leap year) as (λ b. get_or (31 ∷ (if b then 29 else 28) ∷ 31 ∷ 30 ∷ 31 ∷ 30 ∷ 31 ∷ 31 ∷ 30 ∷ 31 ∷ 30 ∷ 31 ∷ []) k 0 ≤ 31)
    [ true ↦ of_list 29 k (omega arith) | false ↦ of_list 28 k (omega arith) ] where
      of_list : (february k : ℕ) → february ≤ 31 → get_or (31 ∷ february ∷ 31 ∷ 30 ∷ 31 ∷ 30 ∷ 31 ∷ 31 ∷ 30 ∷ 31 ∷ 30 ∷ 31 ∷ []) k 0 ≤ 31
      of_list f zero h = omega arith
      of_list f (suc zero) h = h
      of_list f (suc (suc zero)) h = omega arith
      of_list f (suc (suc (suc zero))) h = omega arith
      of_list f (suc (suc (suc (suc zero)))) h = omega arith
      of_list f (suc (suc (suc (suc (suc zero))))) h = omega arith
      of_list f (suc (suc (suc (suc (suc (suc zero)))))) h = omega arith
      of_list f (suc (suc (suc (suc (suc (suc (suc zero))))))) h = omega arith
      of_list f (suc (suc (suc (suc (suc (suc (suc (suc zero)))))))) h = omega arith
      of_list f (suc (suc (suc (suc (suc (suc (suc (suc (suc zero))))))))) h = omega arith
      of_list f (suc (suc (suc (suc (suc (suc (suc (suc (suc (suc zero)))))))))) h = omega arith
      of_list f (suc (suc (suc (suc (suc (suc (suc (suc (suc (suc (suc zero))))))))))) h = omega arith
      of_list f (suc (suc (suc (suc (suc (suc (suc (suc (suc (suc (suc (suc k)))))))))))) h = omega arith

-- a date of digits: two for the century, and so on
pub record Digits (a b c d e f g h n : ℕ) : Type 0 where
  pub century : a ∷ b ∷ [] ≡ two_digits ((in_year n).period / 100)
  pub year : c ∷ d ∷ [] ≡ two_digits ((in_year n).period % 100)
  pub month : e ∷ f ∷ [] ≡ two_digits (in_month n).period
  pub day : g ∷ h ∷ [] ≡ two_digits ((in_month n).day + 1)

-- the digits of a word of a day
pub digits_are : (a b c d e f g h n : ℕ) → IsDayWord (a ∷ b ∷ c ∷ d ∷ e ∷ f ∷ g ∷ h ∷ []) n → Digits a b c d e f g h n
digits_are a b c d e f g h n w =
    let word = w.1 in
    record { century = cc; year = cc; month = cc; day = cc }

-- a word of these numbers is that of the day
module _ (a b c d e f g h century year month day n : ℕ) (first : century < 100) (second : year < 100) (third : month < 100) (fourth : day < 100)
    (one : a ∷ b ∷ [] ≡ two_digits century) (two : c ∷ d ∷ [] ≡ two_digits year) (three : e ∷ f ∷ [] ≡ two_digits month) (four : g ∷ h ∷ [] ≡ two_digits day) where
  abbrev word : List ℕ
  word = a ∷ b ∷ c ∷ d ∷ e ∷ f ∷ g ∷ h ∷ []

  -- If a day has the date that a word's digits spell, the word represents this day.
  pub word_of_day : IsDay (century * 100 + year) month day n → IsDayWord word n
  word_of_day is =
      let c_is : century ≡ (century * 100 + year) / 100 = omega arith in
      let y_is : year ≡ (century * 100 + year) % 100 = omega arith in
      let c_digits = ap two_digits c_is in
      let y_digits = ap two_digits y_is in
      let text = digits_of_day (century * 100 + year) month day n is in
      (is.early, cc (one, two, three, four, c_digits, y_digits, text))

  -- If a word represents a day, this day has the date that the word's digits spell.
  pub day_of_word : IsDayWord word n → IsDay (century * 100 + year) month day n
  day_of_word w =
      let date = day_is_date _ _ _ n (own_date n w.0) in
      let digits = digits_are a b c d e f g h n w in
      let last_year = date.last_year in
      let last_month = date.last_month in
      let last_day = date.last_day in
      let bound = month_bound (in_year n).period ((in_month n).period - 1) in
      let c_is = same_digits century ((in_year n).period / 100) first (omega arith) (sym one ∙ digits.century) in
      let y_is = same_digits year ((in_year n).period % 100) second (omega arith) (sym two ∙ digits.year) in
      let m_is = same_digits month (in_month n).period third (omega arith) (sym three ∙ digits.month) in
      let d_is = same_digits day ((in_month n).day + 1) fourth (omega arith) (sym four ∙ digits.day) in
      record { early = w.0; years = omega (arith, c_is, y_is); months = sym m_is; days_left = sym d_is }

-- a date has one day
pub one_day : (year month day m n : ℕ) → IsDay year month day m → IsDay year month day n → m ≡ n
one_day year month day m n a b = (day_is_date year month day m a).whole ∙ sym (day_is_date year month day n b).whole

-- what is read of one fact is read of another that says the same
pub reads_as : (P Q : ℕ → Type 0) (r : Option ℕ) → ((n : ℕ) → P n → Q n) → ((n : ℕ) → Q n → P n) → Reads P r → Reads Q r
reads_as P Q None to from h = λ n q. h n (from n q)
reads_as P Q (Some n) to from h = to n h

-- reading a word of a day
pub day_reads : (word : List ℕ) (century year month day : ℕ) (r : Option ℕ) → length word ≡ 8
    → century < 100 → year < 100 → month < 100 → day < 100
    → get_or word 0 0 ∷ get_or word 1 0 ∷ [] ≡ two_digits century
    → get_or word 2 0 ∷ get_or word 3 0 ∷ [] ≡ two_digits year
    → get_or word 4 0 ∷ get_or word 5 0 ∷ [] ≡ two_digits month
    → get_or word 6 0 ∷ get_or word 7 0 ∷ [] ≡ two_digits day
    → Reads (IsDay (century * 100 + year) month day) r → Reads (IsDayWord word) r
day_reads word century year month day r size a b c d one two three four h =
    let items = eight_items word size in
    reads_as (IsDay (century * 100 + year) month day) (IsDayWord word) r
    (λ n is. subst (λ (w : List ℕ). IsDayWord w n) (sym items) (word_of_day _ _ _ _ _ _ _ _ century year month day n a b c d one two three four is))
    (λ n w. day_of_word _ _ _ _ _ _ _ _ century year month day n a b c d one two three four (subst (λ (w : List ℕ). IsDayWord w n) items w))
    h

-- a word has one day
pub one_day_word : (word : List ℕ) (m n : ℕ) → IsDayWord word m → IsDayWord word n → m ≡ n
one_day_word word m n a b =
    let first = day_is_date _ _ _ m (own_date m a.0) in
    let second = day_is_date _ _ _ n (own_date n b.0) in
    let last_year = first.last_year in
    let last_month = first.last_month in
    let last_day = first.last_day in
    let bound = month_bound (in_year m).period ((in_month m).period - 1) in
    let other_year = second.last_year in
    let other_month = second.last_month in
    let other_day = second.last_day in
    let other_bound = month_bound (in_year n).period ((in_month n).period - 1) in
    let text : day_text (in_year m) ≡ day_text (in_year n) = sym a.1 ∙ b.1 in
    let centuries = same_digits ((in_year m).period / 100) ((in_year n).period / 100) (omega arith) (omega arith) (ap (take 2) text) in
    let years = same_digits ((in_year m).period % 100) ((in_year n).period % 100) (omega arith) (omega arith) (ap (λ (t : List ℕ). take 2 (drop 2 t)) text) in
    let months = same_digits (in_month m).period (in_month n).period (omega arith) (omega arith) (ap (λ (t : List ℕ). take 2 (drop 4 t)) text) in
    let days = same_digits ((in_month m).day + 1) ((in_month n).day + 1) (omega arith) (omega arith) (ap (λ (t : List ℕ). drop 6 t) text) in
    let year : (in_year n).period ≡ (in_year m).period = omega (arith, centuries, years) in
    one_day (in_year m).period (in_month m).period ((in_month m).day + 1) m n (own_date m a.0)
    (record { early = b.0; years = year; months = sym months; days_left = sym days })

-- a word has one time of the day
pub one_clock_word : (word : List ℕ) (m n : ℕ) → IsClockWord word m → IsClockWord word n → m ≡ n
one_clock_word word m n a b =
    let small = a.0 in
    let other = b.0 in
    let text : clock_text m ≡ clock_text n = sym a.1 ∙ b.1 in
    let hours = same_digits (m / 3600 % 24) (n / 3600 % 24) (omega arith) (omega arith) (ap (take 2) text) in
    let minutes = same_digits (m / 60 % 60) (n / 60 % 60) (omega arith) (omega arith) (ap (λ (t : List ℕ). take 2 (drop 2 t)) text) in
    let seconds = same_digits (m % 60) (n % 60) (omega arith) (omega arith) (ap (λ (t : List ℕ). drop 4 t) text) in
    omega arith

-- whole days don't change the time of the day
clock_same : (m n days : ℕ) → m ≡ days * 86400 + n → clock_text m ≡ clock_text n
clock_same m n days e =
    let hours : m / 3600 % 24 ≡ n / 3600 % 24 = omega arith in
    let minutes : m / 60 % 60 ≡ n / 60 % 60 = omega arith in
    let seconds : m % 60 ≡ n % 60 = omega arith in
    ap (λ h. two_digits h ++ two_digits (m / 60 % 60) ++ two_digits (m % 60)) hours
    ∙ ap (λ k. two_digits (n / 3600 % 24) ++ two_digits k ++ two_digits (m % 60)) minutes
    ∙ ap (λ s. two_digits (n / 3600 % 24) ++ two_digits (n / 60 % 60) ++ two_digits s) seconds

-- a word of a day and a word of a time of the day
pub date_word : (word : List ℕ) (days seconds total : ℕ) → IsDayWord (take 8 word) days → IsClockWord (drop 8 word) seconds
    → total ≡ days * 86400 + seconds → total < 2 ^ 32 → IsDateWord word total
date_word word days seconds total a b e small =
    let within = b.0 in
    let number : days ≡ total / 86400 = omega arith in (
      small,
      sym (take-append-drop 8 word)
          ∙ ap (λ (front : List ℕ). front ++ drop 8 word) (a.1 ∙ ap (λ d. day_text (in_year d)) number)
          ∙ ap (λ (back : List ℕ). day_text (in_year (total / 86400)) ++ back) (b.1 ∙ sym (clock_same total seconds days e)),
    )

-- the day of such a word, and its time of the day
pub day_part : (word : List ℕ) (n : ℕ) → IsDateWord word n → IsDayWord (take 8 word) (n / 86400)
day_part word n w = let small = w.0 in (omega arith, ap (take 8) w.1)

-- The last six digits of a date are its time of day.
pub clock_part : (word : List ℕ) (n : ℕ) → IsDateWord word n → IsClockWord (drop 8 word) (n % 86400)
clock_part word n w = (omega arith, ap (drop 8) w.1 ∙ clock_same n (n % 86400) (n / 86400) (omega arith))

-- it has fourteen octets
pub date_size : (word : List ℕ) (n : ℕ) → IsDateWord word n → length word ≡ 14
date_size word n w = ap length w.1

-- a date of too many seconds
pub date_late : (word : List ℕ) (days seconds n : ℕ) → IsDayWord (take 8 word) days → IsClockWord (drop 8 word) seconds
    → 2 ^ 32 ≤ days * 86400 + seconds → ¬ (IsDateWord word n)
date_late word days seconds n a b late w =
    let small = w.0 in
    let same_day = one_day_word (take 8 word) days (n / 86400) a (day_part word n w) in
    let same_clock = one_clock_word (drop 8 word) seconds (n % 86400) b (clock_part word n w) in
    omega arith

-- a word without a time of the day is no date
pub no_clock : (word : List ℕ) (r : Option ℕ) → r ≡ None → ((seconds : ℕ) → ¬ (IsClockWord (drop 8 word) seconds)) → Reads (IsDateWord word) r
no_clock word r none h =
    subst (λ (r : Option ℕ). Reads (IsDateWord word) r) (sym none) (λ n w. h (n % 86400) (clock_part word n w))

-- the octets from the eighth on
pub back_is : (word : List ℕ) → take (length word - 8) (drop 8 word) ≡ drop 8 word
back_is word = take_all (length word - 8) (drop 8 word) (omega (arith, length-drop 8 word))
