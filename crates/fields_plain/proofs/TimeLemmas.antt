-- The steps of counting years.
use Rattle.std.proofs.Common.{◌≡◌, ◌∙◌, ℕ, zero, suc, ◌+◌, ◌-◌, ◌<◌, ◌≤◌, refl, ap, arith}
use Rattle.std.proofs.lemmas.Bool.{cond-true, cond-false, lt-ltb, le-ltb}
use Rattle.fields_plain.specs.Time.{year_of, year_size}

-- no year is left
pub year_none : (year n : ℕ) → year_of 0 year n ≡ record { period = year; day = n }
unfolding year_of
year_none year n = refl

-- the day is in this year
pub year_here : (count year n : ℕ) → n < year_size year → year_of count year n ≡ record { period = year; day = n }
unfolding year_of
year_here zero year n h = refl
year_here (suc count) year n h = cond-true _ _ _ (lt-ltb n (year_size year) h)

-- the day is in a later year
pub year_later : (count year n : ℕ) → 0 < count → year_size year ≤ n → year_of count year n ≡ year_of (count - 1) (year + 1) (n - year_size year)
unfolding year_of
year_later zero year n positive h = absurd (omega arith)
year_later (suc count) year n positive h =
    let same : count ≡ suc count - 1 = omega arith in
    cond-false _ _ _ (le-ltb n (year_size year) h) ∙ ap (λ c. year_of c (year + 1) (n - year_size year)) same
