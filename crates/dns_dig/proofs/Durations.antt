-- A time in words, unit by unit.
use Rattle.std.proofs.Common.{◌≡◌, ◌∙◌, ℕ, ◌/◌, ◌%◌, ◌==◌, ◌||◌, Bool, false, ◌++◌, ap, append-nil, codes, sym}
use Rattle.std.specs.Prelude.{not}
use Rattle.dns_dig.specs.OptionTexts.{unit_or_none, units_of, units_text}

-- The five units are the time.
pub five_units : (n : ℕ) (a b c d : Bool) → a ≡ (false || not (n / 604800 == 0)) → b ≡ (a || not (n / 86400 % 7 == 0)) → c ≡ (b || not (n / 3600 % 24 == 0))
    → d ≡ (c || not (n / 60 % 60 == 0))
    → unit_or_none false (n / 604800, codes "week")
    ++ (unit_or_none a (n / 86400 % 7, codes "day")
    ++ (unit_or_none b (n / 3600 % 24, codes "hour") ++ (unit_or_none c (n / 60 % 60, codes "minute") ++ unit_or_none d (n % 60, codes "second"))))
    ≡ units_text false (units_of n)
five_units n a b c d p q r s =
    let b' = q ∙ ap (λ (x : Bool). x || not (n / 86400 % 7 == 0)) p in
    let c' = r ∙ ap (λ (x : Bool). x || not (n / 3600 % 24 == 0)) b' in
    let d' = s ∙ ap (λ (x : Bool). x || not (n / 60 % 60 == 0)) c' in
    λ i. unit_or_none false (n / 604800, codes "week")
    ++ (unit_or_none (p i) (n / 86400 % 7, codes "day")
    ++ (unit_or_none (b' i) (n / 3600 % 24, codes "hour")
    ++ (unit_or_none (c' i) (n / 60 % 60, codes "minute") ++ sym (append-nil (unit_or_none (d' i) (n % 60, codes "second"))) i)))
