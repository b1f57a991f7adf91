-- Times in units, as `1h30m`, as BIND and dnspython read TTLs. A number without a unit stands alone, also after zero seconds: BIND reads `0s5` as 5.
use Rattle.std.specs.Prelude.{ℕ, ◌+◌, ◌*◌, ◌-◌, ◌^◌, ◌==◌, ◌||◌, nat_lt, if◌then◌else◌, Option, Some, None, option_and_then, option_map, unwrap_or, List, [], ◌∷◌}
use Rattle.std.specs.Char.{is_ascii_digit}

-- the seconds of a unit, in either case: weeks, days, hours, minutes, seconds
abbrev pub unit_seconds : ℕ → Option ℕ
unit_seconds unit =
    if (unit == 0x77) || (unit == 0x57) then Some 604800
    else if (unit == 0x64) || (unit == 0x44) then Some 86400
    else if (unit == 0x68) || (unit == 0x48) then Some 3600
    else if (unit == 0x6d) || (unit == 0x4d) then Some 60
    else if (unit == 0x73) || (unit == 0x53) then Some 1
    else None

-- the number if 32 bits hold it
abbrev pub in_32_bits : ℕ → Option ℕ
in_32_bits n = if nat_lt n (2 ^ 32) then Some n else None

-- a number with a digit after it
abbrev pub with_digit : ℕ → ℕ → Option ℕ
with_digit number digit = option_and_then (λ tens. in_32_bits (tens + (digit - 48))) (in_32_bits (number * 10))

-- the seconds after a unit that follows a number
abbrev pub with_unit : ℕ → Option ℕ → ℕ → Option ℕ
with_unit total None unit = None
with_unit total (Some number) unit =
    option_and_then (λ seconds. option_and_then (λ more. in_32_bits (total + more)) (in_32_bits (number * seconds))) (unit_seconds unit)

-- the seconds of the units so far and the number after them, after one more octet: a digit belongs to the number, and a unit ends it
abbrev pub after_octet : Option ℕ → Option ℕ → ℕ → Option (Option ℕ × Option ℕ)
after_octet total number c =
    if is_ascii_digit c then option_map (λ n. (total, Some n)) (with_digit (unwrap_or number 0) c)
    else option_map (λ seconds. (Some seconds, None)) (with_unit (unwrap_or total 0) number c)

-- the seconds at the end: those of the units, or those of a number without a unit, but not both
abbrev pub seconds_at_end : Option ℕ → Option ℕ → Option ℕ
seconds_at_end None number = number
seconds_at_end (Some total) None = Some total
seconds_at_end (Some total) (Some number) = None

-- the seconds of a text that follows units of `total` seconds and the digits of `number`
abbrev pub duration_after : Option ℕ → Option ℕ → List ℕ → Option ℕ
duration_after total number [] = seconds_at_end total number
duration_after total number (c ∷ text) = option_and_then (λ next. duration_after next.0 next.1 text) (after_octet total number c)

-- the seconds that a word represents, of 32 bits: a number, or the sum of numbers with units
abbrev pub duration : List ℕ → Option ℕ
duration word = duration_after None None word
