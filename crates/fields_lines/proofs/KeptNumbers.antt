-- A number in decimal digits stays as it is.
use Rattle.std.proofs.Common.{◌≡◌, ◌∙◌, ℕ, ◌+◌, ◌*◌, ◌-◌, ◌^◌, ◌<◌, ◌≤◌, Bool, true, false, not, List, [], ◌∷◌, length, get_or, refl, sym, ap, arith}
use Rattle.std.specs.Prelude.{Option, Some, None, codes, decimal, nat_lt, option_and_then, option_map, ◌==◌, if◌then◌else◌}
use Rattle.std.specs.Char.{digit_value, is_ascii_digit, to_ascii_lowercase}
use Rattle.std.specs.List.{list_all}
use Rattle.std.specs.Str.{str_eq_ignore_ascii_case, str_to_ascii_lowercase}
use Rattle.std.specs.Str.Parse.{AllDigits, digits_value, digits_value_after}
use Rattle.std.proofs.lemmas.Bool.{and_parts, cond-false, cond-true, eqb-true, false_from_ne_true, ltb-true}
use Rattle.std.proofs.lemmas.Bool.Decides.{nat_tests}
use Rattle.std.proofs.lemmas.Fmt.{decimal_is_IsNumeral}
use Rattle.std.proofs.lemmas.Slice.Eq.{bytes_eq-Decides}
use Rattle.std.proofs.lemmas.Str.{digit_value_digit}
use Rattle.std.proofs.lemmas.Str.Parse.{digit_at, digit_from_value}
use Rattle.dns_iana.specs.Mnemonics.{Mnemonics}
use Rattle.fields_text.proofs.theory.LastSplits.{Lacks}
use Rattle.fields_lines.specs.Durations.{duration, duration_after, in_32_bits, with_digit, with_unit}
use Rattle.fields_lines.specs.FieldWays.{is_zero, without_zeros}
use Rattle.fields_lines.specs.Mnemonics.{algorithms, certificate_types, errors, flags_of, key_flags, named}
use Rattle.fields_lines.proofs.MnemonicLemmas.{last_none}

-- digits after a number make it no smaller
no_smaller : (n : ℕ) (digits : List ℕ) → n ≤ digits_value_after 10 n digits
no_smaller n [] = omega arith
no_smaller n (c ∷ digits) = let later = no_smaller (n * 10 + digit_value c) digits in omega (arith, later)

-- a number that 32 bits hold
fits : (n : ℕ) → n < 2 ^ 32 → in_32_bits n ≡ Some n
fits n small = grind (arith, nat_tests)

-- a digit after a number
one_more : (n c : ℕ) → digit_value c < 10 → n * 10 + digit_value c < 2 ^ 32 → with_digit n c ≡ Some (n * 10 + digit_value c)
one_more n c is small =
    let digit = digit_value_digit c (digit_from_value c is) in
    let value : n * 10 + (c - 48) ≡ n * 10 + digit_value c = omega (arith, digit) in
    ap (option_and_then (λ (tens : ℕ). in_32_bits (tens + (c - 48)))) (fits (n * 10) (omega arith))
    ∙ ap in_32_bits value ∙ fits (n * 10 + digit_value c) small

digit_is : (c : ℕ) → digit_value c < 10 → is_ascii_digit c ≡ true
digit_is c is = let range = digit_from_value c is in grind (arith, nat_tests)

-- the digits of a number and its next digit
next_digit : (number : Option ℕ) (n c : ℕ) → digit_value c < 10 → with_digit n c ≡ Some (n * 10 + digit_value c)
    → (if is_ascii_digit c then option_map {U = Option ℕ × Option ℕ} (λ (m : ℕ). (None, Some m)) (with_digit n c)
    else option_map (λ (seconds : ℕ). (Some seconds, None)) (with_unit 0 number c)) ≡ Some (None, Some (n * 10 + digit_value c))
next_digit number n c is e =
    cond-true _ _ _ (digit_is c is) ∙ ap (option_map {U = Option ℕ × Option ℕ} (λ (m : ℕ). (None, Some m))) e

-- the seconds of digits after a number
seconds_after : (n : ℕ) (digits : List ℕ) → AllDigits 10 digits → digits_value_after 10 n digits < 2 ^ 32 → duration_after None (Some n) digits ≡ Some (digits_value_after 10 n digits)
seconds_after n [] are small = refl
seconds_after n (c ∷ digits) are small =
    let later = no_smaller (n * 10 + digit_value c) digits in
    let more = one_more n c are.0 (omega (arith, later, small)) in
    ap (option_and_then (λ (next : Option ℕ × Option ℕ). duration_after next.0 next.1 digits)) (next_digit (Some n) n c are.0 more)
    ∙ seconds_after (n * 10 + digit_value c) digits are.1 small

seconds_of : (digits : List ℕ) → 0 < length digits → AllDigits 10 digits → digits_value 10 digits < 2 ^ 32 → duration digits ≡ Some (digits_value 10 digits)
seconds_of [] some are small = absurd (omega arith)
seconds_of (c ∷ digits) some are small =
    let later = no_smaller (0 * 10 + digit_value c) digits in
    let more = one_more 0 c are.0 (omega (arith, later, small)) in
    ap (option_and_then (λ (next : Option ℕ × Option ℕ). duration_after next.0 next.1 digits)) (next_digit None 0 c are.0 more)
    ∙ seconds_after (0 * 10 + digit_value c) digits are.1 small

-- A number is its seconds.
pub decimal_seconds : (n : ℕ) → n < 2 ^ 32 → duration (decimal n) ≡ Some n
decimal_seconds n small =
    let digits = decimal_is_IsNumeral n (omega arith) in
    seconds_of (decimal n) digits.0.0 digits.0.1 (omega (arith, digits.1)) ∙ ap (λ (m : ℕ). Some m) digits.1

-- zeros at the start don't change a number
first_zero : (digits : List ℕ) (c : ℕ) (b : Bool) → (c == 48) ≡ b → digits_value 10 (without_zeros digits) ≡ digits_value 10 digits
    → digits_value 10 (if b then without_zeros digits else c ∷ digits) ≡ digits_value 10 (c ∷ digits)
first_zero digits c true e later =
    let zero_is : c ≡ 48 = grind (arith, nat_tests) in
    let same : 0 * 10 + digit_value c ≡ 0 = ap (λ (d : ℕ). 0 * 10 + digit_value d) zero_is in
    later ∙ sym (ap (λ (n : ℕ). digits_value_after 10 n digits) same)
first_zero digits c false e later = refl

zeros_value : (digits : List ℕ) → digits_value 10 (without_zeros digits) ≡ digits_value 10 digits
zeros_value [] = refl
zeros_value (c ∷ digits) = first_zero digits c (c == 48) refl (zeros_value digits)

-- the number of digits without zeros at the start
zeros_number : (n : ℕ) → n < 2 ^ 64 → digits_value 10 (without_zeros (decimal n)) ≡ n
zeros_number n small = zeros_value (decimal n) ∙ (decimal_is_IsNumeral n small).1

-- A number whose digits are 3, but for zeros at the start, is 3.
pub is_three : (n : ℕ) → n < 2 ^ 64 → without_zeros (decimal n) ≡ codes "3" → n ≡ 3
is_three n small e = sym (zeros_number n small) ∙ ap (digits_value 10) e

no_text : (text : List ℕ) → length text ≡ 0 → text ≡ []
no_text [] e = refl
no_text (c ∷ text) e = absurd (omega arith)

-- A number above zero isn't the number 0.
pub not_zero : (n : ℕ) → 0 < n → n < 2 ^ 64 → is_zero (decimal n) ≡ false
not_zero n some small =
    false_from_ne_true (is_zero (decimal n)) (λ e.
    let parts = and_parts (not (length (decimal n) == 0)) (length (without_zeros (decimal n)) == 0) e in
    let none : length (without_zeros (decimal n)) ≡ 0 = eqb-true (length (without_zeros (decimal n))) 0 parts.1 in
    let zero_is : n ≡ 0 = sym (zeros_number n small) ∙ ap (digits_value 10) (no_text (without_zeros (decimal n)) none) in
    omega arith)

-- whether a text begins with a character above the digits
abbrev begins_above : List ℕ → Bool
begins_above [] = false
begins_above (c ∷ text) = nat_lt 57 c

-- such a text isn't one that begins with a digit
other_text : (text digits : List ℕ) (d : ℕ) → begins_above text ≡ true → d ≤ 57 → str_eq_ignore_ascii_case text (d ∷ digits) ≡ false
other_text [] digits d above digit = absurd (cc above)
other_text (c ∷ text) digits d above digit =
    false_from_ne_true (str_eq_ignore_ascii_case (c ∷ text) (d ∷ digits)) (λ same.
    let lists : str_to_ascii_lowercase (c ∷ text) ≡ str_to_ascii_lowercase (d ∷ digits) = (bytes_eq-Decides _ _).0 same in
    let first : to_ascii_lowercase c ≡ to_ascii_lowercase d = ap (λ (xs : List ℕ). get_or xs 0 0) lists in
    let high = ltb-true 57 c above in
    grind (arith, nat_tests))

-- no name that begins with a letter is a number
none_named : (names : Mnemonics) (digits : List ℕ) (d : ℕ) → list_all (λ entry. begins_above entry.1) names ≡ true → d ≤ 57 → named names (d ∷ digits) ≡ None
none_named [] digits d all digit = refl
none_named (entry ∷ names) digits d all digit =
    let parts = and_parts (begins_above entry.1) (list_all (λ (e : ℕ × List ℕ). begins_above e.1) names) all in
    ap (option_map (λ (e : ℕ × List ℕ). e.0)) (cond-false _ _ _ (other_text entry.1 digits d parts.0 digit)) ∙ none_named names digits d parts.1 digit

no_name : (names : Mnemonics) (digits : List ℕ) → list_all (λ entry. begins_above entry.1) names ≡ true → 0 < length digits → AllDigits 10 digits → named names digits ≡ None
no_name names [] all some are = absurd (omega arith)
no_name names (d ∷ digits) all some are = let range = digit_from_value d are.0 in none_named names digits d all (omega arith)

decimal_none : (names : Mnemonics) (n : ℕ) → list_all (λ entry. begins_above entry.1) names ≡ true → n < 2 ^ 64 → named names (decimal n) ≡ None
decimal_none names n all small = let digits = (decimal_is_IsNumeral n small).0 in no_name names (decimal n) all digits.0 digits.1

-- A number is no name of an algorithm.
pub no_algorithm : (n : ℕ) → n < 2 ^ 64 → named algorithms (decimal n) ≡ None
unfolding algorithms
no_algorithm n small = decimal_none algorithms n refl small

-- A number is no name of a type of certificates.
pub no_certificate : (n : ℕ) → n < 2 ^ 64 → named certificate_types (decimal n) ≡ None
unfolding certificate_types
no_certificate n small = decimal_none certificate_types n refl small

-- A number is no name of an error.
pub no_error : (n : ℕ) → n < 2 ^ 64 → named errors (decimal n) ≡ None
unfolding errors
no_error n small = decimal_none errors n refl small

no_flag : (n : ℕ) → n < 2 ^ 64 → named key_flags (decimal n) ≡ None
unfolding key_flags
no_flag n small = decimal_none key_flags n refl small

no_bar : (digits : List ℕ) → AllDigits 10 digits → Lacks 124 digits
no_bar digits are i h e = let range = digit_at digits i are h in omega arith

-- A number is no names of flags.
pub no_flags : (n : ℕ) → n < 2 ^ 64 → flags_of (decimal n) ≡ None
no_flags n small = last_none 0 (decimal n) (no_bar (decimal n) (decimal_is_IsNumeral n small).0.1) (sym (no_flag n small))
