-- Texts that depend on a number of octets.
use Rattle.std.proofs.Common.{◌≡◌, ◌↔◌, ℕ, ◌<◌, ◌≤◌, ◌==◌, ◌&&◌, ◌||◌, true, false, Bool, List, [], ◌∷◌, ◌++◌, arith, codes, le-leb, decimal, drop, length, refl, sym}
use Rattle.std.proofs.lemmas.Bool.{eq-eqb, le-ltb, lt-ltb, ne_eqb}
use Rattle.std.specs.Prelude.{IsTrue, not}
use Rattle.std.specs.List.{flat_map}
use Rattle.dns_name.specs.Names.{Labels}
use Rattle.dns_print.specs.Digits.{hex_digits}
use Rattle.dns_dig.specs.Header.{extra_warning}
use Rattle.dns_dig.specs.OptionTexts.{characters, cookie_text, duration_text, error_details, error_fields, error_text, expire_text, expiry_text, keepalive_text, number_16, number_32}
use Rattle.dns_dig.specs.OptionTexts.{ipv4_subnet_text, ipv6_subnet_text, octets_text, padding_text, spaced_digits, subnet_text, tenths_text, unit_or_none, unit_text, units_of, units_text}

and_false : (b : Bool) → (b && false) ≡ false
and_false true = refl
and_false false = refl

no_length : (xs : List ℕ) → 0 < length xs → (length xs == 0) ≡ false
no_length xs some = ne_eqb (length xs) 0 (λ e. omega (arith, e))

-- Without octets nothing is printed.
pub octets_none : (octets : List ℕ) → length octets ≡ 0 → [] ≡ octets_text octets
octets_none octets none = rw (eq-eqb (length octets) 0 none)

-- Octets print as digits, and then as characters.
pub octets_some : (octets : List ℕ) → 0 < length octets → codes " " ++ (flat_map spaced_digits octets ++ (codes "(\"" ++ (characters octets ++ codes "\")"))) ≡ octets_text octets
octets_some octets some = rw (no_length octets some)

-- A cookie without octets prints as nothing.
pub cookie_none : (octets : List ℕ) → length octets ≡ 0 → [] ≡ cookie_text octets
cookie_none octets none = rw (eq-eqb (length octets) 0 none)

-- A cookie with octets prints as a space and their digits.
pub cookie_some : (octets : List ℕ) → 0 < length octets → codes " " ++ flat_map (hex_digits false) octets ≡ cookie_text octets
cookie_some octets some = rw (no_length octets some)

-- Padding without octets prints as nothing.
pub padding_none : (octets : List ℕ) → length octets ≡ 0 → [] ≡ padding_text octets
padding_none octets none = rw (eq-eqb (length octets) 0 none)

-- Padding with octets prints as their number.
pub padding_some : (octets : List ℕ) → 0 < length octets → codes " (" ++ (decimal (length octets) ++ codes " bytes)") ≡ padding_text octets
padding_some octets some = rw (no_length octets some)

-- An error without text has no details.
pub details_none : (octets : List ℕ) → length octets ≡ 0 → [] ≡ error_details octets
details_none octets none = rw (eq-eqb (length octets) 0 none)

-- The text of an error is its details, in parentheses.
pub details_some : (octets : List ℕ) → 0 < length octets → codes ": (" ++ (characters octets ++ codes ")") ≡ error_details octets
details_some octets some = rw (no_length octets some)

-- The number of octets decides the form.
pub keepalive_two : (octets : List ℕ) → length octets ≡ 2 → tenths_text (number_16 octets) ≡ keepalive_text octets
keepalive_two octets two = rw (eq-eqb (length octets) 2 two)

-- A keepalive of other than 2 octets prints as octets.
pub keepalive_other : (octets : List ℕ) → (length octets ≡ 2 → ⊥) → octets_text octets ≡ keepalive_text octets
keepalive_other octets other = rw (ne_eqb (length octets) 2 other)

-- An expiry of 4 octets prints as seconds.
pub expire_four : (octets : List ℕ) → length octets ≡ 4 → expiry_text (number_32 octets) ≡ expire_text octets
expire_four octets four = rw (eq-eqb (length octets) 4 four)

-- An expiry of other than 4 octets prints as octets.
pub expire_other : (octets : List ℕ) → (length octets ≡ 4 → ⊥) → octets_text octets ≡ expire_text octets
expire_other octets other = rw (ne_eqb (length octets) 4 other)

-- An extended error of fewer than 2 octets prints as octets.
pub error_short : (octets : List ℕ) → length octets < 2 → octets_text octets ≡ error_text octets
error_short octets short = rw (lt-ltb (length octets) 2 short)

-- An extended error of 2 octets or more prints as its code and its text.
pub error_long : (octets : List ℕ) → 2 ≤ length octets → error_fields (number_16 octets) (drop 2 octets) ≡ error_text octets
error_long octets long = rw (le-ltb (length octets) 2 long)

-- Seconds.
pub duration_zero : (n : ℕ) → n ≡ 0 → codes "0 seconds" ≡ duration_text n
duration_zero n zero = rw (eq-eqb n 0 zero)

-- More than 0 seconds print as their units.
pub duration_some : (n : ℕ) → 0 < n → units_text false (units_of n) ≡ duration_text n
duration_some n some = rw (ne_eqb n 0 (λ e. omega (arith, e)))

-- Octets after a message.
pub extra_none : (extra : ℕ) → extra ≡ 0 → [] ≡ extra_warning extra
extra_none extra none = rw (eq-eqb extra 0 none)

-- Further octets after a message print as a warning.
pub extra_some : (extra : ℕ) → 0 < extra → codes ";; WARNING: Message has " ++ (decimal extra ++ codes " extra bytes at end\n") ≡ extra_warning extra
extra_some extra some = rw (ne_eqb extra 0 (λ e. omega (arith, e)))

-- Whether a name has no labels.
pub root_is : (b : Bool) (name : Labels) → IsTrue b ↔ (name ≡ []) → b ≡ (length name == 0)
root_is true [] h = refl
root_is true (label ∷ name) h = let none = h.0 refl in cc none
root_is false [] h = let yes = h.1 refl in cc yes
root_is false (label ∷ name) h = sym (ne_eqb (length (label ∷ name)) 0 (λ e. omega (arith, e)))

-- Numbers of units.
pub unit_none : (later : Bool) (n : ℕ) (word : List ℕ) → n ≡ 0 → [] ≡ unit_or_none later (n, word)
unit_none later n word none = rw (eq-eqb n 0 none)

-- A unit of which there is more than none is printed.
pub unit_some : (later : Bool) (n : ℕ) (word : List ℕ) → 0 < n → unit_text later (n, word) ≡ unit_or_none later (n, word)
unit_some later n word some = rw (ne_eqb n 0 (λ e. omega (arith, e)))

-- A unit of which there is none leaves whether one was printed before.
pub later_same : (later : Bool) (n : ℕ) → n ≡ 0 → later ≡ (later || not (n == 0))
later_same true n none = refl
later_same false n none = rw (eq-eqb n 0 none)

-- After a unit of which there is more than none, one was printed.
pub later_true : (later : Bool) (n : ℕ) → 0 < n → true ≡ (later || not (n == 0))
later_true true n some = refl
later_true false n some = rw (ne_eqb n 0 (λ e. omega (arith, e)))

-- Client subnets.
pub subnet_short : (octets : List ℕ) → length octets < 4 → octets_text octets ≡ subnet_text octets
subnet_short octets short = rw (lt-ltb (length octets) 4 short)

-- Four octets of zeros are no subnet.
pub subnet_none : (octets : List ℕ) → length octets ≡ 4 → number_32 octets ≡ 0 → codes " 0/0/0" ≡ subnet_text octets
subnet_none octets four zero = rw (le-ltb (length octets) 4 (omega (arith, four)), eq-eqb (length octets) 4 four, eq-eqb (number_32 octets) 0 zero)

some_family : (octets : List ℕ) → 0 < number_16 octets → ((length octets == 4) && (number_32 octets == 0)) ≡ false
some_family octets some = rw (ne_eqb (number_32 octets) 0 (λ e. omega (arith, e))) (and_false (length octets == 4))

-- A subnet of family 1 with at most 4 octets of address prints as an IPv4 subnet.
pub subnet_ipv4 : (octets : List ℕ) → 4 ≤ length octets → number_16 octets ≡ 1 → length octets ≤ 8 → ipv4_subnet_text octets ≡ subnet_text octets
subnet_ipv4 octets long family short = rw (le-ltb (length octets) 4 long, some_family octets (omega (arith, family)), eq-eqb (number_16 octets) 1 family, le-leb (length octets) 8 short)

-- A subnet of family 2 with at most 16 octets of address prints as an IPv6 subnet.
pub subnet_ipv6 : (octets : List ℕ) → 4 ≤ length octets → number_16 octets ≡ 2 → length octets ≤ 20 → ipv6_subnet_text octets ≡ subnet_text octets
subnet_ipv6 octets long family short =
    rw (
      le-ltb (length octets) 4 long,
      some_family octets (omega (arith, family)),
      ne_eqb (number_16 octets) 1 (λ e. omega (arith, e, family)),
      eq-eqb (number_16 octets) 2 family,
      le-leb (length octets) 20 short,
    )
