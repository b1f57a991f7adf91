-- Printed strings and tags read back.
use Rattle.std.proofs.Common.{◌≡◌, ◌∙◌, ℕ, suc, ◌+◌, ◌-◌, ◌*◌, ◌/◌, ◌%◌, ◌<◌, ◌==◌, ◌&&◌, Bool, true, false, List, [], ◌∷◌, ◌++◌, length, take, Some, refl, sym, ap, subst, arith, length-append}
use Rattle.std.specs.Prelude.{Option, nat_le, not, ◌||◌, if◌then◌else◌, slice_index}
use Rattle.std.specs.Char.{is_ascii_digit, is_ascii_alphanumeric}
use Rattle.std.specs.Int.{is_in_range}
use Rattle.std.specs.List.{flat_map, list_all}
use Rattle.std.proofs.Math.Seq.{take-append_seam, get_or-append_seam}
use Rattle.std.proofs.lemmas.Bool.{and_parts, and_from, cond-true, cond-false, le-leb}
use Rattle.std.proofs.lemmas.Bool.Decides.{nat_tests}
use Rattle.hex.specs.Hex.{IsBytes}
use Rattle.fields_text.specs.String.{quote, backslash, decimal_text, string_octet, quoted, is_tag}
use Rattle.fields_text.specs.Strings.{SpellsOctets, SpellsString, octet_at, is_quoted, unquoted}
use Rattle.fields_text.specs.Strings.SpellsOctets.{none, more}

-- an octet and the text after it
abbrev split : ℕ → List ℕ → Option (ℕ × List ℕ)
split octet after = let pair : ℕ × List ℕ = (octet, after) in Some pair

no_digit : (o : ℕ) → (o == quote) || (o == backslash) ≡ true → is_ascii_digit o ≡ false
no_digit o h = grind (arith, nat_tests)

is_digit : (d : ℕ) → d < 10 → is_ascii_digit (48 + d) ≡ true
is_digit d h = grind (arith, nat_tests)

digits_value : (o : ℕ) → (48 + o / 100 - 48) * 100 + (48 + o / 10 % 10 - 48) * 10 + (48 + o % 10 - 48) ≡ o
digits_value o = omega arith

-- the octet after a backslash
escaped_read : (o : ℕ) (after : List ℕ) → (o == quote) || (o == backslash) ≡ true → octet_at (backslash ∷ o ∷ after) ≡ split o after
escaped_read o after h = cond-false _ _ _ (no_digit o h)

-- the octet as it is
plain_read : (o : ℕ) (after : List ℕ) → (o == quote) ≡ false → (o == backslash) ≡ false → octet_at (o ∷ after) ≡ split o after
plain_read o after q b = cond-false _ _ _ q ∙ cond-false _ _ _ b

-- three digits
decimal_read : (o : ℕ) (after : List ℕ) → o < 256 → octet_at (decimal_text o ++ after) ≡ split o after
decimal_read o after small =
    let value = digits_value o in
    let first = is_digit (o / 100) (omega arith) in
    let second = is_digit (o / 10 % 10) (omega arith) in
    let third = is_digit (o % 10) (omega arith) in
    let at_most = le-leb ((48 + o / 100 - 48) * 100 + (48 + o / 10 % 10 - 48) * 10 + (48 + o % 10 - 48)) 255 (omega (arith, value, small)) in
    cond-true _ _ _ first ∙ cond-true _ _ _ (and_from _ _ (and_from _ _ second third) at_most) ∙ ap (λ (v : ℕ). split v after) value

read_by : (o : ℕ) (after : List ℕ) → o < 256 → (q b r : Bool) → (o == quote) ≡ q → (o == backslash) ≡ b → is_in_range 0x20 0x7e o ≡ r
    → octet_at ((if q || b then backslash ∷ o ∷ [] else if r then o ∷ [] else decimal_text o) ++ after) ≡ split o after
read_by o after small true b r eq eb er = escaped_read o after (ap (λ t. t || (o == backslash)) eq)
read_by o after small false true r eq eb er = escaped_read o after (ap (λ t. t || (o == backslash)) eq ∙ eb)
read_by o after small false false true eq eb er = plain_read o after eq eb
read_by o after small false false false eq eb er = decimal_read o after small

-- a printed octet is read
octet_reads : (o : ℕ) (after : List ℕ) → o < 256 → octet_at (string_octet o ++ after) ≡ split o after
octet_reads o after small = read_by o after small _ _ _ refl refl refl

-- the text between the quotes is read
pub octets_read : (octets : List ℕ) → IsBytes octets → SpellsOctets (flat_map string_octet octets) octets
octets_read [] bytes = none
octets_read (o ∷ octets) bytes = more (octet_reads o (flat_map string_octet octets) (bytes 0)) (octets_read octets (λ i. bytes (suc i)))

-- a text in quotes
module _ (text : List ℕ) where
  abbrev within : List ℕ
  within = quote ∷ text ++ quote ∷ []

  last_is : length within - 1 ≡ suc (length text)
  last_is = omega (arith, length-append text (quote ∷ []))

  quoted_is : is_quoted within ≡ true
  quoted_is =
      let two = le-leb 2 (length within) (omega (arith, length-append text (quote ∷ []))) in
      let last : (slice_index within (length within - 1) == quote) ≡ true =
      ap (λ i. slice_index within i == quote) last_is ∙ ap (λ o. o == quote) (get_or-append_seam text quote [] 0) in
      and_from _ _ (and_from _ _ two refl) last

  -- without its quotes, a text in quotes is the text between them
  pub within_is : unquoted within ≡ text
  within_is =
      cond-true _ _ _ quoted_is
      ∙ ap (λ i. take (i - 1) (text ++ quote ∷ [])) last_is
      ∙ ap (λ i. take i (text ++ quote ∷ [])) (let same : suc (length text) - 1 ≡ length text = omega arith in same)
      ∙ take-append_seam text (quote ∷ [])

-- a printed string reads back
pub string_reads_back : (octets : List ℕ) → IsBytes octets → SpellsString (quoted octets) octets
string_reads_back octets bytes =
    subst (λ (text : List ℕ). SpellsOctets text octets) (sym (within_is (flat_map string_octet octets))) (octets_read octets bytes)

-- letters and digits stand for themselves
plain_tag : (o : ℕ) → is_ascii_alphanumeric o ≡ true → ((o == quote) ≡ false) × ((o == backslash) ≡ false)
plain_tag o h = (grind (arith, nat_tests), grind (arith, nat_tests))

tag_octets_read : (octets : List ℕ) → list_all is_ascii_alphanumeric octets ≡ true → SpellsOctets octets octets
tag_octets_read [] h = none
tag_octets_read (o ∷ octets) h =
    let parts = and_parts (is_ascii_alphanumeric o) (list_all is_ascii_alphanumeric octets) h in
    let plain = plain_tag o parts.0 in
    more (plain_read o octets plain.0 plain.1) (tag_octets_read octets parts.1)

-- a tag isn't in quotes
not_quoted : (octets : List ℕ) → list_all is_ascii_alphanumeric octets ≡ true → is_quoted octets ≡ false
not_quoted [] h = refl
not_quoted (o ∷ octets) h =
    let parts = and_parts (is_ascii_alphanumeric o) (list_all is_ascii_alphanumeric octets) h in
    let first : (o == quote) ≡ false = (plain_tag o parts.0).0 in
    no_and (nat_le 2 (length (o ∷ octets))) (o == quote) (slice_index (o ∷ octets) (length (o ∷ octets) - 1) == quote) first where
      no_and : (a b c : Bool) → b ≡ false → a && b && c ≡ false
      no_and true b c e = ap (λ t. t && c) e
      no_and false b c e = refl

-- a tag reads back
pub tag_reads_back : (octets : List ℕ) → is_tag octets ≡ true → SpellsString octets octets
tag_reads_back octets h =
    let letters = (and_parts (not (length octets == 0)) (list_all is_ascii_alphanumeric octets) h).1 in
    subst (λ (text : List ℕ). SpellsOctets text octets) (sym (cond-false _ _ _ (not_quoted octets letters))) (tag_octets_read octets letters)
