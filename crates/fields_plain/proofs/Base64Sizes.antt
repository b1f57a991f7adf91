-- How many octets a word of base64 represents. RFC 4648 section 4.
use Rattle.std.proofs.Common.{◌≡◌, ℕ, zero, suc, ◌+◌, ◌-◌, ◌*◌, ◌/◌, ◌%◌, true, false, not, List, [], ◌∷◌, length, replicate, slice_index, refl, ap, arith, length-append}
use Rattle.std.specs.List.{count_by, list_all}
use Rattle.std.specs.Prelude.{if◌then◌else◌}
use Rattle.std.proofs.lemmas.Bool.{and_parts, not-true}
use Rattle.std.proofs.lemmas.List.{length-replicate}
use Rattle.std.proofs.lemmas.List.Folds.{sum_by-replicate}
use Rattle.std.proofs.lemmas.List.Sums.{sum_by-append}
use Rattle.base64.specs.Engines.{standard}
use Rattle.base64.specs.GeneralPurpose.{IsBytes, encode_of}
use Rattle.base64.specs.Rfc4648.{encode_group, encode_symbols, padding_len}
use Rattle.base64.proofs.EngineFacts.{decode_of_strict}
use Rattle.base64.proofs.RoundTrip.{length-encode_symbols}
use Rattle.fields_text.specs.Octets.{IsBase64}
use Rattle.fields_plain.specs.SizedWords.{is_padding}

-- no symbol of the alphabet is padding
abbrev NoPadding : List ℕ → Type 0
NoPadding t = (i : ℕ) → is_padding (slice_index t i) ≡ false

by_test : (t : List ℕ) → list_all (λ c. not (is_padding c)) t ≡ true → NoPadding t
by_test [] h i = refl
by_test (c ∷ t) h zero = not-true (is_padding c) (and_parts (not (is_padding c)) (list_all (λ c. not (is_padding c)) t) h).0
by_test (c ∷ t) h (suc i) = by_test t (and_parts (not (is_padding c)) (list_all (λ c. not (is_padding c)) t) h).1 i

standard_symbols : NoPadding standard.encode_table
standard_symbols = by_test standard.encode_table refl

symbols_padding : (t octets : List ℕ) → NoPadding t → count_by is_padding (encode_symbols t octets) ≡ 0
unfolding encode_symbols
symbols_padding t [] h = refl
symbols_padding t (a ∷ []) h = rw (h (a / 4), h (a % 4 * 16)) refl
symbols_padding t (a ∷ b ∷ []) h = rw (h (a / 4), h (a % 4 * 16 + b / 16), h (b % 16 * 4)) refl
symbols_padding t (a ∷ b ∷ c ∷ octets) h =
    let first : count_by is_padding (encode_group t a b c) ≡ 0 = rw (h (a / 4), h (a % 4 * 16 + b / 16), h (b % 16 * 4 + c / 64), h (c % 64)) refl in
    omega (arith, sum_by-append (λ (x : ℕ). if is_padding x then 1 else 0) (encode_group t a b c) (encode_symbols t octets), first, symbols_padding t octets h)

padding_is : (octets : List ℕ) → count_by is_padding (encode_of standard octets) ≡ padding_len (length octets)
padding_is octets =
    let symbols = symbols_padding standard.encode_table octets standard_symbols in
    let signs : count_by is_padding (replicate (padding_len (length octets)) 61) ≡ padding_len (length octets) =
    omega (arith, sum_by-replicate (λ (x : ℕ). if is_padding x then 1 else 0) (padding_len (length octets)) 61) in
    omega (arith, sum_by-append (λ (x : ℕ). if is_padding x then 1 else 0) (encode_symbols standard.encode_table octets) (replicate (padding_len (length octets)) 61), symbols, signs)

word_size : (octets : List ℕ) → length (encode_of standard octets) ≡ (4 * length octets + 2) / 3 + padding_len (length octets)
word_size octets = simp (length-append, length-replicate, length-encode_symbols) refl

-- The octets of a word: three for four characters, less one for each character of padding.
pub octets_of_word : (word octets : List ℕ) → IsBytes word → IsBase64 word octets → length word / 4 * 3 - count_by is_padding word ≡ length octets
octets_of_word word octets bytes is =
    let whole : word ≡ encode_of standard octets = decode_of_strict standard word octets (refl, refl) bytes is in
    omega (arith, ap length whole, ap (count_by is_padding) whole, word_size octets, padding_is octets)
