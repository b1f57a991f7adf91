-- Words of hexadecimal digits, and the empty words.
use Rattle.std.proofs.Common.{◌≡◌, ◌∙◌, ℕ, ◌<◌, ◌*◌, ◌%◌, true, false, List, [], ◌∷◌, Ok, length, slice_index_or, refl, sym, subst, arith}
use Rattle.std.proofs.lemmas.Bool.{false≢true}
use Rattle.std.proofs.lemmas.Bool.Decides.{nat_tests}
use Rattle.std.proofs.lemmas.List.Sums.{AllPass-from_list_all, list_all-from_AllPass}
use Rattle.std.specs.Char.{is_ascii_hexdigit}
use Rattle.std.specs.List.{AllPass, list_all}
use Rattle.base64.specs.Engines.{standard}
use Rattle.base64.specs.GeneralPurpose.{decode_of as base64_decoded}
use Rattle.base64.proofs.EngineFacts.{decode_of-encode_of, encode_of-nil}
use Rattle.hex.specs.Hex.{decode_pairs, is_hex_digit}
use Rattle.hex.proofs.HexLemmas.{decode_of-digits, decode_of-ok}
use Rattle.fields_text.specs.Octets.{IsBase64, IsHex}
use Rattle.fields_text.specs.ReadOctets.{TakesMemory}

-- the two tests of a digit agree
pub same_digits : (c : ℕ) → is_ascii_hexdigit c ≡ is_hex_digit c
same_digits c = grind (arith, nat_tests)

-- an even number of digits represents octets
pub digits_take_memory : (word : List ℕ) → length word % 2 ≡ 0 → 0 < length word → list_all is_ascii_hexdigit word ≡ true → TakesMemory (IsHex word)
digits_take_memory word even some all =
    let ascii = AllPass-from_list_all is_ascii_hexdigit word all in
    let digits : AllPass is_hex_digit word = λ k d h. sym (same_digits (slice_index_or word k d)) ∙ ascii k d h in
    let decoded = decode_of-digits word even digits in
    let size : length word ≡ 2 * length decoded.0 = (decode_of-ok word decoded.0 decoded.1).2 in
    (decoded.0, decoded.1, omega arith)

-- a word with another octet represents none
pub not_hex : (word : List ℕ) → list_all is_ascii_hexdigit word ≡ false → (octets : List ℕ) → ¬ IsHex word octets
not_hex word other octets is =
    let digits = (decode_of-ok word octets is).1 in
    let ascii : AllPass is_ascii_hexdigit word = λ k d h. same_digits (slice_index_or word k d) ∙ digits k d h in
    false≢true (sym other ∙ list_all-from_AllPass is_ascii_hexdigit word ascii)

-- the empty word is no octets in hexadecimal
pub empty_is_hex : (word octets : List ℕ) → length word ≡ 0 → octets ≡ [] → IsHex word octets
unfolding decode_pairs
empty_is_hex [] octets none e = rw e refl
empty_is_hex (x ∷ word) octets none e = absurd (omega arith)

no_octets : base64_decoded standard [] ≡ Ok []
no_octets = subst (λ (word : List ℕ). base64_decoded standard word ≡ Ok []) (encode_of-nil standard) (decode_of-encode_of standard [] refl (λ i. omega arith))

-- the empty word is no octets in base64
pub empty_is_base64 : (word octets : List ℕ) → length word ≡ 0 → octets ≡ [] → IsBase64 word octets
empty_is_base64 [] octets none e = subst (λ (found : List ℕ). base64_decoded standard [] ≡ Ok found) (sym e) no_octets
empty_is_base64 (x ∷ word) octets none e = absurd (omega arith)
