-- Hexadecimal texts are those of the crate `hex`.
use Rattle.std.proofs.Common.{◌≡◌, ◌∙◌, ℕ, zero, suc, ◌/◌, ◌%◌, ◌<◌, ◌==◌, ◌&&◌, Bool, true, false, List, [], ◌∷◌, refl, ap, arith, eqb}
use Rattle.std.specs.Prelude.{slice_index, Ok}
use Rattle.std.specs.Fmt.{digit_glyph}
use Rattle.std.proofs.lemmas.Bool.{and_parts, eqb-true, eqb-false}
use Rattle.hex.specs.Hex.{IsBytes, decode_of, encode_upper, encode_with, upper_digits}
use Rattle.hex.proofs.HexLemmas.{decode_of-encode_upper}
use Rattle.fields_text.specs.Hex.{hex_text}

-- whether the test holds of each number below n
abbrev holds_below : (ℕ → Bool) → ℕ → Bool
holds_below test zero = true
holds_below test (suc n) = holds_below test n && test n

below_holds : (test : ℕ → Bool) (n d : ℕ) → holds_below test n ≡ true → d < n → test d ≡ true
below_holds test zero d h less = absurd (omega arith)
below_holds test (suc n) d h less =
    let parts = and_parts (holds_below test n) (test n) h in
    elim (eqb d n) as (λ b. eqb d n ≡ b → test d ≡ true) [
      | true ↦ λ e. ap test (eqb-true d n e) ∙ parts.1
      | false ↦ λ e. let other = eqb-false d n e in below_holds test n d parts.0 (omega arith)
    ] refl

-- a digit
same_digit : (d : ℕ) → d < 16 → digit_glyph true d ≡ slice_index upper_digits d
same_digit d h = eqb-true _ _ (below_holds (λ n. digit_glyph true n == slice_index upper_digits n) 16 d refl h)

-- octets
pub same_text : (octets : List ℕ) → IsBytes octets → hex_text octets ≡ encode_upper octets
unfolding encode_with
same_text [] bytes = refl
same_text (octet ∷ octets) bytes =
    let b : octet < 256 = bytes 0 in
    let high = same_digit (octet / 16) (omega arith) in
    let low = same_digit (octet % 16) (omega arith) in
    let others = same_text octets (λ i. bytes (suc i)) in
    rw (high, low, others) refl

-- they read back
pub hex_reads_back : (octets : List ℕ) → IsBytes octets → decode_of (hex_text octets) ≡ Ok octets
hex_reads_back octets bytes = rw (same_text octets bytes) (decode_of-encode_upper octets bytes)
