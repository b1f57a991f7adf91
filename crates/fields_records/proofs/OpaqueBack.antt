-- The words of RDATA of an unknown type read back. RFC 3597 section 5.
use Rattle.std.proofs.Common.{◌≡◌, ◌∙◌, ℕ, suc, ◌/◌, ◌%◌, ◌<◌, ◌==◌, ◌^◌, true, false, List, [], ◌∷◌, length, drop, decimal, refl, sym, ap, subst, arith, append-nil}
use Rattle.std.specs.Prelude.{slice_index, Ok}
use Rattle.std.specs.Fmt.{digit_glyph}
use Rattle.std.specs.List.{flat_map}
use Rattle.std.proofs.lemmas.Bool.{agree_below_at, eqb-true}
use Rattle.hex.specs.Hex.{IsBytes, decode_of, encode_lower, encode_with, lower_digits}
use Rattle.hex.proofs.HexLemmas.{decode_of-encode_lower}
use Rattle.dns_data.specs.Printing.{hex_octet}
use Rattle.fields_text.specs.JoinedWords.{AreHex, joined}
use Rattle.fields_text.specs.LineWords.{texts, word_of_any}
use Rattle.fields_records.specs.ListLaws.{opaque_words}
use Rattle.fields_records.specs.DataWords.{AreCountedDigits, IsMarked}
use Rattle.fields_records.specs.FieldWords.{Words}
use Rattle.fields_plain.proofs.theory.SizedLaws.{number_read}

-- a digit
same_digit : (d : ℕ) → d < 16 → digit_glyph false d ≡ slice_index lower_digits d
same_digit d small =
    eqb-true (digit_glyph false d) (slice_index lower_digits d)
    (agree_below_at (λ n. digit_glyph false n == slice_index lower_digits n) (λ n. true) 16 d refl small)

-- octets as pairs of digits
same_text : (octets : List ℕ) → IsBytes octets → flat_map hex_octet octets ≡ encode_lower octets
unfolding encode_with
same_text [] bytes = refl
same_text (octet ∷ octets) bytes =
    let small : octet < 256 = bytes 0 in
    let high = same_digit (octet / 16) (omega arith) in
    let low = same_digit (octet % 16) (omega arith) in
    let others = same_text octets (λ i. bytes (suc i)) in
    rw (high, low, others) refl

-- they read back
pairs_back : (octets : List ℕ) → IsBytes octets → decode_of (flat_map hex_octet octets) ≡ Ok octets
pairs_back octets bytes = ap decode_of (same_text octets bytes) ∙ decode_of-encode_lower octets bytes

-- the word of the pairs, if there are any
joined_pairs : (octets : List ℕ) (digits : Words) → texts digits ≡ word_of_any (flat_map hex_octet) octets → flat_map hex_octet octets ≡ joined digits
joined_pairs [] [] e = refl
joined_pairs [] (word ∷ digits) e = cc
joined_pairs (octet ∷ octets) [] e = cc
joined_pairs (octet ∷ octets) (word ∷ []) e =
    let same : flat_map hex_octet (octet ∷ octets) ≡ word.now = cc in
    same ∙ sym (append-nil word.now)
joined_pairs (octet ∷ octets) (word ∷ next ∷ digits) e = cc

digits_back : (octets : List ℕ) (digits : Words) → IsBytes octets → texts digits ≡ word_of_any (flat_map hex_octet) octets → AreHex digits octets
digits_back octets digits bytes e = subst (λ (text : List ℕ). decode_of text ≡ Ok octets) (joined_pairs octets digits e) (pairs_back octets bytes)

-- the mark, the number of octets and the digits
pub opaque_back : (octets : List ℕ) (words : Words) → IsBytes octets → length octets < 2 ^ 16 → texts words ≡ opaque_words octets → IsMarked words × AreCountedDigits (drop 1 words) octets
opaque_back octets [] bytes small e = cc
opaque_back octets (mark ∷ []) bytes small e = cc
opaque_back octets (mark ∷ size ∷ digits) bytes small e =
    let number : decimal (length octets) ≡ size.now = cc in
    let others : texts digits ≡ word_of_any (flat_map hex_octet) octets = cc in
    (cc, (number_read (length octets) size.now (omega arith) number, digits_back octets digits bytes others))
