-- What is printed of data of an unknown type, and of a record, is its words.
use Rattle.std.proofs.Common.{ℕ, suc, ◌/◌, ◌%◌, ◌^◌, ◌<◌, false, List, [], ◌∷◌, ◌++◌, length, decimal, refl, arith}
use Rattle.std.specs.Prelude.{codes}
use Rattle.std.specs.List.{flat_map}
use Rattle.hex.specs.Hex.{IsBytes}
use Rattle.dns_data.specs.Printing.{hex_octet, opaque_text}
use Rattle.dns_name.specs.Names.{IsName, Labels}
use Rattle.fields_records.specs.RecordLines.{record_text}
use Rattle.fields_plain.specs.TypeNames.{class_word, type_word}
use Rattle.fields_plain.specs.ZoneNames.{zone_name_text}
use Rattle.fields_text.specs.LineWords.{AreWordsOf, IsWord, word_of_any}
use Rattle.fields_text.proofs.theory.SpacedTexts.{AreSpaced, one_word, spaced_append, then_word, then_words}
use Rattle.fields_text.proofs.theory.SpacedTexts.AreSpaced.{nothing as no_words, space, word}
use Rattle.fields_text.proofs.theory.WordTexts.{IsBare, glyph_plain, is_word}
use Rattle.fields_text.proofs.theory.WordTexts.IsBare.{nothing, plain, escaped}
use Rattle.fields_plain.proofs.theory.Words.{class_is_word, name_word, type_is_word}
use Rattle.fields_text.proofs.theory.Words.{decimal_word}

-- octets in lowercase hexadecimal
octets_rest : (octets : List ℕ) → IsBytes octets → IsBare (flat_map hex_octet octets)
octets_rest [] bytes = nothing
octets_rest (o ∷ octets) bytes =
    let small : o < 256 = bytes 0 in
    plain (glyph_plain false (o / 16) (omega arith)) (plain (glyph_plain false (o % 16) (omega arith)) (octets_rest octets (λ i. bytes (suc i))))

-- data of an unknown type
sharp_word : IsWord (codes "\\#")
sharp_word = is_word (omega arith, escaped nothing)

number_spaced : (n : ℕ) → n < 2 ^ 64 → AreSpaced (codes "\\# " ++ decimal n) (codes "\\#" ∷ decimal n ∷ [])
number_spaced n small = word (codes "\\#") sharp_word refl (space (one_word (decimal n) (decimal_word n small)))

-- The text of opaque RDATA is split into `\#`, the length and the digits.
pub opaque_split : (octets : List ℕ) → IsBytes octets → length octets < 2 ^ 64
    → AreSpaced (opaque_text octets) (codes "\\#" ∷ decimal (length octets) ∷ word_of_any (flat_map hex_octet) octets)
opaque_split [] bytes small =
    (spaced_append (codes "\\# " ++ decimal 0) [] (codes "\\#" ∷ decimal 0 ∷ []) [] (number_spaced 0 small) tt no_words)
opaque_split (o ∷ octets) bytes small =
    let size = length (o ∷ octets) in
    let text = flat_map hex_octet (o ∷ octets) in
    let last : IsWord text = is_word (omega arith, octets_rest (o ∷ octets) bytes) in
    (spaced_append (codes "\\# " ++ decimal size) (codes " " ++ text) (codes "\\#" ∷ decimal size ∷ []) (text ∷ []) (number_spaced size small) refl (space (one_word text last)))

-- records
pub record_split : (owner : Labels) (ttl class rtype : ℕ) (value : List ℕ) (words : List (List ℕ)) → IsName owner → ttl < 2 ^ 32 → class < 2 ^ 16 → rtype < 2 ^ 16 → AreWordsOf value words
    → AreWordsOf (record_text (zone_name_text owner) ttl class rtype value) (zone_name_text owner ∷ decimal ttl ∷ class_word class ∷ type_word rtype ∷ words)
record_split owner ttl class rtype value words name t c r h =
    let own = zone_name_text owner in
    let one = one_word own (name_word owner name) in
    let two = then_word own (decimal ttl) (own ∷ []) one (decimal_word ttl (omega arith)) in
    let three = then_word (own ++ codes " " ++ decimal ttl) (class_word class) (own ∷ decimal ttl ∷ []) two (class_is_word class c) in
    let four = then_word (own ++ codes " " ++ decimal ttl ++ codes " " ++ class_word class) (type_word rtype) (own ∷ decimal ttl ∷ class_word class ∷ []) three (type_is_word rtype r) in
    then_words (own ++ codes " " ++ decimal ttl ++ codes " " ++ class_word class ++ codes " " ++ type_word rtype) value (own ∷ decimal ttl ∷ class_word class ∷ type_word rtype ∷ []) words four h
