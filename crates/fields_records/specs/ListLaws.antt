-- Printed texts of several words.
use Rattle.std.specs.Prelude.{ℕ, ◌<◌, ◌^◌, List, ◌∷◌, length, codes, decimal}
use Rattle.std.specs.List.{flat_map}
use Rattle.hex.specs.Hex.{IsBytes}
use Rattle.dns_data.specs.Printing.{hex_octet, opaque_text}
use Rattle.dns_name.specs.Names.{IsName, Labels}
use Rattle.fields_records.specs.RecordLines.{record_text}
use Rattle.fields_plain.specs.TypeNames.{class_word, type_word}
use Rattle.fields_plain.specs.ZoneNames.{zone_name_text}
use Rattle.fields_text.specs.LineWords.{AreWordsOf, word_of_any}

-- the words of RDATA of an unknown type. RFC 3597 section 5
abbrev pub opaque_words : List ℕ → List (List ℕ)
opaque_words octets = codes "\\#" ∷ decimal (length octets) ∷ word_of_any (flat_map hex_octet) octets

-- RDATA of an unknown type
abbrev pub OpaqueSplits : Type 0
OpaqueSplits = (octets : List ℕ) → IsBytes octets → length octets < 2 ^ 64
    → AreWordsOf (opaque_text octets) (opaque_words octets)

-- a record: its owner, TTL, class and type, and the words of its RDATA
abbrev pub RecordsSplit : Type 0
RecordsSplit = (owner : Labels) (ttl class rtype : ℕ) (value : List ℕ) (words : List (List ℕ)) → IsName owner → ttl < 2 ^ 32 → class < 2 ^ 16 → rtype < 2 ^ 16 → AreWordsOf value words
    → AreWordsOf (record_text (zone_name_text owner) ttl class rtype value) (zone_name_text owner ∷ decimal ttl ∷ class_word class ∷ type_word rtype ∷ words)
