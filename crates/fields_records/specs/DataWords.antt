-- Words that represent record data. RFC 1035 section 5.1; of any type: RFC 3597 section 5.
use Rattle.std.specs.Prelude.{◌≡◌, ◌⊎◌, ℕ, List, [], ◌∷◌, ◌++◌, length, drop, codes, Result, MatchResult}
use Rattle.std.specs.Net.Grammar.{IsNumber}
use Rattle.fields_table.specs.OwnedData.{owned_parts_of, owned_rtype_of}
use Rattle.fields_table.specs.Table.{kinds_of}
use Rattle.fields_table.specs.UncompressedData.{IsUncompressedData}
use Rattle.fields_table.specs.declared.kind.Kind.{Kind}
use Rattle.fields_table.specs.declared.owned.OwnedFieldData.{OwnedFieldData}
use Rattle.fields_text.specs.JoinedWords.{AreHex}
use Rattle.fields_text.specs.Reading.{FailsIf, HasValue}
use Rattle.fields_text.specs.declared.text_error.TextError.{TextError}
use Rattle.dns_wire.specs.Parts.{Part}
use Rattle.fields_records.specs.Extents.{extent_of}
use Rattle.fields_records.specs.FieldWords.{IsField, Words}
use Rattle.fields_records.specs.declared.extent.Extent.TheVariants.{All}

-- the first words are a field of this kind, and the others are `Others`
pub record BeginsWith (kind : Kind) (Others : Words → List ℕ → Type 0) (words : Words) (octets : List ℕ) : Type 0 where
  pub own : Words
  pub after : Words
  pub field : List ℕ
  pub others : List ℕ
  pub split : words ≡ own ++ after
  pub whole : octets ≡ field ++ others
  pub takes_all : extent_of kind ≡ All → after ≡ []
  pub is_field : IsField kind own field
  pub are_others : Others after others

-- the words are fields of these kinds in order, and these are their octets
abbrev pub AreFields : List Kind → Words → List ℕ → Type 0
AreFields [] words octets = (words ≡ []) × (octets ≡ [])
AreFields (kind ∷ kinds) words octets = BeginsWith kind (AreFields kinds) words octets

-- the words are the number of the octets, and their hexadecimal digits
abbrev pub AreCountedDigits : Words → List ℕ → Type 0
AreCountedDigits [] octets = ⊥
AreCountedDigits (size ∷ digits) octets = IsNumber 10 size.now (length octets) × AreHex digits octets

-- the first word is `\#`
abbrev pub IsMarked : Words → Type 0
IsMarked [] = ⊥
IsMarked (word ∷ words) = word.now ≡ codes "\\#"

-- the words are fields of the type; or after `\#` the number of octets and these in hexadecimal. RFC 3597 section 5
abbrev pub AreDataWords : ℕ → Words → List ℕ → Type 0
AreDataWords rtype words octets =
    (IsMarked words × AreCountedDigits (drop 1 words) octets) ⊎ (¬ (IsMarked words) × AreFields (kinds_of rtype) words octets)

-- the words represent RDATA of this type, and these are its parts
pub record IsDataText (rtype : ℕ) (words : Words) (parts : List Part) : Type 0 where
  pub octets : List ℕ
  pub are : AreDataWords rtype words octets
  pub rdata : IsUncompressedData rtype octets parts

-- RDATA of this type that the words represent, or why there is none: an allocation fails only at words of which `May` holds
abbrev pub ReadsDataIf : Type 0 → ℕ → Words → Result OwnedFieldData TextError → Type 0
ReadsDataIf May rtype words result =
    MatchResult result (λ value. (owned_rtype_of value ≡ rtype) × IsDataText rtype words (owned_parts_of value)) (FailsIf May (IsDataText rtype words))

-- the words represent RDATA of this type; or they are its fields, perhaps of more octets than RDATA has
abbrev pub MayBeData : ℕ → Words → Type 0
MayBeData rtype words = HasValue (IsDataText rtype words) ⊎ (¬ (IsMarked words) × HasValue (AreFields (kinds_of rtype) words))

-- RDATA of this type that the words represent. Else `BadWord` if they represent none, or `OutOfMemory` if an allocation fails, which happens only to words of which `MayBeData` holds.
abbrev pub ReadsData : ℕ → Words → Result OwnedFieldData TextError → Type 0
ReadsData rtype words result = ReadsDataIf (MayBeData rtype words) rtype words result
