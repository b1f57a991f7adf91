-- Octets as RDATA of a type. RFC 1035 section 3.3.
use Rattle.std.specs.Prelude.{◌≡◌, ℕ, List, Result, MatchResult}
use Rattle.fields_table.specs.OwnedData.{owned_parts_of, owned_rtype_of}
use Rattle.fields_table.specs.UncompressedData.{IsUncompressedData}
use Rattle.fields_table.specs.declared.owned.OwnedFieldData.{OwnedFieldData}
use Rattle.fields_text.specs.declared.text_error.TextError.{TextError}
use Rattle.fields_text.specs.declared.text_error.TextError.TheVariants.{BadWord}
use Rattle.dns_wire.specs.Parts.{Part}
use Rattle.fields_text.specs.Reading.{Fails}

-- RDATA of this type with these octets, uncompressed. Else `BadWord`: there is none.
abbrev pub ReadsRdata : ℕ → List ℕ → Result OwnedFieldData TextError → Type 0
ReadsRdata rtype octets result =
    MatchResult result (λ value. (owned_rtype_of value ≡ rtype) × IsUncompressedData rtype octets (owned_parts_of value))
    (λ error. (error ≡ BadWord) × ((parts : List Part) → ¬ (IsUncompressedData rtype octets parts)))

-- RDATA of this type with a copy of these octets, uncompressed, or why there is none
abbrev pub CopiesRdata : ℕ → List ℕ → Result OwnedFieldData TextError → Type 0
CopiesRdata rtype octets result =
    MatchResult result (λ value. (owned_rtype_of value ≡ rtype) × IsUncompressedData rtype octets (owned_parts_of value)) (Fails (IsUncompressedData rtype octets))
