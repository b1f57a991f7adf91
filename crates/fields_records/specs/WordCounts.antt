-- The number of words that a field has.
use Rattle.std.specs.Prelude.{◌≡◌, ℕ, ◌≤◌, List, [], ◌++◌, length}
use Rattle.fields_table.specs.declared.kind.Kind.{Kind}
use Rattle.fields_plain.specs.SizedWords.{IsSizedWords}
use Rattle.fields_records.specs.Extents.{extent_of}
use Rattle.fields_records.specs.FieldWords.{IsField, Words}
use Rattle.fields_records.specs.declared.extent.Extent.TheVariants.{All}

-- if the words begin with sized octets, these have n words
pub record IsSizedCount (words : Words) (n : ℕ) : Type 0 where
  pub within : n ≤ length words
  pub only : (own after : Words) (octets : List ℕ) → words ≡ own ++ after → IsSizedWords own octets → length own ≡ n

-- if the words begin with a field of this kind, it has n words
pub record IsWordCount (kind : Kind) (words : Words) (n : ℕ) : Type 0 where
  pub within : n ≤ length words
  pub last : extent_of kind ≡ All → n ≡ length words
  pub only : (own after : Words) (octets : List ℕ) → words ≡ own ++ after → (extent_of kind ≡ All → after ≡ []) → IsField kind own octets → length own ≡ n
