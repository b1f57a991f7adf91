-- The number of words of a field.
use Rattle.std.proofs.Common.{◌≡◌, ◌∙◌, ℕ, List, sym, subst}
use Rattle.fields_table.specs.declared.kind.Kind.{Kind}
use Rattle.fields_records.specs.Extents.{extent_of}
use Rattle.fields_records.specs.FieldWords.{IsField, IsFieldOf, Words}
use Rattle.fields_records.specs.WordCounts.{IsSizedCount, IsWordCount}
use Rattle.fields_records.specs.declared.extent.Extent.{Extent}
use Rattle.fields_records.specs.declared.extent.Extent.TheVariants.{OneOrTwo, All}

module _ (kind : Kind) (words : Words) (e : Extent) (own : extent_of kind ≡ e) where
  field_of : (of : Words) (octets : List ℕ) → IsField kind of octets → IsFieldOf e kind of octets
  field_of of octets is = subst (λ (x : Extent). IsFieldOf x kind of octets) own is

-- one word or two
pub sized_count : (kind : Kind) (words : Words) (n : ℕ) → OneOrTwo ≡ extent_of kind → IsSizedCount words n → IsWordCount kind words n
sized_count kind words n e count = record {
  within = count.within;
  last = λ all. let other : OneOrTwo ≡ All = e ∙ all in cc other;
  only = λ own after octets split last is. count.only own after octets split (field_of kind words OneOrTwo (sym e) own octets is);
}
