-- How an iterator over records with parsed RDATA moves its cursor. RFC 1035 section 4.1.3.
--
-- `accepted` maps items to what the iterator yields for them: nothing for a record whose type the data type doesn't accept, or whose class isn't wanted.
use Rattle.std.specs.Prelude.{◌≡◌, List, [], ◌∷◌, ◌++◌, Option, Some, None, Result}
use Rattle.dns_name.specs.Names.{Fault}
use Rattle.dns_octets.specs.declared.error.ParseError.{ParseError}
use Rattle.dns_item.specs.Items.{RecordItem}
use Rattle.dns_item.specs.ParsedRecord.{EncodedRecord}
use Rattle.dns_item.specs.declared.parsed_record.ParsedRecord.{ParsedRecord}
use Rattle.dns_read.specs.RecordSection.{record_result, GivesNext}
use Rattle.dns_read.specs.declared.record_section.RecordSection.{RecordSection}

-- A cursor yields these items, in order, and becomes the second cursor.
pub data Given : RecordSection → List (Result EncodedRecord Fault) → RecordSection → Type 0 where
  none : {cursor : RecordSection} → Given cursor [] cursor
  more : {old mid new : RecordSection} {item : Result EncodedRecord Fault} {items : List (Result EncodedRecord Fault)} (outcome : Result ParsedRecord ParseError)
      → GivesNext old (Some outcome) mid → record_result outcome ≡ item → Given mid items new → Given old (item ∷ items) new

-- The cursor skips records for which nothing is yielded. For the next item, a record or a fault, `outcome` is yielded.
pub record SkipsToNext (accepted : List (Result EncodedRecord Fault) → List (Result RecordItem Fault)) (old new : RecordSection) (outcome : Result RecordItem Fault) : Type 0 where
  pub skipped : List (Result EncodedRecord Fault)
  pub last : Result EncodedRecord Fault
  pub given : Given old (skipped ++ last ∷ []) new
  pub none_accepted : accepted skipped ≡ []
  pub is_accepted : accepted (last ∷ []) ≡ outcome ∷ []

-- The cursor skips all remaining records, as nothing is yielded for them, and ends.
pub record SkipsToEnd (accepted : List (Result EncodedRecord Fault) → List (Result RecordItem Fault)) (old new : RecordSection) : Type 0 where
  pub skipped : List (Result EncodedRecord Fault)
  pub before_end : RecordSection
  pub given : Given old skipped before_end
  pub ended : GivesNext before_end None new
  pub none_accepted : accepted skipped ≡ []

-- The cursor skips records for which nothing is yielded, up to the first item for which the iterator yields its result, or to the end.
abbrev pub SkipsTo : {A : Type 0} → (A → Result RecordItem Fault) → (List (Result EncodedRecord Fault) → List (Result RecordItem Fault)) → RecordSection → RecordSection → Option A → Type 0
SkipsTo result_of accepted old new (Some outcome) = SkipsToNext accepted old new (result_of outcome)
SkipsTo result_of accepted old new None = SkipsToEnd accepted old new

-- What was left is what was skipped, then the item for which `outcome` is yielded, then what is left now.
pub record YieldsOne (accepted : List (Result EncodedRecord Fault) → List (Result RecordItem Fault)) (before after : List (Result EncodedRecord Fault))
    (outcome : Result RecordItem Fault) : Type 0 where
  pub skipped : List (Result EncodedRecord Fault)
  pub last : Result EncodedRecord Fault
  pub left : before ≡ skipped ++ last ∷ after
  pub none_accepted : accepted skipped ≡ []
  pub is_accepted : accepted (last ∷ []) ≡ outcome ∷ []

-- The iterator yields its result for the first item that it doesn't skip. If it skips all, it yields nothing and nothing is left.
abbrev pub YieldsNext : {A : Type 0} → (A → Result RecordItem Fault) → (List (Result EncodedRecord Fault) → List (Result RecordItem Fault))
    → List (Result EncodedRecord Fault) → List (Result EncodedRecord Fault) → Option A → Type 0
YieldsNext result_of accepted before after (Some outcome) = YieldsOne accepted before after (result_of outcome)
YieldsNext result_of accepted before after None = (accepted before ≡ []) × (after ≡ [])
