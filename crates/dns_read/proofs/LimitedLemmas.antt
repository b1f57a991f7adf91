-- What a data type yields for appended lists of items, and how a cursor skips items.
use Rattle.std.proofs.Common.{◌≡◌, ◌∙◌, ap, refl, ℕ, Bool, true, false, List, [], ◌∷◌, ◌++◌, length, append_assoc, arith}
use Rattle.std.proofs.lemmas.List.{append-nil}
use Rattle.std.proofs.lemmas.List.Elements.{filter-append, filter_map-append}
use Rattle.std.specs.List.{cons_option}
use Rattle.std.specs.Prelude.{◌==◌, if◌then◌else◌, Option, Some, None, option_to_list, Result, Ok}
use Rattle.dns_name.specs.Names.{Fault}
use Rattle.dns_octets.specs.declared.error.ParseError.{ParseError}
use Rattle.dns_data.specs.Layout.{Layout}
use Rattle.dns_item.specs.Items.{RecordItem}
use Rattle.dns_item.specs.ParsedData.{HasSpan}
use Rattle.dns_item.specs.ParsedRecord.{EncodedRecord, encoded_record}
use Rattle.dns_item.specs.TypedRecords.{parsed_as}
use Rattle.dns_item.specs.declared.parsed_record.ParsedRecord.{ParsedRecord}
use Rattle.dns_read.specs.Given.{Given, SkipsToNext, SkipsToEnd, YieldsOne}
use Rattle.dns_read.specs.Given.Given.{none, more}
use Rattle.dns_read.specs.Limited.{parsed_item, limited, is_in_class_in, limited_by}
use Rattle.dns_read.specs.RecordSection.{records_left, record_result, GivesNext}
use Rattle.dns_read.specs.declared.record_section.RecordSection.{RecordSection}

-- The records of one type among two lists are those of each list.
pub limited-append : (layouts : ℕ → Option Layout) (xs ys : List (Result EncodedRecord Fault)) → limited layouts (xs ++ ys) ≡ limited layouts xs ++ limited layouts ys
limited-append layouts xs ys = filter_map-append (parsed_item layouts) xs ys

-- The same with a limit to the class IN.
pub limited_by-append : (layouts : ℕ → Option Layout) (in_only : Bool) (xs ys : List (Result EncodedRecord Fault))
    → limited_by layouts in_only (xs ++ ys) ≡ limited_by layouts in_only xs ++ limited_by layouts in_only ys
limited_by-append layouts true xs ys = ap (limited layouts) (filter-append is_in_class_in xs ys) ∙ limited-append layouts _ _
limited_by-append layouts false xs ys = limited-append layouts xs ys

cons_option-nil : {X : Type 0} (o : Option X) → cons_option o [] ≡ option_to_list o
cons_option-nil None = refl
cons_option-nil (Some x) = refl

-- what a data type yields for one record, which is of class IN if only such records are yielded
pub limited_by-one : (layouts : ℕ → Option Layout) (in_only : Bool) (x : EncodedRecord) → (in_only ≡ true → (x.entry.class == 1) ≡ true)
    → limited_by layouts in_only (Ok x ∷ []) ≡ option_to_list (parsed_as layouts x)
limited_by-one layouts true x class =
    let one : List (Result EncodedRecord Fault) = Ok x ∷ [] in
    ap (λ (b : Bool). limited layouts (if b then one else [])) (class refl) ∙ cons_option-nil (parsed_as layouts x)
limited_by-one layouts false x class = cons_option-nil (parsed_as layouts x)

-- the RDATA of a record that a cursor yielded lies within the octets
pub given_span : (old new : RecordSection) (r : ParsedRecord) → GivesNext old (Some (Ok r)) new → HasSpan (encoded_record r)
given_span old new r calls =
    let end = calls.moves.0.rdata_end in
    let within = calls.moves.0.skips.within in
    let same = ap length calls.moves.1 in
    record { start = omega arith; end = omega arith }

-- No records have none of a type.
pub limited_by-none : (layouts : ℕ → Option Layout) (in_only : Bool) → limited_by layouts in_only [] ≡ []
limited_by-none layouts true = refl
limited_by-none layouts false = refl

-- the items of one more call
given_last : {old mid new : RecordSection} {items : List (Result EncodedRecord Fault)} (outcome : Result ParsedRecord ParseError) → Given old items mid → GivesNext mid (Some outcome) new
    → Given old (items ++ record_result outcome ∷ []) new
given_last outcome none calls = more outcome calls refl none
given_last outcome (more first call is rest) calls = more first call is (given_last outcome rest calls)

-- what was left is the items that were yielded, then what is left now
given_left : {old new : RecordSection} {items : List (Result EncodedRecord Fault)} → Given old items new → records_left old ≡ items ++ records_left new
given_left none = refl
given_left (more outcome calls is rest) = calls.steps ∙ (λ i. is i ∷ given_left rest i)

-- the item that is yielded is the first of what was left that the data type accepts
pub skipped_yields : {accepted : List (Result EncodedRecord Fault) → List (Result RecordItem Fault)} {old new : RecordSection} {x : Result RecordItem Fault} → SkipsToNext accepted old new x
    → YieldsOne accepted (records_left old) (records_left new) x
skipped_yields {new = new} p = record {
  skipped = p.skipped;
  last = p.last;
  left = given_left p.given ∙ append_assoc p.skipped (p.last ∷ []) (records_left new);
  none_accepted = p.none_accepted;
  is_accepted = p.is_accepted;
}

-- the data type accepts nothing of what was left
pub ended_yields : {accepted : List (Result EncodedRecord Fault) → List (Result RecordItem Fault)} {old new : RecordSection} → SkipsToEnd accepted old new
    → (accepted (records_left old) ≡ []) × (records_left new ≡ [])
ended_yields {accepted = accepted} p = (
  ap accepted (given_left p.given ∙ ap (λ (ys : List (Result EncodedRecord Fault)). p.skipped ++ ys) p.ended.steps.0 ∙ append-nil p.skipped) ∙ p.none_accepted,
  p.ended.steps.1,
)

-- the cursor yielded items that the data type doesn't accept
pub record SkipsSoFar (accepted : List (Result EncodedRecord Fault) → List (Result RecordItem Fault)) (old now : RecordSection) : Type 0 where
  pub skipped : List (Result EncodedRecord Fault)
  pub given : Given old skipped now
  pub none_accepted : accepted skipped ≡ []
  pub left : accepted (records_left old) ≡ accepted (records_left now)

module _ (accepted : List (Result EncodedRecord Fault) → List (Result RecordItem Fault)) (nothing : accepted [] ≡ [])
    (append : (xs ys : List (Result EncodedRecord Fault)) → accepted (xs ++ ys) ≡ accepted xs ++ accepted ys) where
  -- at first the cursor has skipped nothing
  pub skipping_none : (cursor : RecordSection) → SkipsSoFar accepted cursor cursor
  skipping_none cursor = record { skipped = []; given = none; none_accepted = nothing; left = refl }

  -- what was left, by the item that is yielded next
  one_first : (old new : RecordSection) (outcome : Result ParsedRecord ParseError) (given : List (Result RecordItem Fault)) → GivesNext old (Some outcome) new
      → accepted (record_result outcome ∷ []) ≡ given
      → accepted (records_left old) ≡ given ++ accepted (records_left new)
  one_first old new outcome given calls is =
      ap accepted calls.steps ∙ append (record_result outcome ∷ []) (records_left new) ∙ ap (λ (ys : List (Result RecordItem Fault)). ys ++ accepted (records_left new)) is

  -- if the data type doesn't accept the item that is yielded, the item is skipped too
  pub skipping_more : (old now new : RecordSection) (outcome : Result ParsedRecord ParseError) → SkipsSoFar accepted old now → GivesNext now (Some outcome) new
      → accepted (record_result outcome ∷ []) ≡ []
      → SkipsSoFar accepted old new
  skipping_more old now new outcome p calls is = record {
    skipped = p.skipped ++ record_result outcome ∷ [];
    given = given_last outcome p.given calls;
    none_accepted = append p.skipped (record_result outcome ∷ []) ∙ (λ i. p.none_accepted i ++ is i);
    left = p.left ∙ one_first now new outcome [] calls is;
  }

  -- if the data type accepts the item that is yielded, this is the first that it accepts of what was left
  pub skipping_accepted : (old now new : RecordSection) (outcome : Result ParsedRecord ParseError) (x : Result RecordItem Fault) → SkipsSoFar accepted old now → GivesNext now (Some outcome) new
      → accepted (record_result outcome ∷ []) ≡ x ∷ [] → (accepted (records_left old) ≡ x ∷ accepted (records_left new)) × SkipsToNext accepted old new x
  skipping_accepted old now new outcome x p calls is = (
    p.left ∙ one_first now new outcome (x ∷ []) calls is,
    record { skipped = p.skipped; last = record_result outcome; given = given_last outcome p.given calls; none_accepted = p.none_accepted; is_accepted = is },
  )

  -- if the cursor yields no item, the data type accepts nothing of what was left, and the cursor skipped to the end
  pub skipping_ended : (old now new : RecordSection) → SkipsSoFar accepted old now → GivesNext now None new
      → (accepted (records_left old) ≡ []) × (accepted (records_left new) ≡ []) × SkipsToEnd accepted old new
  skipping_ended old now new p calls = (
    p.left ∙ ap accepted calls.steps.0 ∙ nothing,
    ap accepted calls.steps.1 ∙ nothing,
    record { skipped = p.skipped; before_end = now; given = p.given; ended = calls; none_accepted = p.none_accepted },
  )
