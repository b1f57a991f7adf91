-- The words of a printed record are complete.
use Rattle.std.proofs.Common.{◌≡◌, ◌∙◌, ℕ, ◌+◌, ◌-◌, ◌^◌, ◌<◌, Bool, true, false, List, [], ◌∷◌, ◌++◌, length, refl, sym, ap, subst, arith, inl, inr}
use Rattle.std.specs.Prelude.{Option, Some, Ok, Err, MatchResult, decimal, if◌then◌else◌}
use Rattle.std.proofs.lemmas.Bool.{cond-true}
use Rattle.std.proofs.lemmas.Bool.Decides.{nat_tests}
use Rattle.hex.specs.Hex.{IsBytes}
use Rattle.dns_name.specs.Names.{IsName, Labels}
use Rattle.fields_plain.specs.TypeNames.{class_word, type_word}
use Rattle.fields_plain.specs.ZoneNames.{zone_name_text}
use Rattle.fields_plain.proofs.theory.Words.{name_word}
use Rattle.fields_records.specs.DataTexts.{data_fields, data_line}
use Rattle.fields_records.specs.FieldLaws.{AreWordsOfData, DataSplits}
use Rattle.fields_records.specs.Laws.{HasOctets, PrintedRecordsAreRead}
use Rattle.fields_records.specs.ListLaws.{RecordsSplit}
use Rattle.fields_records.specs.RecordLines.{record_text}
use Rattle.fields_records.specs.TextLaws.{FieldsAreAll}
use Rattle.fields_table.specs.Data.{any_laid_out, parts_of, rtype_of}
use Rattle.fields_table.specs.Layouts.{layout_of}
use Rattle.fields_table.specs.Table.{definitions_of, kinds_of}
use Rattle.fields_table.specs.declared.field_data.FieldData.{FieldData}
use Rattle.fields_table.proofs.theory.PartOctets.{parts_length}
use Rattle.fields_table.proofs.theory.UncompressedOctets.{are_parts}
use Rattle.fields_text.specs.LineWords.{texts}
use Rattle.fields_text.proofs.theory.LineLemmas.{one_list}
use Rattle.fields_lines.specs.Completing.{Completed, completed_data, is_marked, kept_words}
use Rattle.fields_lines.specs.Durations.{duration}
use Rattle.fields_lines.specs.FieldWays.{Texts}
use Rattle.fields_lines.specs.Heads.{BeginsClass, IsHead, after_first, after_ttl_or, ttl_or}
use Rattle.fields_lines.specs.Laws.{PrintedLinesAreRead}
use Rattle.fields_lines.specs.Lines.{IsAfterOwner, IsLine, Outcome, in_31_bits, outcome_at, owner_or, text_of_name}
use Rattle.fields_lines.specs.declared.defaults.Defaults.{Defaults}
use Rattle.fields_lines.specs.declared.line_error.WordReason.TheVariants.{Relative}
use Rattle.fields_lines.proofs.FirstParts.{ArePartsOf}
use Rattle.fields_lines.proofs.KeptFields.{fields_stay}
use Rattle.fields_lines.proofs.KeptForms.{some_word}
use Rattle.fields_lines.proofs.KeptNames.{name_complete}
use Rattle.fields_lines.proofs.KeptNumbers.{decimal_seconds}
use Rattle.fields_lines.proofs.KeptTypes.{class_read, type_read}

data_parts : (fields : FieldData) → HasOctets fields → ArePartsOf (layout_of (kinds_of (rtype_of fields))) (parts_of fields)
data_parts fields bytes =
    let laid = any_laid_out fields in
    let few = laid.0 in
    let size = parts_length (parts_of fields) in
    (laid.1, are_parts fields, bytes, omega (arith, few, size))

unless_marked : (b : Bool) (kept fields : Completed) (all : Texts) → kept ≡ Ok all → fields ≡ Ok all → (if b then kept else fields) ≡ Ok all
unless_marked true kept fields all e f = e
unless_marked false kept fields all e f = f

-- the words of RDATA are complete
data_complete : (origin : Option (List ℕ)) (at : ℕ) (done words : Texts) (fields : FieldData) → HasOctets fields → AreWordsOfData (data_fields fields) words
    → completed_data origin at (rtype_of fields) done words ≡ Ok (done ++ words)
data_complete origin at done words fields bytes (inl printed) =
    unless_marked (is_marked words) (kept_words done words) _ (done ++ words) refl
    (fields_stay origin (rtype_of fields) (definitions_of (rtype_of fields)) (parts_of fields) at 0 done words (data_parts fields bytes) printed)
data_complete origin at done words fields bytes (inr opaque) =
    let marked : is_marked words ≡ true = ap is_marked opaque.1 in cond-true _ _ _ marked

-- a line of an owner, a TTL, a class, a type and the words of RDATA
module _ (defaults : Defaults) (owner : Labels) (class ttl : ℕ) (fields : FieldData) (value : Texts) (c : class < 2 ^ 16) (t : ttl < 2 ^ 31) (r : rtype_of fields < 2 ^ 16)
    (bytes : HasOctets fields) (printed : AreWordsOfData (data_fields fields) value) where
  abbrev after_owner : Texts
  after_owner = decimal ttl ∷ class_word class ∷ type_word (rtype_of fields) ∷ value

  abbrev line_words : Texts
  line_words = zone_name_text owner ∷ after_owner

  -- the index of the first word of the RDATA
  abbrev value_at : ℕ
  value_at = length line_words - length (type_word (rtype_of fields) ∷ value) + 1

  ttl_is : duration (decimal ttl) ≡ Some ttl
  ttl_is = decimal_seconds ttl (omega arith)

  head_is : IsHead after_owner (Some ttl) (Some class) (type_word (rtype_of fields) ∷ value)
  head_is = record {
    after_class = type_word (rtype_of fields) ∷ value;
    has_class = subst (λ (found : Option ℕ). BeginsClass (after_first found after_owner) (Some class) (type_word (rtype_of fields) ∷ value)) (sym ttl_is) (class_read class c, refl);
    has_ttl = sym (ap (λ (found : Option ℕ). ttl_or found (type_word (rtype_of fields) ∷ value)) ttl_is);
    is_after = sym (ap (λ (found : Option ℕ). after_ttl_or found (type_word (rtype_of fields) ∷ value)) ttl_is);
  }

  ttl_stays : in_31_bits ttl ≡ ttl
  ttl_stays = grind (arith, nat_tests)

  value_stays : Ok (value_at, line_words)
      ≡ outcome_at value_at
      (completed_data (text_of_name defaults.origin) value_at (rtype_of fields)
      (zone_name_text owner ∷ decimal (in_31_bits ttl) ∷ class_word class ∷ type_word (rtype_of fields) ∷ []) value)
  value_stays =
      let head = λ (n : ℕ). let words : Texts = zone_name_text owner ∷ decimal n ∷ class_word class ∷ type_word (rtype_of fields) ∷ [] in words in
      sym (ap (λ (n : ℕ). outcome_at value_at (completed_data (text_of_name defaults.origin) value_at (rtype_of fields) (head n) value)) ttl_stays
      ∙ ap (outcome_at value_at) (data_complete (text_of_name defaults.origin) value_at (head ttl) value fields bytes printed))

  after_is : IsAfterOwner defaults (length line_words) (zone_name_text owner) after_owner (Ok (value_at, line_words))
  after_is = record {
    ttl = Some ttl;
    class = Some class;
    after = type_word (rtype_of fields) ∷ value;
    is_head = head_is;
    is_tail = (Some (rtype_of fields), type_read (rtype_of fields) r, value_stays);
  }

  abbrev line_outcome : Outcome
  line_outcome = Ok (value_at, line_words)

  -- It has these words.
  line_is : IsName owner → IsLine defaults true line_words (Ok (value_at, line_words))
  line_is is =
      let complete = name_complete (text_of_name defaults.origin) owner (some_word (zone_name_text owner) (name_word owner is)) in
      subst
      (λ (found : Option (List ℕ)). MatchResult (owner_or Relative after_owner found)
      (λ taken. IsAfterOwner defaults (length line_words) taken.0 taken.1 (Ok (value_at, line_words))) (λ problem. line_outcome ≡ Err problem))
      (sym complete) after_is

-- A printed record is read as a line.
pub lines_are_read : PrintedRecordsAreRead → RecordsSplit → FieldsAreAll → DataSplits → PrintedLinesAreRead
lines_are_read again records all splits defaults owner class ttl fields (Ok words) is bytes c t r octets split =
    let short : ttl < 2 ^ 32 = omega arith in
    let value = splits fields (subst IsBytes (sym (all fields)) octets) in
    let own = records owner ttl class (rtype_of fields) (data_line fields) value.0 is short c r value.2 in
    let same = one_list (record_text (zone_name_text owner) ttl class (rtype_of fields) (data_line fields)) _ (texts words.items) own split in
    let read = again owner class ttl fields (Ok words) is bytes c short r octets split in
    let at = value_at defaults owner class ttl fields value.0 c t r octets value.1 in
    let line = line_is defaults owner class ttl fields value.0 c t r octets value.1 is in
    (at, words.items, subst (λ (ts : Texts). IsLine defaults true ts (Ok (at, ts))) same line, read.is)
lines_are_read again records all splits defaults owner class ttl fields (Err error) is bytes c t r octets split =
    again owner class ttl fields (Err error) is bytes c (omega arith) r octets split
