-- The texts of the sections of records, printed from cursors.
use Rattle.std.proofs.Common.{◌≡◌, ◌∙◌, ℕ, List, [], ap, sym, append-nil, subst, Some, OnOk, Result}
use Rattle.std.specs.Prelude.{Option}
use Rattle.std.specs.Io.KnownBytes.{Appends}
use Rattle.std.specs.List.{flat_map}
use Rattle.dns_name.specs.Names.{Fault}
use Rattle.dns_item.specs.ParsedRecord.{EncodedRecord}
use Rattle.dns_read.specs.SectionStarts.{start_of}
use Rattle.dns_read.specs.RecordSection.{BeginsSection, position, records_left}
use Rattle.dns_read.specs.RecordsFrom.{records_in}
use Rattle.dns_read.specs.Sections.{record_count}
use Rattle.dns_read.specs.declared.record_section.RecordSection.{RecordSection}
use Rattle.dns_read.specs.declared.section.Section.{Section}
use Rattle.dns_read.specs.declared.section.Section.TheVariants.{Answer, Authority, Additional}
use Rattle.dns_lines.specs.Show.{section_text, sections_text}
use Rattle.dns_lines.proofs.theory.AppendedTexts.{prints_both}

module _ (item_text : Section → Result EncodedRecord Fault → List ℕ) (missing_text : Section → List ℕ) (b : List ℕ) where
  module _ (section : Section) (cursor : RecordSection) (begins : BeginsSection section b cursor) where
    -- the texts of a section are those of its reading
    texts_are : flat_map (item_text section) (records_left cursor) ≡ flat_map (item_text section) (records_in b (record_count section b) (position cursor))
    texts_are = ap (flat_map (item_text section)) begins.fresh.records

    -- a section is printed, and then what follows it
    pub section_printed : {E X : Type 0} (old mid new : Option (List ℕ)) (r : Result X E) (after : List ℕ)
        → Appends old mid (flat_map (item_text section) (records_left cursor)) → OnOk r (Appends mid new after)
        → OnOk r (Appends old new (section_text item_text missing_text b section (Some (position cursor)) after))
    section_printed old mid new r after h k = prints_both old mid new _ _ after r texts_are h k

    -- a section is printed, and nothing after it
    pub last_printed : {E X : Type 0} (old new : Option (List ℕ)) (r : Result X E)
        → OnOk r (Appends old new (flat_map (item_text section) (records_left cursor)))
        → OnOk r (Appends old new (section_text item_text missing_text b section (Some (position cursor)) []))
    last_printed old new r h = subst (λ (l : List ℕ). OnOk r (Appends old new l)) (texts_are ∙ sym (append-nil _)) h

  -- the sections of records are printed, by where they start
  pub sections_printed : {E X : Type 0} (old new : Option (List ℕ)) (r : Result X E) (answers authorities additionals : Option ℕ)
      → start_of Answer b ≡ answers → start_of Authority b ≡ authorities → start_of Additional b ≡ additionals
      → OnOk r (Appends old new
      (section_text item_text missing_text b Answer answers (section_text item_text missing_text b Authority authorities (section_text item_text missing_text b Additional additionals []))))
      → OnOk r (Appends old new (sections_text item_text missing_text b))
  sections_printed old new r answers authorities additionals a c d h =
      subst (λ (text : List ℕ). OnOk r (Appends old new text))
      (sym (λ i. section_text item_text missing_text b Answer (a i) (section_text item_text missing_text b Authority (c i) (section_text item_text missing_text b Additional (d i) [])))) h
