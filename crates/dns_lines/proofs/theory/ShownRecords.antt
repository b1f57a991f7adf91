-- The lines of records, and what is known of the RDATA of a record that was read.
use Rattle.std.proofs.Common.{[], ◌≡◌, ◌∙◌, ℕ, ◌≤◌, List, ◌∷◌, ◌++◌, length, length-drop, append_assoc, ap, sym, refl, subst, arith, codes, le-leb, IfOk, Some, None, Ok, Err, Result}
use Rattle.std.proofs.lemmas.List.{length-take-le}
use Rattle.std.specs.Fmt.{◌++?◌}
use Rattle.std.specs.Prelude.{Option, option_map, IsOk}
use Rattle.std.specs.Option.{option_and_then}
use Rattle.dns_name.specs.Names.{Fault, fault_of}
use Rattle.dns_name.specs.NameTexts.{name_text}
use Rattle.dns_name.specs.ParsedName.{labels}
use Rattle.dns_wire.specs.Parts.{Part}
use Rattle.dns_octets.specs.declared.error.ParseError.{ParseError}
use Rattle.dns_name.specs.declared.parsed_name.ParsedName.{ParsedName}
use Rattle.dns_data.specs.Layout.{Layout}
use Rattle.dns_data.specs.UnknownData.{opaque_layout}
use Rattle.dns_item.specs.Items.{ReadsRecord}
use Rattle.dns_item.specs.ParsedData.{HasSpan}
use Rattle.dns_item.specs.ParsedData.IsParsedData.{whole, fault}
use Rattle.dns_item.proofs.theory.TypedLemmas.{data_is_parsed}
use Rattle.dns_item.specs.ParsedRecord.{EncodedRecord, encoded_record, parsed_entry}
use Rattle.dns_item.specs.declared.parsed_record.ParsedRecord.{ParsedRecord}
use Rattle.dns_read.specs.RecordSection.{MovesPastRecord, position}
use Rattle.dns_read.specs.declared.record_section.RecordSection.{RecordSection}
use Rattle.dns_item.specs.RecordPrinting.{record_fields_text}
use Rattle.dns_item.specs.RecordReading.{up_to_rdata_end, ReturnsLaidOut, HasData, HasDataFault, IsRecordOf, GivesTaken}
use Rattle.dns_item.specs.RecordReading.WholeDataFaultAt.{first, left_over}
use Rattle.dns_item.specs.Record.{owner_of, class_of, ttl_of, data_of}
use Rattle.dns_item.specs.declared.record.Record.{Record}
use Rattle.std.specs.Result.{result_ok}
use Rattle.dns_lines.specs.Show.{line, IsRead, HasShortData, data_parts}

-- a word, a space and a text are printed as a line
pub printed_item : (word text : List ℕ) → Some word ++? (Some (codes " ") ++? (Some text ++? Some (10 ∷ []))) ≡ Some (line (word ++ codes " " ++ text))
printed_item word text = ap Some (simp append_assoc)

module _ (x : EncodedRecord) (read : IsRead x) where
  -- the RDATA of a record that can be read ends within the octets
  pub there : x.entry.rdata_end ≤ length x.octets
  there = let w = read.2.skips.within in let e = read.2.rdata_end in omega arith

  -- the RDATA of a record that can be read doesn't end before its start
  pub rises : x.entry.rdata_start ≤ x.entry.rdata_end
  rises = let e = read.2.rdata_end in let s = read.2.rdata_start in let w = read.2.skips.end in omega arith

  -- the octets up to the end of the RDATA are all there
  pub seen_length : length (up_to_rdata_end x.octets x.entry) ≡ x.entry.rdata_end
  seen_length = length-take-le x.entry.rdata_end x.octets there

  -- the RDATA of a record that can be read is a range within the octets
  pub span : HasSpan x
  span = record { start = rises; end = there }

  -- the parts of well-formed RDATA
  pub parts_there : (layout : Layout) (parts : List Part) → HasData x.octets x.entry layout parts → data_parts x layout ≡ Some parts
  parts_there layout parts h = ap result_ok (data_is_parsed.only x layout (Ok parts) (whole span h))

  -- malformed RDATA has no parts
  pub parts_missing : (layout : Layout) (f : Fault) → HasDataFault x.octets x.entry layout f → data_parts x layout ≡ None
  parts_missing layout f h = ap result_ok (data_is_parsed.only x layout (Err f) (fault span h))

  -- opaque RDATA of at most 65,535 octets is well-formed
  pub no_fault : HasShortData x → (f : Fault) → HasDataFault x.octets x.entry opaque_layout f → ⊥
  no_fault short f (first h) = h.1 (le-leb _ _ (let l = length-drop x.entry.rdata_start (up_to_rdata_end x.octets x.entry) in let s = seen_length in omega arith))
  no_fault short f (left_over q parts encoded l) = let e = encoded.0 in omega arith

module _ {D : Type 0} (rtype_of : D → ℕ) (parts_of : D → List Part) (x : EncodedRecord) (read : IsRead x) where
  -- reading RDATA of at most 65,535 octets as opaque never fails
  pub opaque_is_ok : HasShortData x → (r : Result (Record ParsedName D) ParseError) → ReturnsLaidOut rtype_of parts_of x.octets x.entry opaque_layout r → IsOk r
  opaque_is_ok short (Ok r) h = refl
  opaque_is_ok short (Err e) h = absurd (no_fault x read short (fault_of e) (h.gives (there x read)))

-- a text made of a known text is printed as a line
pub printed_made : (word : List ℕ) (make : List ℕ → List ℕ) (value : Option (List ℕ)) (text : List ℕ) → value ≡ Some text
    → Some word ++? (Some (codes " ") ++? (option_map make value ++? Some (10 ∷ []))) ≡ Some (line (word ++ codes " " ++ make text))
printed_made word make value text is =
    ap (λ (v : Option (List ℕ)). Some word ++? (Some (codes " ") ++? (option_map make v ++? Some (10 ∷ [])))) is ∙ printed_item word (make text)

module _ {D : Type 0} (rtype_of : D → ℕ) (parts_of : D → List Part) (x : EncodedRecord) where
  -- the text of a record, by the fields that were read
  pub same_text : (r : Record ParsedName D) (parts : List Part) → IsRecordOf rtype_of parts_of x.octets x.entry parts r → (text : List ℕ)
      → record_fields_text (name_text (labels (owner_of r))) (ttl_of r) (class_of r) (rtype_of (data_of r)) text
      ≡ record_fields_text (name_text x.entry.owner) x.entry.ttl x.entry.class x.entry.rtype text
  same_text r parts is text = λ i. record_fields_text (name_text (is i).owner) (is i).ttl (is i).class (is i).rtype text

  -- if a record is returned, its type has a layout and its RDATA has parts of this layout
  pub taken_data : (r : Record ParsedName D) (taken : Option Layout) → GivesTaken rtype_of parts_of x.octets x.entry taken (Ok (Some r))
      → (layout : Layout) × (taken ≡ Some layout) × IsRecordOf rtype_of parts_of x.octets x.entry (parts_of (data_of r)) r × HasData x.octets x.entry layout (parts_of (data_of r))
  taken_data r None h = absurd h
  taken_data r (Some layout) h = (layout, refl, h.0, h.1)

  module _ (read : IsRead x) where
    -- if no record is returned, its RDATA has no parts
    pub none_taken : (taken : Option Layout) → GivesTaken rtype_of parts_of x.octets x.entry taken (Ok None) → option_and_then (data_parts x) taken ≡ None
    none_taken None h = refl
    none_taken (Some layout) h = absurd h

    -- if an error is returned, the RDATA has no parts
    pub fault_taken : (e : ParseError) (taken : Option Layout) → GivesTaken rtype_of parts_of x.octets x.entry taken (Err e) → option_and_then (data_parts x) taken ≡ None
    fault_taken e None h = absurd h
    fault_taken e (Some layout) h = parts_missing x read layout (fault_of e) h

-- a record that a cursor yields can be read
pub given_read : (old new : RecordSection) (r : Result ParsedRecord ParseError) → MovesPastRecord old new (Some r) → IfOk r (λ p. IsRead (encoded_record p))
given_read old new (Ok r) h = (position old, position new, subst (λ (b : List ℕ). ReadsRecord b (position old) (position new) (parsed_entry r)) (sym h.1) h.0)
given_read old new (Err e) h = tt

-- what holds of each record that is yielded
pub given_short : (r : Result ParsedRecord ParseError) → ((p : ParsedRecord) → r ≡ Ok p → HasShortData (encoded_record p)) → IfOk r (λ p. HasShortData (encoded_record p))
given_short (Ok r) h = h r refl
given_short (Err e) h = tt
