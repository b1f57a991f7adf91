-- The last record of a section.
use Rattle.std.proofs.Common.{◌≡◌, ◌∙◌, ℕ, List, [], ◌∷◌, ap, sym}
use Rattle.std.specs.Prelude.{◌≢◌, ◌↔◌, Bool, IsTrue, is_some, MatchOption, Option, Some, None, option_map, option_and_then, Result, Ok, Err, IfOk, IfErr}
use Rattle.std.specs.Result.{result_ok, result_transpose}
use Rattle.dns_name.specs.Names.{Fault, fault_of}
use Rattle.dns_name.specs.ParsedName.{labels}
use Rattle.dns_name.specs.declared.parsed_name.ParsedName.{ParsedName}
use Rattle.dns_octets.specs.declared.error.ParseError.{ParseError}
use Rattle.dns_wire.specs.Parts.{Part}
use Rattle.dns_data.specs.Layout.{Layout}
use Rattle.dns_item.specs.Items.{RecordItem}
use Rattle.dns_item.specs.ParsedData.{HasSpan}
use Rattle.dns_item.specs.ParsedRecord.{octets_of, parsed_entry, encoded_record}
use Rattle.dns_item.specs.RecordReading.{ReturnsTaken}
use Rattle.dns_item.specs.declared.parsed_record.ParsedRecord.{ParsedRecord}
use Rattle.dns_item.proofs.theory.TypedLemmas.{parsed_as-returned}
use Rattle.dns_item.specs.Record.{record_item}
use Rattle.dns_item.specs.TypedRecords.{parsed_as, typed_result}
use Rattle.dns_item.specs.declared.record.Record.{Record}
use Rattle.dns_read.specs.RecordSection.{records_left, BeginsSection}
use Rattle.dns_read.specs.Sections.{AdditionalsFault}
use Rattle.dns_read.specs.declared.record_section.RecordSection.{RecordSection}
use Rattle.dns_read.specs.declared.section.Section.TheVariants.{Additional}
use Rattle.dns_read.specs.SectionStarts.{records_of}
use Rattle.dns_read.specs.RecordSearches.{last_from, last_item, last_record, last_additional}
use Rattle.dns_read.proofs.theory.SectionStartLemmas.{begins_reading, no_reading, no_additionals, begun, not_begun}

-- the last item of a list, after the last item so far
abbrev pub last_after : {X : Type 0} → Option X → List X → Option X
last_after None xs = last_item xs
last_after (Some x) xs = Some (last_from x xs)

module _ (b : List ℕ) where
  -- the last record of the additional section, by a cursor over it
  pub last_read : (r : Result RecordSection ParseError) (cursor : RecordSection) → IfOk r (BeginsSection Additional b) → Some cursor ≡ result_ok r
      → last_record (records_left cursor) ≡ last_record (records_of Additional b)
  last_read r cursor begins is = ap last_record (begins_reading Additional b cursor (begun Additional b r cursor begins is))

  -- there is none if the section has no start
  pub none_last : (layouts : ℕ → Option Layout) (r : Result RecordSection ParseError) → IfErr r (λ e. AdditionalsFault b (fault_of e)) → None ≡ result_ok r → last_additional layouts b ≡ None
  none_last layouts r fault is =
      let f = not_begun (AdditionalsFault b) r fault is in
      ap (λ xs. option_and_then (λ x. option_and_then result_ok (parsed_as layouts x)) (last_record xs)) (no_reading Additional b (no_additionals b f.0 f.1))

-- the value that a data type yields, if there is one
value_given : {D : Type 0} (rtype_of : D → ℕ) (parts_of : D → List Part) (r : Result (Option (Record ParsedName D)) ParseError) (o : Option (Result RecordItem Fault))
    → option_map (typed_result rtype_of parts_of) (result_transpose r) ≡ o
    → option_and_then (option_map (record_item labels rtype_of parts_of)) (result_ok r) ≡ option_and_then result_ok o
value_given rtype_of parts_of (Ok None) o e = ap (option_and_then result_ok) e
value_given rtype_of parts_of (Ok (Some typed)) o e = ap (option_and_then result_ok) e
value_given rtype_of parts_of (Err e) o h = ap (option_and_then result_ok) h

-- the last record with its RDATA, by the result of parsing the RDATA
pub last_given : {D : Type 0} (rtype_of : D → ℕ) (parts_of : D → List Part) (layouts : ℕ → Option Layout) (b : List ℕ) (last : ParsedRecord) (r : Result (Option (Record ParsedName D)) ParseError)
    → Some (encoded_record last) ≡ last_record (records_of Additional b) → HasSpan (encoded_record last)
    → ReturnsTaken rtype_of parts_of (octets_of last) (parsed_entry last) (layouts (parsed_entry last).rtype) r
    → option_and_then (option_map (record_item labels rtype_of parts_of)) (result_ok r) ≡ last_additional layouts b
last_given rtype_of parts_of layouts b last r is span returned =
    let x = encoded_record last in
    value_given rtype_of parts_of r (parsed_as layouts x) (parsed_as-returned rtype_of parts_of x span (layouts x.entry.rtype) r returned)
    ∙ ap (option_and_then (λ y. option_and_then result_ok (parsed_as layouts y))) is

-- an iterator yields something exactly if it has something left
pub some_first : {A B : Type 0} (view : A → B) (o : Option A) (given : Bool) (xs ys rest : List B) → given ≡ is_some o → xs ≡ ys
    → MatchOption o ((xs ≡ []) × (rest ≡ [])) (λ x. xs ≡ view x ∷ rest) → IsTrue given ↔ (ys ≢ [])
some_first view None given xs ys rest is same h = (λ some. absurd (cc), λ any. absurd (any (sym same ∙ h.0)))
some_first view (Some x) given xs ys rest is same h = (λ some empty. absurd (let e = sym h ∙ same ∙ empty in cc), λ any. is)
