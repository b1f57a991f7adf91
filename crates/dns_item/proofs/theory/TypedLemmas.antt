-- Reading the RDATA of a record returns what the RDATA type's layout says.
use Rattle.std.proofs.Common.{◌≡◌, ◌∙◌, ap, sym, refl, ℕ, ◌≤◌, List, inl, inr, length, arith}
use Rattle.std.proofs.lemmas.Bool.Decides.{leb_tells}
use Rattle.std.specs.Prelude.{Option, None, Some, option_map, Result, Ok, Err}
use Rattle.std.specs.Result.{result_transpose}
use Rattle.dns_name.specs.Names.{Fault, fault_of}
use Rattle.dns_name.specs.declared.parsed_name.ParsedName.{ParsedName}
use Rattle.dns_octets.specs.declared.error.ParseError.{ParseError}
use Rattle.dns_wire.specs.Parts.{Part}
use Rattle.dns_data.specs.Layout.{Layout}
use Rattle.dns_item.specs.ParsedData.{HasSpan, one_parsed_data}
use Rattle.dns_item.specs.ParsedData.IsParsedData.{whole, fault, missing}
use Rattle.dns_item.specs.Items.{RecordItem}
use Rattle.dns_item.specs.ParsedRecord.{EncodedRecord}
use Rattle.dns_item.specs.Record.{data_of}
use Rattle.dns_item.specs.RecordReading.{GivesLaidOut, GivesTaken, ReturnsLaidOut, ReturnsTaken}
use Rattle.dns_item.specs.TypedRecords.{data_in, DataIsParsed, with_parts, laid_out, typed_result}
use Rattle.dns_item.specs.declared.record.Record.{Record}

-- RDATA of this type is read as the value whose parts are encoded there.
pub data_is_parsed : DataIsParsed
unfolding data_in
data_is_parsed = record {
  outcome = λ x layout. (one_parsed_data x layout).some.1;
  only = λ x layout r h. (one_parsed_data x layout).one _ r (one_parsed_data x layout).some.1 h;
}

module _ {D : Type 0} (rtype_of : D → ℕ) (parts_of : D → List Part) (x : EncodedRecord) (span : HasSpan x) where
  -- reading RDATA of the layout returns the record, or the fault
  pub laid_out-given : (layout : Layout) (r : Result (Record ParsedName D) ParseError) → GivesLaidOut rtype_of parts_of x.octets x.entry layout r
      → typed_result rtype_of parts_of r ≡ laid_out x layout
  laid_out-given layout (Ok r) h =
      ap (λ (item : RecordItem). let y : Result RecordItem Fault = Ok item in y) h.0
      ∙ sym (ap (with_parts x.entry) (data_is_parsed.only x layout (Ok (parts_of (data_of r))) (whole span h.1)))
  laid_out-given layout (Err e) h = sym (ap (with_parts x.entry) (data_is_parsed.only x layout (Err (fault_of e)) (fault span h)))

  given : (taken : Option Layout) (r : Result (Option (Record ParsedName D)) ParseError) → GivesTaken rtype_of parts_of x.octets x.entry taken r
      → option_map (typed_result rtype_of parts_of) (result_transpose r) ≡ option_map (laid_out x) taken
  given None (Ok None) h = refl
  given None (Ok (Some r)) h = absurd h
  given None (Err e) h = absurd h
  given (Some layout) (Ok None) h = absurd h
  given (Some layout) (Ok (Some r)) h = ap (λ (y : Result RecordItem Fault). Some y) (laid_out-given layout (Ok r) h)
  given (Some layout) (Err e) h = ap (λ (y : Result RecordItem Fault). Some y) (laid_out-given layout (Err e) h)

  -- the same of a record whose RDATA is all there
  pub laid_out-returned : (layout : Layout) (r : Result (Record ParsedName D) ParseError) → ReturnsLaidOut rtype_of parts_of x.octets x.entry layout r
      → typed_result rtype_of parts_of r ≡ laid_out x layout
  laid_out-returned layout r h = laid_out-given layout r (h.gives span.end)

  -- the same for a type that may not be accepted: the result is what its layout says, or `None` without a layout
  pub parsed_as-returned : (taken : Option Layout) (r : Result (Option (Record ParsedName D)) ParseError) → ReturnsTaken rtype_of parts_of x.octets x.entry taken r
      → option_map (typed_result rtype_of parts_of) (result_transpose r) ≡ option_map (laid_out x) taken
  parsed_as-returned taken r h = given taken r (h.gives span.end)

-- the same also if the RDATA is incomplete
pub laid_out-read : {D : Type 0} (rtype_of : D → ℕ) (parts_of : D → List Part) (x : EncodedRecord) (layout : Layout) (r : Result (Record ParsedName D) ParseError)
    → x.entry.rdata_start ≤ x.entry.rdata_end → ReturnsLaidOut rtype_of parts_of x.octets x.entry layout r → typed_result rtype_of parts_of r ≡ laid_out x layout
laid_out-read rtype_of parts_of x layout r start h =
    elim (leb_tells x.entry.rdata_end (length x.octets)) [
      | inl there ↦ laid_out-returned rtype_of parts_of x (record { start = start; end = there.1 }) layout r h
      | inr short ↦
          ap (typed_result rtype_of parts_of) (h.missing (λ within. omega (arith, within, short.1)))
          ∙ sym (ap (with_parts x.entry) (data_is_parsed.only x layout _ (missing (λ (span : HasSpan x). omega (arith, span.end, short.1)))))
    ]
