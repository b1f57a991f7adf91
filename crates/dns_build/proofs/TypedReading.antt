-- A data type reads back the records that were pushed.
use Rattle.std.proofs.Common.{◌≡◌, ◌∙◌, ap, sym, refl, subst, ℕ, List, [], ◌∷◌, map, arith, Bool, true, false}
use Rattle.std.proofs.lemmas.List.Elements.{All-head, All-tail}
use Rattle.std.specs.List.{All, cons_option}
use Rattle.std.specs.Option.{option_map_or}
use Rattle.std.specs.Prelude.{◌==◌, is_some, IfSome, IsOkAnd, IsSomeAnd, if◌then◌else◌, Option, Some, None, option_map, Result, Ok, Err}
use Rattle.std.specs.Result.{result_transpose}
use Rattle.dns_octets.specs.declared.error.ParseError.{ParseError}
use Rattle.dns_name.specs.Names.{Fault}
use Rattle.dns_name.specs.ParsedName.{labels}
use Rattle.dns_name.specs.declared.parsed_name.ParsedName.{ParsedName}
use Rattle.dns_data.specs.Layout.{Layout, IsLaidOut}
use Rattle.dns_data.proofs.theory.EncodedParts.{encoded_parts_read}
use Rattle.dns_wire.specs.Parts.{Part}
use Rattle.dns_item.specs.Items.{RecordItem, RecordEntry, ReadsRecord, ReportsRecord}
use Rattle.dns_item.specs.ParsedData.{HasSpan}
use Rattle.dns_item.specs.ParsedData.IsParsedData.{whole}
use Rattle.dns_item.specs.ParsedRecord.{EncodedRecord}
use Rattle.dns_item.specs.Record.{record_item}
use Rattle.dns_item.specs.RecordReading.{item_of}
use Rattle.dns_item.specs.declared.record.Record.{Record}
use Rattle.dns_item.specs.TypedRecords.{with_parts, laid_out, parsed_as, typed_result}
use Rattle.dns_item.proofs.theory.TypedLemmas.{data_is_parsed, laid_out-returned, parsed_as-returned}
use Rattle.dns_read.specs.AnyRecordIter.{every}
use Rattle.dns_read.specs.Limited.{in_class_in, limited}
use Rattle.dns_read.specs.RecordsFrom.{records_in}
use Rattle.dns_read.specs.Sections.{record_count, StartsAt, ReadingRecords}
use Rattle.dns_read.specs.declared.section.Section.{Section}
use Rattle.dns_read.specs.declared.section.Section.TheVariants.{Answer, Authority, Additional}
use Rattle.dns_read.specs.SectionStarts.{records_of}
use Rattle.dns_read.proofs.theory.SectionStartLemmas.{start_found}
use Rattle.dns_build.specs.MessageOf.{AllReported, GivesRecords, ReadsBack}
use Rattle.dns_build.specs.State.{State}
use Rattle.dns_build.specs.TypedReading.{pushed, IsLaidOutBy, IsTakenBy, taken, TypedRecordsReadBack, AnyRecordsReadBack, EncodedAs, AllEncodedAs}
use Rattle.dns_build.specs.TypedReading.{PushedRecordsAreEncoded, of_class_in, TypedRecordsInReadBack, ToRecordReadsBack, ToAnyRecordReadsBack}
use Rattle.dns_build.proofs.OptReading.{items_of, records_in-entries, first_read}

-- the start of a section, and its records from there
section_read : (s : State) (b : List ℕ) (which : Section) → ReadsBack s b → (p : ℕ) × StartsAt which b p × GivesRecords b (record_count which b) p (pushed which s)
section_read s b Answer h = (h.answers_start, h.answers_at, h.answers)
section_read s b Authority h = (h.authorities_start, h.authorities_at, h.authorities)
section_read s b Additional h = (h.additionals_start, h.additionals_at, h.additionals)

-- a section with a start and these records is read as its entries
section_is : (b : List ℕ) (which : Section) (p : ℕ) (xs : List RecordItem) → StartsAt which b p → (list : GivesRecords b (record_count which b) p xs) → records_of which b ≡ items_of b list.entries
section_is b which p xs start list =
    ap (λ (o : Option ℕ). option_map_or (records_in b (record_count which b)) o []) (start_found which b p start)
    ∙ records_in-entries b (record_count which b) p list.entries list.reading

-- a record with the fields and the parts of another is that record
same_record : (e : RecordEntry) (x : RecordItem) → e.owner ≡ x.owner → e.rtype ≡ x.rtype → e.class ≡ x.class → e.ttl ≡ x.ttl → item_of e x.parts ≡ x
same_record e x owner rtype class ttl = λ i. record { owner = owner i; rtype = rtype i; class = class i; ttl = ttl i; parts = x.parts }

-- an entry that was read as the pushed record `x`
module _ (x : RecordItem) (b : List ℕ) (p q : ℕ) (e : RecordEntry) (reads : ReadsRecord b p q e) (reports : ReportsRecord b e x) where
  -- its RDATA is within the octets
  data_within : HasSpan (record { octets = b; entry = e })
  data_within =
      let start = reads.rdata_start in
      let end = reads.rdata_end in
      let size = reads.skips.end in
      let within = reads.skips.within in
      record { start = omega arith; end = omega arith }

  -- each layout that accepts the parts reads `x`
  reported : (layout : Layout) → IsLaidOut layout x.parts → laid_out (record { octets = b; entry = e }) layout ≡ Ok x
  reported layout fits_layout =
      let represents = encoded_parts_read b e.rdata_end e.rdata_start layout x.parts data_within.end reports.parts fits_layout in
      ap (with_parts e) (data_is_parsed.only (record { octets = b; entry = e }) layout (Ok x.parts) (whole data_within represents))
      ∙ ap (λ (y : RecordItem). let r : Result RecordItem Fault = Ok y in r) (same_record e x reports.owner reports.rtype reports.class reports.ttl)

  encoded_as : EncodedAs b x (record { octets = b; entry = e })
  encoded_as = record { octets = refl; there = data_within; parts = reports.parts; item = same_record e x reports.owner reports.rtype reports.class reports.ttl; outcome = reported }

-- the same for all records
all_encoded_as : (xs : List RecordItem) (b : List ℕ) (n p : ℕ) (entries : List RecordEntry) → ReadingRecords b n p (map Ok entries) → AllReported b entries xs
    → AllEncodedAs b xs (items_of b entries)
all_encoded_as [] b n p [] reading report = tt
all_encoded_as [] b n p (e ∷ entries) reading report = absurd report
all_encoded_as (x ∷ xs) b n p [] reading report = absurd report
all_encoded_as (x ∷ xs) b n p (e ∷ entries) reading report =
    let r = first_read reading in
    (encoded_as x b p r.1 e r.2 report.0, all_encoded_as xs b r.0 r.1 entries r.3 report.1)

-- Each pushed record reads back in its section.
pub pushed_records_are_encoded : PushedRecordsAreEncoded
pushed_records_are_encoded s b h which =
    let found = section_read s b which h in
    subst (AllEncodedAs b (pushed which s)) (sym (section_is b which found.0 (pushed which s) found.1 found.2))
    (all_encoded_as (pushed which s) b (record_count which b) found.0 found.2.entries found.2.reading found.2.report)

module _ (layouts : ℕ → Option Layout) (b : List ℕ) where
  -- what a data type yields of such a record
  parsed : (x : RecordItem) (encoded : EncodedRecord) → EncodedAs b x encoded → IsLaidOutBy layouts x
      → parsed_as layouts encoded ≡ option_map (λ (layout : Layout). let r : Result RecordItem Fault = Ok x in r) (layouts x.rtype)
  parsed x encoded h fits_layout =
      ap (λ (y : RecordItem). option_map (laid_out encoded) (layouts y.rtype)) h.item ∙ by (layouts x.rtype) fits_layout
    where
      by : (o : Option Layout) → IfSome o (λ layout. IsLaidOut layout x.parts)
          → option_map (laid_out encoded) o ≡ option_map (λ (layout : Layout). let r : Result RecordItem Fault = Ok x in r) o
      by None fits_layout = refl
      by (Some layout) fits_layout = ap (λ (r : Result RecordItem Fault). Some r) (h.outcome layout fits_layout)

  -- the first of the records that the data type accepts
  first_taken : (x : RecordItem) (xs : List RecordItem) (o : Option Layout)
      → cons_option (option_map (λ (layout : Layout). let r : Result RecordItem Fault = Ok x in r) o) (map Ok xs) ≡ map Ok (if is_some o then x ∷ xs else xs)
  first_taken x xs None = refl
  first_taken x xs (Some layout) = refl

  -- what it yields of all records
  all_parsed : (xs : List RecordItem) (items : List (Result EncodedRecord Fault)) → AllEncodedAs b xs items → All (IsLaidOutBy layouts) xs
      → limited layouts items ≡ map Ok (taken layouts xs)
  all_parsed [] [] h fits_layout = refl
  all_parsed [] (item ∷ items) h fits_layout = absurd h
  all_parsed (x ∷ xs) [] h fits_layout = absurd h
  all_parsed (x ∷ xs) (Err f ∷ items) h fits_layout = absurd h.0
  all_parsed (x ∷ xs) (Ok encoded ∷ items) h fits_layout =
      let here = parsed x encoded h.0 (All-head (IsLaidOutBy layouts) x xs fits_layout) in
      let others = all_parsed xs items h.1 (All-tail (IsLaidOutBy layouts) x xs fits_layout) in
      (λ i. cons_option (here i) (others i)) ∙ first_taken x (taken layouts xs) (layouts x.rtype)

-- Records of one type that were pushed are those that a search for the type gives.
pub typed_records_read_back : TypedRecordsReadBack
typed_records_read_back s b h which layouts fits_layout =
    all_parsed layouts b (pushed which s) (records_of which b) (pushed_records_are_encoded s b h which) fits_layout

-- a data type that accepts every type accepts all records
all_taken : (layouts : ℕ → Layout) (xs : List RecordItem) → taken (every layouts) xs ≡ xs
all_taken layouts [] = refl
all_taken layouts (x ∷ xs) = ap (λ (ys : List RecordItem). x ∷ ys) (all_taken layouts xs)

-- A data type that accepts every record type gives all records of the section.
pub any_records_read_back : AnyRecordsReadBack
any_records_read_back s b h which layouts fits_layout =
    typed_records_read_back s b h which (every layouts) fits_layout ∙ ap (λ (xs : List RecordItem). map Ok xs) (all_taken layouts (pushed which s))

-- the records of class IN are there as they were pushed
in_class_encoded : (b : List ℕ) (xs : List RecordItem) (items : List (Result EncodedRecord Fault)) → AllEncodedAs b xs items → AllEncodedAs b (of_class_in xs) (in_class_in items)
in_class_encoded b [] [] h = tt
in_class_encoded b [] (item ∷ items) h = absurd h
in_class_encoded b (x ∷ xs) [] h = absurd h
in_class_encoded b (x ∷ xs) (Err f ∷ items) h = absurd h.0
in_class_encoded b (x ∷ xs) (Ok encoded ∷ items) h =
    let class : encoded.entry.class ≡ x.class = ap (λ (y : RecordItem). y.class) h.0.item in
    let others = in_class_encoded b xs items h.1 in
    let item : Result EncodedRecord Fault = Ok encoded in
    subst (λ (n : ℕ). AllEncodedAs b (of_class_in (x ∷ xs)) (if n == 1 then item ∷ in_class_in items else in_class_in items)) (sym class) (by (x.class == 1) others)
  where
    by : (t : Bool) → AllEncodedAs b (of_class_in xs) (in_class_in items)
        → (let item : Result EncodedRecord Fault = Ok encoded in AllEncodedAs b (if t then x ∷ of_class_in xs else of_class_in xs) (if t then item ∷ in_class_in items else in_class_in items))
    by true others = (h.0, others)
    by false others = others

-- The same if records of classes other than IN are skipped.
pub typed_records_in_read_back : TypedRecordsInReadBack
typed_records_in_read_back s b h which layouts fits_layout =
    all_parsed layouts b (of_class_in (pushed which s)) (in_class_in (records_of which b))
    (in_class_encoded b (pushed which s) (records_of which b) (pushed_records_are_encoded s b h which)) fits_layout

module _ {D : Type 0} (rtype_of : D → ℕ) (parts_of : D → List Part) where
  -- a result that says the record `x` is a record that says it
  is_record : (x : RecordItem) (result : Result (Record ParsedName D) ParseError) → typed_result rtype_of parts_of result ≡ Ok x
      → IsOkAnd result (λ r. record_item labels rtype_of parts_of r ≡ x)
  is_record x (Ok r) is = let item = record_item labels rtype_of parts_of r in let same : Ok item ≡ Ok x = is in cc
  is_record x (Err e) is = absurd (cc)

  is_taken : (x : RecordItem) (result : Result (Option (Record ParsedName D)) ParseError) → option_map (typed_result rtype_of parts_of) (result_transpose result) ≡ Some (Ok x)
      → IsOkAnd result (λ o. IsSomeAnd o (λ r. record_item labels rtype_of parts_of r ≡ x))
  is_taken x (Ok None) is = absurd (cc)
  is_taken x (Ok (Some r)) is = is_record x (Ok r) (let outcome = typed_result rtype_of parts_of (Ok r) in let same : Some outcome ≡ Some (Ok x) = is in cc)
  is_taken x (Err e) is = absurd (cc)

  -- what the layout of a record's type reads
  one_taken : (layouts : ℕ → Option Layout) (b : List ℕ) (x : RecordItem) (encoded : EncodedRecord) → EncodedAs b x encoded → IsTakenBy layouts x
      → parsed_as layouts encoded ≡ Some (Ok x)
  one_taken layouts b x encoded h fits_layout = ap (λ (y : RecordItem). option_map (laid_out encoded) (layouts y.rtype)) h.item ∙ by (layouts x.rtype) fits_layout
    where
      by : (o : Option Layout) → IsSomeAnd o (λ layout. IsLaidOut layout x.parts) → option_map (laid_out encoded) o ≡ Some (Ok x)
      by None fits_layout = absurd fits_layout
      by (Some layout) fits_layout = ap (λ (r : Result RecordItem Fault). Some r) (h.outcome layout fits_layout)

  -- if a data type accepts the type of a pushed record and lays out its parts, the record is read as it was pushed
  pub to_record_reads_back : (layouts : ℕ → Option Layout) → ToRecordReadsBack rtype_of parts_of layouts
  to_record_reads_back layouts b x encoded result h fits_layout returned =
      is_taken x result (parsed_as-returned rtype_of parts_of encoded h.there (layouts encoded.entry.rtype) result returned ∙ one_taken layouts b x encoded h fits_layout)

  -- if a data type that accepts every type lays out the parts of a pushed record, the record is read as it was pushed
  pub to_any_record_reads_back : (layouts : ℕ → Layout) → ToAnyRecordReadsBack rtype_of parts_of layouts
  to_any_record_reads_back layouts b x encoded result h fits_layout returned =
      is_record x result
      (laid_out-returned rtype_of parts_of encoded h.there (layouts encoded.entry.rtype) result returned
      ∙ ap (λ (y : RecordItem). laid_out encoded (layouts y.rtype)) h.item ∙ h.outcome (layouts x.rtype) fits_layout)
