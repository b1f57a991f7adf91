-- A pushed OPT record reads back.
use Rattle.std.proofs.Common.{◌≡◌, ◌∙◌, ap, sym, refl, subst, ℕ, ◌+◌, ◌*◌, ◌/◌, ◌%◌, ◌-◌, ◌<◌, Bool, true, false, List, [], ◌∷◌, ◌++◌, length, map, take, drop, arith, rules, tests}
use Rattle.std.proofs.lemmas.Grind.{common_steps}
use Rattle.std.proofs.lemmas.List.{drop-take}
use Rattle.std.proofs.lemmas.List.Elements.{All-head, All-tail}
use Rattle.std.specs.List.{cons_option}
use Rattle.std.specs.Option.{option_map_or}
use Rattle.std.specs.Prelude.{◌==◌, if◌then◌else◌, IsTrue, Option, Some, None, option_map, option_and_then, Result, Ok}
use Rattle.dns_name.specs.Names.{Fault}
use Rattle.dns_wire.specs.Parts.{Part, PartsAt}
use Rattle.dns_wire.specs.Parts.Part.{Octets}
use Rattle.dns_code.specs.Header.{HeaderFields}
use Rattle.dns_code.proofs.theory.HeaderOctets.{fields_in-take}
use Rattle.dns_edns.specs.OptHeader.{OptFields, ttl_in, fields_in as opt_fields_in}
use Rattle.dns_edns.specs.Options.{OptionItem, encode_options}
use Rattle.dns_edns.specs.OptionsOf.{options_of}
use Rattle.dns_edns.proofs.theory.OptionsLemmas.{options_of-is}
use Rattle.dns_edns_builder.specs.Gathered.{Gathered, IsGathered}
use Rattle.dns_data.specs.Opt.{is_opt_data, opt_layout}
use Rattle.dns_data.specs.RecordData.{only}
use Rattle.dns_item.specs.Items.{RecordItem, RecordEntry, ReadsRecord, ReportsRecord}
use Rattle.dns_item.specs.ParsedData.{HasSpan}
use Rattle.dns_item.specs.ParsedData.IsParsedData.{whole}
use Rattle.dns_item.specs.ParsedRecord.{EncodedRecord}
use Rattle.dns_item.specs.RecordReading.{item_of, HasData}
use Rattle.dns_item.specs.TypedRecords.{with_parts, laid_out, parsed_as}
use Rattle.dns_item.proofs.theory.TypedLemmas.{data_is_parsed}
use Rattle.dns_read.specs.Limited.{limited}
use Rattle.dns_read.specs.Reading.Reading.{entry}
use Rattle.dns_read.specs.RecordsFrom.{in_octets, records_in}
use Rattle.dns_read.specs.Sections.{additional_count, ReadingRecords}
use Rattle.dns_read.specs.declared.section.Section.TheVariants.{Additional}
use Rattle.dns_read.proofs.theory.RecordsFromLemmas.{records_from_are_read}
use Rattle.dns_read.specs.OptSearches.{first_opt_in, opt_said, opt_of, extended_rcode}
use Rattle.dns_read.specs.Searches.{first_value}
use Rattle.dns_read.specs.SectionStarts.{records_of}
use Rattle.dns_read.proofs.theory.SectionStartLemmas.{start_found}
use Rattle.dns_build.specs.MessageOf.{AllReported, ReadsBack}
use Rattle.dns_build.specs.Opt.{opt_record}
use Rattle.dns_build.specs.OptReading.{said, HasNoOpt, OptsReadBack}
use Rattle.dns_build.specs.State.{State}
use Rattle.dns_build.proofs.OptLemmas.{same_item}

-- entries that were read from octets, as the items of a reading
abbrev pub items_of : List ℕ → List RecordEntry → List (Result EncodedRecord Fault)
items_of b entries = let read : List (Result RecordEntry Fault) = map Ok entries in map (in_octets b) read

-- a reading without a fault is the one reading at its offset
pub records_in-entries : (b : List ℕ) (n p : ℕ) (entries : List RecordEntry) → ReadingRecords b n p (map Ok entries) → records_in b n p ≡ items_of b entries
unfolding records_in
records_in-entries b n p entries reading = ap (map (in_octets b)) ((records_from_are_read b).only n p (map Ok entries) reading)

-- the additional section of octets that read back is read as its entries
additionals_read : (s : State) (b : List ℕ) (h : ReadsBack s b) → records_of Additional b ≡ items_of b h.additionals.entries
additionals_read s b h =
    ap (λ (o : Option ℕ). option_map_or (records_in b (additional_count b)) o []) (start_found Additional b h.additionals_start h.additionals_at)
    ∙ records_in-entries b (additional_count b) h.additionals_start h.additionals.entries h.additionals.reading

-- a reading that begins with an entry reads it at its offset, and the remaining items after it
pub first_read : {b : List ℕ} {n p : ℕ} {e : RecordEntry} {xs : List (Result RecordEntry Fault)} → ReadingRecords b n p (Ok e ∷ xs)
    → (m : ℕ) × (q : ℕ) × ReadsRecord b p q e × ReadingRecords b m q xs
first_read (entry {n = n} {q = q} reads rest) = (n, q, reads, rest)

-- octets that fill the RDATA are all octets from its start to its end
data_filled : (b : List ℕ) (start end : ℕ) (octets : List ℕ) → PartsAt b end start (Octets octets ∷ []) → drop start (take end b) ≡ octets
data_filled b start end octets h =
    let size : length octets ≡ start + length octets - start = omega arith in
    ap (λ (n : ℕ). drop start (take n b)) (sym h.1) ∙ drop-take start (length octets) b ∙ ap (λ (n : ℕ). take n (drop start b)) size ∙ h.0

-- gathered options are valid RDATA of an OPT record
gathered_accepted : (g : Gathered) → IsGathered g → IsTrue (is_opt_data (encode_options g.options))
gathered_accepted g ok =
    let e : options_of (encode_options g.options) ≡ Some g.options = options_of-is (encode_options g.options) g.options ok.listed in
    let short = ok.short in
    rw e (search (rules, tests))

-- an entry that was read as the OPT record of `g`
module _ (g : Gathered) (b : List ℕ) (p q : ℕ) (e : RecordEntry) (ok : IsGathered g) (reads : ReadsRecord b p q e) (reports : ReportsRecord b e (opt_record g)) where
  -- the entry with the octets that it is read from
  abbrev encoded : EncodedRecord
  encoded = record { octets = b; entry = e }

  -- its RDATA is within the octets
  data_within : HasSpan encoded
  data_within =
      let filled = reports.parts.1 in
      let end = reads.rdata_end in
      let within = reads.skips.within in
      record { start = omega arith; end = omega arith }

  -- its RDATA is the options, by the layout of OPT
  data_at : HasData b e opt_layout (Octets (encode_options g.options) ∷ [])
  data_at =
      let filled = data_filled b e.rdata_start e.rdata_end (encode_options g.options) reports.parts in
      let within = data_within.end in
      let end : e.rdata_end ≡ length (take e.rdata_end b) = grind (arith, common_steps) in
      (end, ap (λ (octets : List ℕ). Octets octets ∷ []) (sym filled), rw filled (gathered_accepted g ok))

  -- so `Opt` reads it as the record that was pushed
  opt_parsed : parsed_as (only 41 opt_layout) encoded ≡ Some (Ok (opt_record g))
  opt_parsed =
      let parts : List Part = Octets (encode_options g.options) ∷ [] in
      ap (λ (rtype : ℕ). option_map (laid_out encoded) (only 41 opt_layout rtype)) reports.rtype
      ∙ ap (λ (r : Result (List Part) Fault). Some (with_parts e r)) (data_is_parsed.only encoded opt_layout (Ok parts) (whole data_within data_at))
      ∙ ap (λ (x : RecordItem). let r : Result RecordItem Fault = Ok x in Some r) (same_item (item_of e parts) g reports.owner reports.rtype reports.class reports.ttl refl)

-- `Opt` skips a record of another type
others_not_parsed : (x : EncodedRecord) → (x.entry.rtype ≡ 41 → ⊥) → parsed_as (only 41 opt_layout) x ≡ None
others_not_parsed x other =
    let e : (x.entry.rtype == 41) ≡ false = search (rules, tests) in
    ap (λ (t : Bool). option_map (laid_out x) (if t then Some opt_layout else None)) e

-- the first value that `Opt` yields, by what it yields of the first record
abbrev first_by : List ℕ → List RecordEntry → Option (Result RecordItem Fault) → Option RecordItem
first_by b entries outcome = first_value (cons_option outcome (limited (only 41 opt_layout) (items_of b entries)))

-- the first OPT record after records of other types is the one that was pushed
first_reported : (g : Gathered) (b : List ℕ) (n p : ℕ) (xs ys : List RecordItem) (entries : List RecordEntry) → IsGathered g → HasNoOpt xs → ReadingRecords b n p (map Ok entries)
    → AllReported b entries (xs ++ opt_record g ∷ ys) → first_opt_in (items_of b entries) ≡ Some (opt_record g)
first_reported g b n p [] ys [] ok none reading report = absurd report
first_reported g b n p (x ∷ xs) ys [] ok none reading report = absurd report
first_reported g b n p [] ys (e ∷ entries) ok none reading report =
    let r = first_read reading in
    ap (first_by b entries) (opt_parsed g b p r.1 e ok r.2 report.0)
first_reported g b n p (x ∷ xs) ys (e ∷ entries) ok none reading report =
    let r = first_read reading in
    let other = λ (is : e.rtype ≡ 41). All-head (λ (y : RecordItem). y.rtype ≡ 41 → ⊥) x xs none (sym report.0.rtype ∙ is) in
    ap (first_by b entries) (others_not_parsed (record { octets = b; entry = e }) other)
    ∙ first_reported g b r.0 r.1 xs ys entries ok (All-tail (λ (y : RecordItem). y.rtype ≡ 41 → ⊥) x xs none) r.3 report.1

-- the numbers of which a TTL was made are read from it; that of DO is 0 or 1
numbers_read : (size ext version dnssec z : ℕ) → version < 256 → dnssec < 2 → z < 32768
    → opt_fields_in size (ext * 16777216 + version * 65536 + dnssec * 32768 + z) ≡ record { udp_payload_size = size; ext = ext; version = version; dnssec_ok = dnssec == 1; z = z }
numbers_read size ext version dnssec z version_fits dnssec_fits z_fits =
    let ttl = ext * 16777216 + version * 65536 + dnssec * 32768 + z in
    let ext_read : ttl / 16777216 ≡ ext = omega arith in
    let version_read : ttl / 65536 % 256 ≡ version = omega arith in
    let dnssec_read : ttl / 32768 % 2 ≡ dnssec = omega arith in
    let z_read : ttl % 32768 ≡ z = omega arith in
    λ i. record { udp_payload_size = size; ext = ext_read i; version = version_read i; dnssec_ok = dnssec_read i == 1; z = z_read i }

-- so are the fields of an OPT record
fields_read : (f : OptFields) → f.version < 256 → f.z < 32768 → opt_fields_in f.udp_payload_size (ttl_in f) ≡ f
fields_read f version z =
    elim f.dnssec_ok as (λ (set : Bool). let g = record f { dnssec_ok = set } in opt_fields_in g.udp_payload_size (ttl_in g) ≡ g) [
      | true ↦ numbers_read f.udp_payload_size f.ext f.version 1 f.z version (omega arith) z
      | false ↦ numbers_read f.udp_payload_size f.ext f.version 0 f.z version (omega arith) z
    ]

-- the OPT record of `g` says the fields and options of `g`
said_gathered : (g : Gathered) → IsGathered g → opt_said (opt_record g) ≡ Some (said g)
said_gathered g ok =
    let fields = fields_read g.fields ok.version ok.z in
    let options = ap (λ (o : Option (List OptionItem)). option_map_or (λ (xs : List OptionItem). xs) o []) (options_of-is (encode_options g.options) g.options ok.listed) in
    λ i. Some (record { fields = fields i; options = options i })

-- the OPT record that octets give back is the one that was pushed
opt_read : (g : Gathered) (s : State) (b : List ℕ) (xs ys : List RecordItem) → s.additionals ≡ xs ++ opt_record g ∷ ys → IsGathered g → HasNoOpt xs → ReadsBack s b → opt_of b ≡ Some (said g)
opt_read g s b xs ys is ok none h =
    let list = h.additionals in
    let report = subst (λ (items : List RecordItem). AllReported b list.entries items) is list.report in
    ap (λ (items : List (Result EncodedRecord Fault)). option_and_then opt_said (first_opt_in items)) (additionals_read s b h)
    ∙ ap (option_and_then opt_said) (first_reported g b (additional_count b) h.additionals_start xs ys list.entries ok none list.reading report)
    ∙ said_gathered g ok

-- A gathered OPT record that is the first of the additional section reads back.
pub opts_read_back : OptsReadBack
opts_read_back g s b xs ys is ok none h =
    let opt = opt_read g s b xs ys is ok none h in
    let rcode = ap (λ (header : HeaderFields). header.rcode) (fields_in-take b ∙ h.header) in
    (opt, λ i. extended_rcode (opt i) (rcode i))
