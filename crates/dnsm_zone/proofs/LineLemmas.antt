-- Why words are no RDATA, and the octets of a record that is written.
use Rattle.std.proofs.Common.{◌≡◌, ◌∙◌, ◌⊎◌, inl, inr, ℕ, ◌-◌, ◌≤◌, ◌==◌, Bool, true, false, List, [], ◌∷◌, length, take, drop, ap, subst, sym, refl, arith, length-drop}
use Rattle.std.proofs.lemmas.Bool.{and_parts}
use Rattle.std.proofs.lemmas.Bool.Decides.{Decides-eqb}
use Rattle.std.proofs.lemmas.List.{length-take-le}
use Rattle.std.specs.Prelude.{◌||◌, ◌&&◌, if◌then◌else◌, Result, Ok, Err, IfOk}
use Rattle.std.specs.Global.{Vec}
use Rattle.std.specs.Str.{IsUtf8}
use Rattle.dns_wire.specs.Encoders.{Plain}
use Rattle.dns_wire.specs.Parts.{Part, Octets}
use Rattle.dns_wire.specs.Targets.{Written, append, with_empty_table}
use Rattle.dns_wire.proofs.theory.CompressionTables.{nothing_is_kept}
use Rattle.dns_data.specs.Layout.{DataAt, IsLaidOut}
use Rattle.dns_data.proofs.theory.EncodedParts.{encoded_parts_read}
use Rattle.dns_item.specs.Items.{IsRecord, ReadsRecordItem, RecordItem, encode_record}
use Rattle.dns_item.proofs.theory.ItemLemmas.{records_read_back}
use Rattle.fields_table.specs.FieldData.{type_layout}
use Rattle.fields_table.specs.LaidOut.{laid_out}
use Rattle.fields_table.specs.LayoutTypes.{null_type}
use Rattle.fields_table.specs.Layouts.{layout_of}
use Rattle.fields_table.specs.RecordTypes.{record_types}
use Rattle.fields_table.specs.Table.{definitions_of, kinds_of}
use Rattle.fields_table.specs.UncompressedData.{IsUncompressedData}
use Rattle.fields_text.specs.LineWords.{AreWordsOf, texts}
use Rattle.fields_records.specs.DataWords.{IsDataText, MayBeData}
use Rattle.fields_records.specs.FieldWords.{Words}
use Rattle.fields_records.specs.RecordWords.{IsRecordText}
use Rattle.fields_text.specs.declared.text_error.TextError.{TextError}
use Rattle.fields_text.specs.declared.text_error.TextError.TheVariants.{BadWord, OutOfMemory}
use Rattle.dnsm_status.specs.declared.code.CallError.{CallError}
use Rattle.dnsm_status.specs.declared.code.CallError.TheVariants as faults
use Rattle.dnsm_zone.specs.Lines.{AreNoData, AreRecord, HasFields, HasNoWords, HasWords, octets_of_record, text_fault}

-- the fault that reports why RDATA isn't read, for the type that was asked for
pub no_data : (rtype given : ℕ) (words : Words) (error : TextError) (fault : CallError) → given ≡ rtype → fault ≡ text_fault error
    → ((error ≡ OutOfMemory) × MayBeData given words) ⊎ ((error ≡ BadWord) × ((parts : List Part) → IsDataText given words parts → ⊥))
    → ((fault ≡ faults.NoMemory) × MayBeData rtype words) ⊎ ((fault ≡ faults.BadText) × AreNoData rtype words)
no_data rtype given words error fault same is (inl h) = inl (is ∙ ap text_fault h.0, subst (λ n. MayBeData n words) same h.1)
no_data rtype given words error fault same is (inr h) = inr (is ∙ ap text_fault h.0, subst (λ n. AreNoData n words) same h.1)

-- a record that is written alone reads back
pub alone_reads_back : (x : RecordItem) (octets : List ℕ) → IsRecord x → with_empty_table octets ≡ append (encode_record Plain x) (with_empty_table [])
    → ReadsRecordItem octets 0 (length octets) x
alone_reads_back x octets is written =
    subst (λ (t : Written). ReadsRecordItem t.octets 0 (length t.octets) x) (sym written) (records_read_back Plain (with_empty_table []) x is (nothing_is_kept [])).0

-- the text of words that represent nothing of a kind represents nothing of it
pub line_without : (MayBe Lack : Words → Type 0) (text : List ℕ) (words : Words) (fault : CallError) → IsUtf8 text → AreWordsOf text (texts words)
    → ((fault ≡ faults.NoMemory) × MayBe words) ⊎ ((fault ≡ faults.BadText) × Lack words)
    → ((fault ≡ faults.NoMemory) × IsUtf8 text) ⊎ ((fault ≡ faults.BadText) × (HasNoWords text ⊎ HasWords Lack text))
line_without MayBe Lack text words fault utf8 split (inl h) = inl (h.0, utf8)
line_without MayBe Lack text words fault utf8 split (inr h) = inr (h.0, inr (words, split, h.1))

-- the octets that are left are the field of NULL
null_there : (b : List ℕ) (p : ℕ) → length (drop p b) ≤ 65535 → DataAt b (type_layout null_type) p (length b) (Octets (drop p b) ∷ [])
unfolding layout_of definitions_of record_types
null_there b p few = (omega (arith, few), (refl, refl, refl))

-- the RDATA of a record that was written has the fields of its type
pub has_fields : (octets own : List ℕ) (x : RecordItem) → IsUncompressedData x.rtype own x.parts → (r : ReadsRecordItem octets 0 (length octets) x) → HasFields octets r.entry
has_fields octets own x is r = by (((r.entry.class == 254) || (r.entry.class == 255)) && (r.entry.rdata_end - r.entry.rdata_start == 0)) refl
  where
    by : (c : Bool) → (((r.entry.class == 254) || (r.entry.class == 255)) && (r.entry.rdata_end - r.entry.rdata_start == 0)) ≡ c → HasFields octets r.entry
    by true none =
        let start = r.entry.rdata_start in
        let end = r.entry.rdata_end in
        let seen = take end octets in
        let P : Bool → Type 0 = λ c. DataAt seen (type_layout (if c then null_type else r.entry.rtype)) start end (Octets (drop start seen) ∷ []) in
        let within : end ≤ length octets = omega (arith, r.reads.rdata_end) in
        let empty : end - start ≡ 0 = (Decides-eqb (end - start) 0).0 (and_parts _ _ none).1 in
        let whole : length seen ≡ end = length-take-le end octets within in
        let few : length (drop start seen) ≤ 65535 = omega (arith, length-drop start seen, whole, empty) in
        (Octets (drop start seen) ∷ [], subst P (sym none) (subst (λ q. DataAt seen (type_layout null_type) start q (Octets (drop start seen) ∷ [])) whole (null_there seen start few)))
    by false some =
        let start = r.entry.rdata_start in
        let end = r.entry.rdata_end in
        let seen = take end octets in
        let P : Bool → Type 0 = λ c. DataAt seen (type_layout (if c then null_type else r.entry.rtype)) start end x.parts in
        let fields = is.fields in
        let laid : IsLaidOut (type_layout x.rtype) x.parts = (fields.0, laid_out own (kinds_of x.rtype) 0 (length own) x.parts fields.1) in
        let read = encoded_parts_read octets end start (type_layout x.rtype) x.parts (omega (arith, r.reads.rdata_end)) r.reports.parts laid in
        (x.parts, subst P (sym some) (subst (λ n. DataAt seen (type_layout n) start end x.parts) (sym r.reports.rtype) read))

-- the octets of the record that the words represent, if they were written
pub record_there : (text : List ℕ) (words : Words) (x : RecordItem) (result : Result (Vec ℕ) CallError) → AreWordsOf text (texts words) → IsRecordText words x
    → IfOk result (λ octets. octets.items ≡ octets_of_record x) → IfOk result (λ octets. ReadsRecordItem octets.items 0 (length octets.items) x)
    → IfOk result (λ octets. HasWords (AreRecord octets.items) text)
record_there text words x (Ok octets) split is same reads =
    (words, split, record { item = x; text = is; octets_are = same; reads = reads; fields = has_fields octets.items is.value.octets x is.value.rdata reads })
record_there text words x (Err fault) split is same reads = tt
