-- What a record is to a transfer as it is read, and as a value.
use Rattle.std.proofs.Common.{◌≡◌, ◌∙◌, ℕ, Bool, false, ap, sym, refl, List, [], ◌∷◌, map, inl, inr}
use Rattle.std.proofs.lemmas.Bool.Decides.{eqb_tells}
use Rattle.std.proofs.lemmas.List.{append-nil}
use Rattle.std.specs.Int.{w32}
use Rattle.std.specs.List.{AllByRecursion}
use Rattle.std.specs.Prelude.{◌==◌, if◌then◌else◌, Result, Ok, Err}
use Rattle.dns_name.specs.NameOrders.{names_equal}
use Rattle.dns_name.specs.Names.{Fault, Labels}
use Rattle.dns_name.specs.Parsers.{number_at}
use Rattle.dns_wire.specs.Parts.{Part, PartsAt}
use Rattle.dns_wire.specs.Parts.Part.{Octets, CompressibleName, UncompressedName}
use Rattle.dns_data.proofs.theory.EncodedParts.{encoded_parts_read}
use Rattle.dns_item.specs.Items.{RecordItem}
use Rattle.dns_item.specs.ParsedData.{HasSpan}
use Rattle.dns_item.specs.ParsedData.IsParsedData.{whole}
use Rattle.dns_item.specs.ParsedRecord.{EncodedRecord}
use Rattle.dns_item.specs.TypedRecords.{data_in}
use Rattle.dns_item.proofs.theory.TypedLemmas.{data_is_parsed}
use Rattle.dns_build.specs.TypedReading.{AllEncodedAs}
use Rattle.dns_transfer.specs.Asked.{Asked}
use Rattle.dns_transfer.specs.Forms.{whole_reading}
use Rattle.dns_transfer.specs.Kinds.{is_within, kind_of, octets_in, serial_of, soa_kind, soa_layout}
use Rattle.dns_transfer.specs.declared.error.TransferError.{TransferError}
use Rattle.dns_transfer.specs.declared.error.TransferError.TheVariants.{WrongClass, OutsideZone, WrongSoa}
use Rattle.dns_transfer.specs.declared.grammar.Kind.{Kind}
use Rattle.dns_transfer.specs.declared.grammar.Kind.TheVariants.{Soa, Other}
use Rattle.dns_transfer_writer.specs.Reading.{AreSoaParts, HasSoaData, Sent, kind_of_item}
use Rattle.dns_transfer_writer.proofs.SoaNumbers.{numbers-join}

-- A record in a message, with the parts of SOA RDATA if it is an SOA record.
pub record SentRecord : Type 0 where
  pub sent : Sent
  pub soa_data : HasSoaData sent.item

-- the record as a value
abbrev pub item_in : SentRecord → RecordItem
item_in r = r.sent.item

-- the record in octets
abbrev pub encoded_in : SentRecord → EncodedRecord
encoded_in r = r.sent.encoded

-- what a record is, by its fields and what its RDATA is as that of an SOA record
abbrev kind_by : Asked → Labels → ℕ → ℕ → Result Kind TransferError → Result Kind TransferError
kind_by asked owner class rtype soa =
    if class == asked.class
    then (if is_within owner asked.zone then (if rtype == 6 then (if names_equal owner asked.zone then soa else Err WrongSoa) else Ok Other) else Err OutsideZone)
    else Err WrongClass

-- SOA RDATA is read as two names and the octets of the numbers, in one part.
soa-read : (e : EncodedRecord) → HasSpan e → (parts : List Part) → PartsAt e.octets e.entry.rdata_end e.entry.rdata_start parts → AreSoaParts parts
    → soa_kind (data_in e soa_layout) ≡ Ok (Soa (serial_of parts))
soa-read e span (CompressibleName mname ∷ CompressibleName rname ∷ numbers) at soa =
    let read : List Part = CompressibleName mname ∷ CompressibleName rname ∷ Octets (octets_in numbers) ∷ [] in
    let last = at.3 in
    let joined : PartsAt e.octets e.entry.rdata_end e.entry.rdata_start read =
    (at.0, at.1, at.2, (last.0, last.1, last.2, numbers-join e.octets e.entry.rdata_end last.0 numbers soa.0 last.3)) in
    let represents = encoded_parts_read e.octets e.entry.rdata_end e.entry.rdata_start soa_layout read span.end joined (soa.1, refl) in
    ap soa_kind (data_is_parsed.only e soa_layout (Ok read) (whole span represents))
    ∙ ap (λ (octets : List ℕ). let k : Result Kind TransferError = Ok (Soa (number_at w32 octets 0)) in k) (append-nil (octets_in numbers))
soa-read e span _ at soa = absurd soa

-- a record of another type is what it is whatever its RDATA
no-soa : (asked : Asked) (owner : Labels) (class rtype : ℕ) (soa other : Result Kind TransferError) → (rtype == 6) ≡ false
    → kind_by asked owner class rtype soa ≡ kind_by asked owner class rtype other
no-soa asked owner class rtype soa other is =
    ap (by soa) is ∙ sym (ap (by other) is)
  where
    by : Result Kind TransferError → Bool → Result Kind TransferError
    by given b =
        if class == asked.class
        then (if is_within owner asked.zone then (if b then (if names_equal owner asked.zone then given else Err WrongSoa) else Ok Other) else Err OutsideZone)
        else Err WrongClass

-- A record is to a transfer what it is as a value.
pub kinds-agree : (asked : Asked) (r : SentRecord) → kind_of asked (encoded_in r) ≡ kind_of_item asked (item_in r)
kinds-agree asked r =
    let x : RecordItem = item_in r in
    let e : EncodedRecord = encoded_in r in
    let is = r.sent.as_sent.item in
    let fields : kind_of asked e ≡ kind_by asked x.owner x.class x.rtype (soa_kind (data_in e soa_layout)) =
    ap (λ (y : RecordItem). kind_by asked y.owner y.class y.rtype (soa_kind (data_in e soa_layout))) is in
    fields ∙ elim (eqb_tells x.rtype 6) as (λ _. kind_by asked x.owner x.class x.rtype (soa_kind (data_in e soa_layout)) ≡ kind_of_item asked x) [
      | inl same ↦ ap (kind_by asked x.owner x.class x.rtype) (soa-read e r.sent.as_sent.there x.parts r.sent.as_sent.parts (r.soa_data same.1))
      | inr differs ↦ no-soa asked x.owner x.class x.rtype (soa_kind (data_in e soa_layout)) (Ok (Soa (serial_of x.parts))) differs.0
    ]

-- The records of a section that reads back, with their values.
pub all-sent : (b : List ℕ) (xs : List RecordItem) (readings : List (Result EncodedRecord Fault)) → AllEncodedAs b xs readings → AllByRecursion HasSoaData xs
    → (rs : List SentRecord) × (map item_in rs ≡ xs) × (readings ≡ whole_reading (map encoded_in rs))
all-sent b [] [] h soa = ([], refl, refl)
all-sent b [] (reading ∷ readings) h soa = absurd h
all-sent b (x ∷ xs) [] h soa = absurd h
all-sent b (x ∷ xs) (Err f ∷ readings) h soa = absurd h.0
all-sent b (x ∷ xs) (Ok e ∷ readings) h soa =
    let later = all-sent b xs readings h.1 soa.1 in (
      record { sent = record { item = x; octets = b; encoded = e; as_sent = h.0 }; soa_data = soa.0 } ∷ later.0,
      ap (λ (ys : List RecordItem). x ∷ ys) later.1,
      ap (λ (rest : List (Result EncodedRecord Fault)). Ok e ∷ rest) later.2,
    )
