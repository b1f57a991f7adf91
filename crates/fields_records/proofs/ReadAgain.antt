-- What is printed, split and read again is the same.
use Rattle.std.proofs.Common.{◌≡◌, ℕ, List, inl, inr}
use Rattle.std.specs.Prelude.{Result, Ok, Err, MatchResult}
use Rattle.std.specs.Borrow.{Bor}
use Rattle.std.specs.Global.{Vec}
use Rattle.fields_table.specs.Data.{parts_of, rtype_of}
use Rattle.fields_table.specs.OwnedData.{owned_parts_of}
use Rattle.fields_table.specs.declared.owned.OwnedFieldData.{OwnedFieldData}
use Rattle.fields_records.specs.DataTexts.{data_line}
use Rattle.fields_records.specs.RecordLines.{record_text}
use Rattle.fields_plain.specs.ZoneNames.{zone_name_text}
use Rattle.fields_text.specs.LineWords.{AreWordsOf, SplitsWords}
use Rattle.fields_records.specs.ListLaws.{RecordsSplit}
use Rattle.dns_wire.specs.Parts.{Part}
use Rattle.fields_text.specs.declared.text_error.TextError.{TextError}
use Rattle.fields_text.specs.declared.text_error.TextError.TheVariants.{OutOfMemory}
use Rattle.fields_records.specs.DataWords.{IsDataText, ReadsData}
use Rattle.fields_records.specs.FieldWords.{Words}
use Rattle.fields_records.specs.Laws.{DataReadsBack, IsSameData, PrintedDataIsRead, PrintedRecordsAreRead, RecordsReadBack, RepresentOnly, record_with}
use Rattle.fields_records.proofs.OneData.{one_parts}
use Rattle.fields_records.proofs.OneRecord.{one_record}
use Rattle.fields_records.proofs.RecordBack.{LinesSplit}

-- a line with words is split, unless an allocation fails
split_again : (line : List ℕ) (P : Words → Type 0) (split : Result (Vec (Bor (List ℕ))) TextError) → ((words : List (List ℕ)) × AreWordsOf line words)
    → ((words : Vec (Bor (List ℕ))) → SplitsWords line (Ok words) → P words.items) → SplitsWords line split → MatchResult split (λ words. P words.items) (λ error. error ≡ OutOfMemory)
split_again line P (Ok words) has then is = then words is
split_again line P (Err e) has then (inl memory) = memory
split_again line P (Err e) has then (inr bad) = absurd (bad.1 has.0 has.1)

-- words that represent RDATA are read as it
same_data : (rtype : ℕ) (words : Words) (parts : List Part) (read : Result OwnedFieldData TextError) → IsDataText rtype words parts → ReadsData rtype words read → IsSameData rtype parts read
same_data rtype words parts (Ok value) is reads = (reads.0, one_parts rtype words (owned_parts_of value) parts reads.1 is)
same_data rtype words parts (Err e) is (inl memory) = memory.0
same_data rtype words parts (Err e) is (inr bad) = absurd (bad.1 parts is)

-- Printed RDATA is read again, if lines are split and words are read back.
pub data_again : LinesSplit → DataReadsBack → PrintedDataIsRead
data_again lines back fields split read bytes is =
    split_again (data_line fields) (λ words. ReadsData (rtype_of fields) words read → IsSameData (rtype_of fields) (parts_of fields) read) split (lines fields bytes)
    (λ words are reads. same_data (rtype_of fields) words.items (parts_of fields) read (back fields words.items bytes are) reads) is

-- Printed records are read again, if lines are split and words are read back.
pub records_again : RecordsSplit → LinesSplit → RecordsReadBack → PrintedRecordsAreRead
records_again splits lines back owner class ttl fields split name octets c t r bytes is =
    let line = lines fields bytes in
    let item = record_with owner class ttl fields in
    split_again (record_text (zone_name_text owner) ttl class (rtype_of fields) (data_line fields)) (λ words. RepresentOnly words item) split
    (_, splits owner ttl class (rtype_of fields) (data_line fields) line.0 name t c r line.1)
    (λ words are. let own = back owner class ttl fields words.items name octets c t r bytes are in
    record { is = own; only = λ other represented. one_record words.items other item represented own }) is
