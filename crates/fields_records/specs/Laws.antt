-- What is printed of RDATA, and of a record, reads back.
use Rattle.std.specs.Prelude.{◌≡◌, ℕ, ◌<◌, ◌^◌, List, Result, MatchResult}
use Rattle.std.specs.Borrow.{Bor}
use Rattle.std.specs.Global.{Vec}
use Rattle.hex.specs.Hex.{IsBytes}
use Rattle.dns_name.specs.Names.{IsName, Labels, NameAt, uncompressed}
use Rattle.dns_wire.specs.Parts.{Part}
use Rattle.dns_data.specs.Layout.{DataAt, Layout}
use Rattle.fields_table.specs.Data.{parts_of, rtype_of}
use Rattle.fields_table.specs.DataOrders.{octets_of_parts}
use Rattle.fields_table.specs.OwnedData.{owned_parts_of, owned_rtype_of}
use Rattle.fields_table.specs.declared.field_data.FieldData.{FieldData}
use Rattle.fields_table.specs.declared.owned.OwnedFieldData.{OwnedFieldData}
use Rattle.fields_records.specs.DataTexts.{data_line}
use Rattle.fields_records.specs.RecordLines.{record_text}
use Rattle.fields_plain.specs.ZoneNames.{zone_name_text}
use Rattle.dns_item.specs.Items.{RecordItem}
use Rattle.fields_text.specs.LineWords.{AreWordsOf, SplitsWords, texts}
use Rattle.fields_text.specs.declared.text_error.TextError.{TextError}
use Rattle.fields_text.specs.declared.text_error.TextError.TheVariants.{OutOfMemory}
use Rattle.fields_records.specs.DataWords.{IsDataText, ReadsData}
use Rattle.fields_records.specs.FieldWords.{Words}
use Rattle.fields_records.specs.RecordWords.{IsRecordText}

-- the octets of RDATA, uncompressed, are octets
abbrev pub HasOctets : FieldData → Type 0
HasOctets fields = IsBytes (octets_of_parts (parts_of fields))

-- the octets of RDATA that is read of octets are octets
abbrev pub ReadPartsHaveOctets : Type 0
ReadPartsHaveOctets = (b : List ℕ) (layout : Layout) (p q : ℕ) (parts : List Part) → IsBytes b → DataAt b layout p q parts → IsBytes (octets_of_parts parts)

-- the octets of a name that is read of octets are octets
abbrev pub ReadNamesHaveOctets : Type 0
ReadNamesHaveOctets = (b : List ℕ) (p : ℕ) (name : Labels) → IsBytes b → NameAt b p name → IsBytes (uncompressed name)

-- the words of the line of RDATA represent RDATA of its type with its parts
abbrev pub DataReadsBack : Type 0
DataReadsBack = (fields : FieldData) (words : Words) → HasOctets fields → AreWordsOf (data_line fields) (texts words) → IsDataText (rtype_of fields) words (parts_of fields)

-- a record with this owner, class, TTL and RDATA
abbrev pub record_with : Labels → ℕ → ℕ → FieldData → RecordItem
record_with owner class ttl fields = record { owner = owner; rtype = rtype_of fields; class = class; ttl = ttl; parts = parts_of fields }

-- the words of the line of a record represent the record
abbrev pub RecordsReadBack : Type 0
RecordsReadBack =
    (owner : Labels) (class ttl : ℕ) (fields : FieldData) (words : Words) → IsName owner → IsBytes (uncompressed owner) → class < 2 ^ 16 → ttl < 2 ^ 32 → rtype_of fields < 2 ^ 16
    → HasOctets fields
    → AreWordsOf (record_text (zone_name_text owner) ttl class (rtype_of fields) (data_line fields)) (texts words)
    → IsRecordText words (record_with owner class ttl fields)

-- a result that is RDATA of this type with these parts, unless an allocation failed
abbrev pub IsSameData : ℕ → List Part → Result OwnedFieldData TextError → Type 0
IsSameData rtype parts result = MatchResult result (λ value. (owned_rtype_of value ≡ rtype) × (owned_parts_of value ≡ parts)) (λ error. error ≡ OutOfMemory)

-- RDATA is printed, its line is split into words, and these are read: the result is the same RDATA, unless an allocation failed
abbrev pub PrintedDataIsRead : Type 0
PrintedDataIsRead =
    (fields : FieldData) (split : Result (Vec (Bor (List ℕ))) TextError) (read : Result OwnedFieldData TextError) → HasOctets fields → SplitsWords (data_line fields) split
    → MatchResult split (λ words. ReadsData (rtype_of fields) words.items read → IsSameData (rtype_of fields) (parts_of fields) read) (λ error. error ≡ OutOfMemory)

-- the words represent this record, and no other
pub record RepresentOnly (words : Words) (item : RecordItem) : Type 0 where
  pub is : IsRecordText words item
  pub only : (other : RecordItem) → IsRecordText words other → other ≡ item

-- A record is printed, and its line is split into words: they represent this record and no other, unless an allocation failed. So reading them returns it.
abbrev pub PrintedRecordsAreRead : Type 0
PrintedRecordsAreRead =
    (owner : Labels) (class ttl : ℕ) (fields : FieldData) (split : Result (Vec (Bor (List ℕ))) TextError) → IsName owner → IsBytes (uncompressed owner)
    → class < 2 ^ 16 → ttl < 2 ^ 32 → rtype_of fields < 2 ^ 16
    → HasOctets fields → SplitsWords (record_text (zone_name_text owner) ttl class (rtype_of fields) (data_line fields)) split
    → MatchResult split (λ words. RepresentOnly words.items (record_with owner class ttl fields)) (λ error. error ≡ OutOfMemory)
