-- Lines of zone files that C passes: RDATA, and records. RFC 1035 section 5.1.
use Rattle.std.specs.Prelude.{◌≡◌, ◌⊎◌, ℕ, ◌-◌, List, [], length, take}
use Rattle.std.specs.Str.{IsUtf8}
use Rattle.dns_wire.specs.Encoders.{Plain}
use Rattle.dns_wire.specs.Parts.{Part}
use Rattle.dns_wire.specs.Targets.{append, with_empty_table}
use Rattle.dns_data.specs.Layout.{DataAt}
use Rattle.dns_item.specs.Items.{RecordEntry, RecordItem, ReadsRecordItem, encode_record}
use Rattle.fields_table.specs.DataOrders.{octets_of_parts}
use Rattle.fields_table.specs.FieldData.{type_layout}
use Rattle.fields_table.specs.LayoutTypes.{layout_type}
use Rattle.fields_text.specs.LineWords.{AreWordsOf, texts}
use Rattle.fields_records.specs.DataWords.{IsDataText}
use Rattle.fields_records.specs.FieldWords.{Words}
use Rattle.fields_records.specs.RecordWords.{IsRecordText}
use Rattle.fields_text.specs.declared.text_error.TextError.{TextError}
use Rattle.fields_text.specs.declared.text_error.TextError.TheVariants.{BadWord, OutOfMemory}
use Rattle.dnsm_status.specs.declared.code.CallError.{CallError}
use Rattle.dnsm_status.specs.declared.code.CallError.TheVariants as faults

-- the fault that reports why words can't be read
abbrev pub text_fault : TextError → CallError
text_fault BadWord = faults.BadText
text_fault OutOfMemory = faults.NoMemory

-- the text has words, which are of this kind
abbrev pub HasWords : (Words → Type 0) → List ℕ → Type 0
HasWords Are text = (words : Words) × AreWordsOf text (texts words) × Are words

-- the text isn't UTF-8, or has no words
abbrev pub HasNoWords : List ℕ → Type 0
HasNoWords text = (IsUtf8 text → ⊥) ⊎ ((words : List (List ℕ)) → AreWordsOf text words → ⊥)

-- the words represent RDATA of this type, and these are its octets, uncompressed
abbrev pub AreData : ℕ → List ℕ → Words → Type 0
AreData rtype octets words = (parts : List Part) × IsDataText rtype words parts × (octets ≡ octets_of_parts parts)

-- the words represent no RDATA of this type
abbrev pub AreNoData : ℕ → Words → Type 0
AreNoData rtype words = (parts : List Part) → IsDataText rtype words parts → ⊥

-- the text is no RDATA of this type
abbrev pub LacksData : ℕ → List ℕ → Type 0
LacksData rtype text = HasNoWords text ⊎ HasWords (AreNoData rtype) text

-- the octets of a record without compression. RFC 1035 section 4.1.3
abbrev pub octets_of_record : RecordItem → List ℕ
octets_of_record x = (append (encode_record Plain x) (with_empty_table [])).octets

-- the type by whose fields the RDATA of a record is read. RFC 2136 section 2.4
abbrev pub data_type : RecordEntry → ℕ
data_type x = layout_type x.class (x.rdata_end - x.rdata_start) x.rtype

-- the fields of its type take all octets of a record's RDATA, as of an item of a message
abbrev pub HasFields : List ℕ → RecordEntry → Type 0
HasFields b x = (parts : List Part) × DataAt (take x.rdata_end b) (type_layout (data_type x)) x.rdata_start x.rdata_end parts

-- the words represent a record, and these are its octets, which read back as it
pub record AreRecord (octets : List ℕ) (words : Words) : Type 0 where
  pub item : RecordItem
  pub text : IsRecordText words item
  pub octets_are : octets ≡ octets_of_record item
  pub reads : ReadsRecordItem octets 0 (length octets) item
  pub fields : HasFields octets reads.entry

-- the words represent no record
abbrev pub AreNoRecord : Words → Type 0
AreNoRecord words = (item : RecordItem) → IsRecordText words item → ⊥

-- the text is no record
abbrev pub LacksRecord : List ℕ → Type 0
LacksRecord text = HasNoWords text ⊎ HasWords AreNoRecord text
