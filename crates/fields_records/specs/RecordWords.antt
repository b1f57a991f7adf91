-- Words that represent a record. RFC 1035 section 5.1.
use Rattle.std.specs.Prelude.{◌≡◌, ◌⊎◌, ℕ, ◌<◌, ◌^◌, ◌∷◌, drop, Result, MatchResult}
use Rattle.std.specs.Net.Grammar.{IsNumber}
use Rattle.dns_octets.specs.declared.octets.Octets.{Ghosts}
use Rattle.dns_name.specs.Names.{Labels}
use Rattle.dns_name.specs.NameReading.{name_labels}
use Rattle.dns_name.specs.declared.name.Name.{Name}
use Rattle.dns_iana.specs.RegisteredTexts.{SpellsRegisteredClass}
use Rattle.fields_table.specs.OwnedData.{owned_parts_of, owned_rtype_of}
use Rattle.fields_table.specs.declared.owned.OwnedFieldData.{OwnedFieldData}
use Rattle.fields_plain.specs.NameWords.{IsNameText}
use Rattle.fields_plain.specs.TypeWords.{IsTypeWord}
use Rattle.dns_item.specs.Items.{RecordItem}
use Rattle.dns_item.specs.Record.{record_item}
use Rattle.dns_item.specs.declared.record.Record.{Record}
use Rattle.fields_text.specs.declared.text_error.TextError.{TextError}
use Rattle.fields_text.specs.declared.text_error.TextError.TheVariants.{BadWord, OutOfMemory}
use Rattle.fields_records.specs.DataWords.{IsDataText, MayBeData}
use Rattle.fields_records.specs.FieldWords.{Words}

-- the first four words are the owner, the TTL in seconds, the class and the type of a record
abbrev pub AreHeadWords : Words → Labels → ℕ → ℕ → ℕ → Type 0
AreHeadWords (name ∷ seconds ∷ class_word ∷ type_word ∷ words) owner ttl class rtype =
    IsNameText name.now owner × (IsNumber 10 seconds.now ttl × (ttl < 2 ^ 32)) × SpellsRegisteredClass class_word.now class × IsTypeWord type_word.now rtype
AreHeadWords _ owner ttl class rtype = ⊥

-- the words after these represent its RDATA
pub record IsRecordText (words : Words) (item : RecordItem) : Type 0 where
  pub head : AreHeadWords words item.owner item.ttl item.class item.rtype
  pub value : IsDataText item.rtype (drop 4 words) item.parts

-- the words are the head of a record and then words of which `MayBeData` holds
pub record MayBeRecord (words : Words) : Type 0 where
  pub owner : Labels
  pub ttl : ℕ
  pub class : ℕ
  pub rtype : ℕ
  pub head : AreHeadWords words owner ttl class rtype
  pub value : MayBeData rtype (drop 4 words)

-- The record that the words represent. Else `BadWord` if they represent none, or `OutOfMemory` if an allocation fails, which happens only to words of which `MayBeRecord` holds.
abbrev pub ReadsRecord : {X : Type 0} {buffer : Ghosts X} → Words → Result (Record (Name X buffer) OwnedFieldData) TextError → Type 0
ReadsRecord words result =
    MatchResult result (λ r. IsRecordText words (record_item name_labels owned_rtype_of owned_parts_of r))
    (λ error. ((error ≡ OutOfMemory) × MayBeRecord words) ⊎ ((error ≡ BadWord) × ((item : RecordItem) → ¬ (IsRecordText words item))))
