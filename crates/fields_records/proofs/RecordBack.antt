-- What is printed of a record reads back, if what is printed of RDATA does.
use Rattle.std.proofs.Common.{◌≡◌, ℕ, ◌<◌, ◌^◌, List, [], ◌∷◌, drop, decimal, subst, arith}
use Rattle.std.specs.Prelude.{codes}
use Rattle.hex.specs.Hex.{IsBytes}
use Rattle.dns_name.specs.Names.{IsName, Labels, uncompressed}
use Rattle.dns_iana.specs.RegisteredTexts.{SpellsRegisteredClass}
use Rattle.dns_iana.specs.Registry.{registered_classes}
use Rattle.fields_table.specs.Data.{rtype_of}
use Rattle.fields_table.specs.declared.field_data.FieldData.{FieldData}
use Rattle.fields_plain.specs.Laws.{NamesReadBack, TypesReadBack}
use Rattle.fields_plain.specs.NameWords.{IsNameText}
use Rattle.fields_plain.specs.TypeWords.{IsTypeWord}
use Rattle.fields_text.proofs.theory.ByteLemmas.{labels_of_octets}
use Rattle.fields_plain.proofs.theory.RegisteredLemmas.{printed_spells}
use Rattle.fields_records.specs.DataTexts.{data_line}
use Rattle.fields_records.specs.RecordLines.{record_text}
use Rattle.fields_plain.specs.TypeNames.{class_word, type_word}
use Rattle.fields_plain.specs.ZoneNames.{zone_name_text}
use Rattle.fields_text.specs.LineWords.{AreWordsOf, texts}
use Rattle.fields_records.specs.ListLaws.{RecordsSplit}
use Rattle.fields_text.proofs.theory.LineLemmas.{one_list}
use Rattle.fields_records.specs.FieldWords.{Words}
use Rattle.fields_records.specs.Laws.{DataReadsBack, HasOctets, RecordsReadBack}
use Rattle.fields_records.specs.RecordWords.{AreHeadWords}
use Rattle.fields_plain.proofs.theory.SizedLaws.{number_read}

-- the owner
owner_back : NamesReadBack → (owner : Labels) (word : List ℕ) → IsName owner → IsBytes (uncompressed owner) → zone_name_text owner ≡ word → IsNameText word owner
owner_back names owner word is bytes e = subst (λ (text : List ℕ). IsNameText text owner) e (names owner is (labels_of_octets owner bytes))

-- the class
class_back : (n : ℕ) (word : List ℕ) → n < 2 ^ 16 → class_word n ≡ word → SpellsRegisteredClass word n
class_back n word small e = subst (λ (text : List ℕ). SpellsRegisteredClass text n) e (printed_spells registered_classes (codes "CLASS") n small)

-- the laws of the words of lines of RDATA
abbrev pub LinesSplit : Type 0
LinesSplit = (fields : FieldData) → HasOctets fields → (words : List (List ℕ)) × AreWordsOf (data_line fields) words

module _ (types : TypesReadBack) (names : NamesReadBack) where
  -- the first four words, and those after them
  head_back : (owner : Labels) (ttl class rtype : ℕ) (words : Words) (value : List (List ℕ)) → IsName owner → IsBytes (uncompressed owner) → ttl < 2 ^ 32 → class < 2 ^ 16 → rtype < 2 ^ 16
      → zone_name_text owner ∷ decimal ttl ∷ class_word class ∷ type_word rtype ∷ value ≡ texts words → AreHeadWords words owner ttl class rtype × (value ≡ texts (drop 4 words))
  head_back owner ttl class rtype [] value is bytes t c r e = cc
  head_back owner ttl class rtype (first ∷ []) value is bytes t c r e = cc
  head_back owner ttl class rtype (first ∷ second ∷ []) value is bytes t c r e = cc
  head_back owner ttl class rtype (first ∷ second ∷ third ∷ []) value is bytes t c r e = cc
  head_back owner ttl class rtype (first ∷ second ∷ third ∷ fourth ∷ words) value is bytes t c r e =
      let name : zone_name_text owner ≡ first.now = cc in
      let seconds : decimal ttl ≡ second.now = cc in
      let printed_class : class_word class ≡ third.now = cc in
      let printed_type : type_word rtype ≡ fourth.now = cc in (
        (
          owner_back names owner first.now is bytes name,
          (number_read ttl second.now (omega arith) seconds, t),
          class_back class third.now c printed_class,
          subst (λ (text : List ℕ). IsTypeWord text rtype) printed_type (types rtype r),
        ),
        cc,
      )

  pub record_back : RecordsSplit → LinesSplit → DataReadsBack → RecordsReadBack
  record_back split lines rdata owner class ttl fields words is bytes c t r octets printed =
      let line = lines fields octets in
      let own = split owner ttl class (rtype_of fields) (data_line fields) line.0 is t c r line.1 in
      let same = one_list (record_text (zone_name_text owner) ttl class (rtype_of fields) (data_line fields)) _ (texts words) own printed in
      let parts = head_back owner ttl class (rtype_of fields) words line.0 is bytes t c r same in
      record { head = parts.0; value = rdata fields (drop 4 words) octets (subst (λ (value : List (List ℕ)). AreWordsOf (data_line fields) value) parts.1 line.1) }
