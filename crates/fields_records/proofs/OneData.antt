-- Words represent one list of octets of record data.
use Rattle.std.proofs.Common.{◌≡◌, ◌∙◌, ℕ, List, [], ◌∷◌, ◌++◌, length, drop, refl, sym, ap, subst, arith, inl, inr, append-nil}
use Rattle.std.specs.Prelude.{Result, Ok, Err}
use Rattle.std.specs.Borrow.{Bor}
use Rattle.std.specs.Str.Parse.{digits_value}
use Rattle.fields_table.specs.Table.{kinds_of}
use Rattle.fields_table.specs.declared.kind.Kind.{Kind}
use Rattle.fields_table.specs.declared.kind.Kind.TheVariants as kinds
use Rattle.fields_table.specs.UncompressedData.{IsUncompressedData}
use Rattle.fields_table.specs.declared.owned.OwnedFieldData.{OwnedFieldData}
use Rattle.fields_table.proofs.theory.UncompressedOctets.{one_uncompressed}
use Rattle.fields_text.specs.Base32Words.{last_octets}
use Rattle.fields_text.specs.Laws.{RepresentsOne}
use Rattle.fields_text.specs.Reading.{Fails, FailsIf, HasValue}
use Rattle.fields_plain.specs.SizedWords.{IsSizedWords}
use Rattle.fields_forms.proofs.theory.LocationLemmas.{one_location}
use Rattle.fields_forms.proofs.theory.OneFields.{one_gateway, one_identity, one_relay}
use Rattle.fields_lists.proofs.theory.OneMaps.{one_map, one_small_map}
use Rattle.fields_text.proofs.theory.OneWords.{one_base64, one_hex}
use Rattle.fields_plain.proofs.theory.OneWords.{one_eui, one_hash, one_ipv4, one_ipv6, one_locator, one_name, one_salt, one_sized, one_time}
use Rattle.fields_lists.proofs.theory.PrefixLemmas.{one_prefixes}
use Rattle.fields_text.proofs.theory.StringLemmas.{one_string}
use Rattle.fields_plain.proofs.theory.RegisteredLemmas.{one_word}
use Rattle.fields_parameters.proofs.theory.OneParameters.{one_parameters}
use Rattle.fields_text.specs.declared.text_error.TextError.{TextError}
use Rattle.fields_records.specs.DataWords.{AreCountedDigits, AreDataWords, AreFields, IsDataText, IsMarked, MayBeData, ReadsData}
use Rattle.fields_records.specs.Extents.{extent_of}
use Rattle.fields_text.specs.LengthOctets.{counted}
use Rattle.fields_records.proofs.HyphenWords.{hyphen_is_no_base64, hyphen_none}
use Rattle.fields_records.proofs.SchemeWords.{notify_is_no_number}
use Rattle.fields_records.specs.FieldWords.{AreBase64OrHyphen, AreFieldWords, AreStrings, IsField, IsFieldOf, IsFieldWord, IsNumberIn, IsOne, IsSchemeWord, IsString, Words}
use Rattle.fields_plain.specs.Salts.{IsHash, IsSalt}
use Rattle.fields_plain.specs.TimeWords.{IsTime}
use Rattle.fields_plain.specs.TypeWords.{IsType}
use Rattle.fields_records.specs.Rdata.{ReadsRdata}
use Rattle.fields_records.specs.declared.extent.Extent.{Extent}
use Rattle.fields_records.specs.declared.extent.Extent.TheVariants.{One, OneOrTwo, All}

-- fields of one word
one_number : (size : ℕ) → RepresentsOne (IsNumberIn size)
one_number size word xs ys a b = a.3 ∙ ap (last_octets size) (sym a.1.1 ∙ b.1.1) ∙ sym b.3

-- a scheme
one_scheme : RepresentsOne IsSchemeWord
one_scheme word xs ys (inl a) (inl b) = a.1 ∙ sym b.1
one_scheme word xs ys (inl a) (inr b) = absurd (notify_is_no_number word ys a.0 b)
one_scheme word xs ys (inr a) (inl b) = absurd (notify_is_no_number word xs b.0 a)
one_scheme word xs ys (inr a) (inr b) = one_number 1 word xs ys a b

one_time_field : RepresentsOne IsTime
one_time_field word xs ys a b = a.2 ∙ ap (last_octets 4) (one_time word a.0 b.0 a.1 b.1) ∙ sym b.2

one_type_field : RepresentsOne IsType
one_type_field word xs ys a b = a.2 ∙ ap (last_octets 2) (one_word word a.0 b.0 a.1 b.1) ∙ sym b.2

one_string_field : RepresentsOne IsString
one_string_field word xs ys a b = a.3 ∙ ap counted (one_string word a.0 b.0 a.1 b.1) ∙ sym b.3

one_salt_field : RepresentsOne IsSalt
one_salt_field word xs ys a b = a.2 ∙ ap counted (one_salt word a.0 b.0 a.1 b.1) ∙ sym b.2

one_hash_field : RepresentsOne IsHash
one_hash_field word xs ys a b = a.2 ∙ ap counted (one_hash word a.0 b.0 a.1 b.1) ∙ sym b.2

one_field_word : (kind : Kind) → RepresentsOne (IsFieldWord kind)
one_field_word kinds.Number8 word xs ys a b = one_number 1 word xs ys a b
one_field_word kinds.Number16 word xs ys a b = one_number 2 word xs ys a b
one_field_word kinds.Number32 word xs ys a b = one_number 4 word xs ys a b
one_field_word kinds.Number48 word xs ys a b = one_number 6 word xs ys a b
one_field_word kinds.Number64 word xs ys a b = one_number 8 word xs ys a b
one_field_word kinds.SyncScheme word xs ys a b = one_scheme word xs ys a b
one_field_word kinds.Seconds word xs ys a b = one_number 4 word xs ys a b
one_field_word kinds.Time word xs ys a b = one_time_field word xs ys a b
one_field_word kinds.Ipv4 word xs ys a b = one_ipv4 word xs ys a b
one_field_word kinds.Ipv6 word xs ys a b = one_ipv6 word xs ys a b
one_field_word kinds.Eui48 word xs ys a b = one_eui 6 word xs ys a b
one_field_word kinds.Eui64 word xs ys a b = one_eui 8 word xs ys a b
one_field_word kinds.Locator64 word xs ys a b = one_locator word xs ys a b
one_field_word kinds.RecordType word xs ys a b = one_type_field word xs ys a b
one_field_word kinds.CompressibleName word xs ys a b = one_name word xs ys a b
one_field_word kinds.PointedName word xs ys a b = one_name word xs ys a b
one_field_word kinds.LowercasedName word xs ys a b = one_name word xs ys a b
one_field_word kinds.PlainName word xs ys a b = one_name word xs ys a b
one_field_word kinds.CharacterString word xs ys a b = one_string_field word xs ys a b
one_field_word kinds.Tag word xs ys a b = a.2 ∙ sym b.2
one_field_word kinds.Salt word xs ys a b = one_salt_field word xs ys a b
one_field_word kinds.Hash word xs ys a b = one_hash_field word xs ys a b
one_field_word kinds.Text word xs ys a b = one_string word xs ys a b
one_field_word kind word xs ys a b = absurd a

-- fields of all words that are left
one_strings : (words : Words) (xs ys : List ℕ) → AreStrings words xs → AreStrings words ys → xs ≡ ys
one_strings [] xs ys a b = a ∙ sym b
one_strings (word ∷ words) xs ys a b =
    let first = one_string_field word.now a.0 b.0 a.2 b.2 in
    let others = one_strings words a.1 b.1 a.4 b.4 in
    a.3 ∙ (λ i. first i ++ others i) ∙ sym b.3

one_base64_or_hyphen : RepresentsOne AreBase64OrHyphen
one_base64_or_hyphen words xs ys (inl a) (inl b) = hyphen_none words xs a ∙ sym (hyphen_none words ys b)
one_base64_or_hyphen words xs ys (inl a) (inr b) = absurd (hyphen_is_no_base64 words xs ys a b.0)
one_base64_or_hyphen words xs ys (inr a) (inl b) = absurd (hyphen_is_no_base64 words ys xs b a.0)
one_base64_or_hyphen words xs ys (inr a) (inr b) = one_base64 words xs ys a.0 b.0

one_field_words : (kind : Kind) → RepresentsOne (AreFieldWords kind)
one_field_words kinds.Strings words xs ys a b = one_strings words xs ys a.1 b.1
one_field_words kinds.Hexadecimal words xs ys a b = one_hex words xs ys a.0 b.0
one_field_words kinds.Base64 words xs ys a b = one_base64 words xs ys a.0 b.0
one_field_words kinds.Base64OrHyphen words xs ys a b = one_base64_or_hyphen words xs ys a b
one_field_words kinds.TypeBitMap words xs ys a b = one_map words xs ys a b
one_field_words kinds.SmallTypeBitMap words xs ys a b = one_small_map words xs ys a b
one_field_words kinds.ServiceParameters words xs ys a b = one_parameters words xs ys a b
one_field_words kinds.AddressPrefixes words xs ys a b = one_prefixes words xs ys a b
one_field_words kinds.Location words xs ys a b = one_location words xs ys a b
one_field_words kinds.GatewayAndKey words xs ys a b = one_gateway words xs ys a b
one_field_words kinds.Relay words xs ys a b = one_relay words xs ys a b
one_field_words kinds.HostIdentity words xs ys a b = one_identity words xs ys a b
one_field_words kind words xs ys a b = absurd a

-- the words of a field, and those after it
same_lengths : (own own' after after' : Words) → length own ≡ length own' → own ++ after ≡ own' ++ after' → (own ≡ own') × (after ≡ after')
same_lengths [] [] after after' e f = (refl, f)
same_lengths [] (y ∷ own') after after' e f = absurd (omega (arith, e))
same_lengths (x ∷ own) [] after after' e f = absurd (omega (arith, e))
same_lengths (x ∷ own) (y ∷ own') after after' e f =
    let first : x ≡ y = cc f in
    let rest : own ++ after ≡ own' ++ after' = cc f in
    let others = same_lengths own own' after after' (omega (arith, e)) rest in
    let own_same = others.0 in
    (cc (first, own_same), others.1)

one_length : (kind : Kind) (own : Words) (octets : List ℕ) → IsOne (IsFieldWord kind) own octets → length own ≡ 1
one_length kind [] octets is = absurd is
one_length kind (word ∷ []) octets is = refl
one_length kind (word ∷ next ∷ words) octets is = absurd is

-- sized octets of one word and of two words differ in the first word
sized_lengths : (own own' after after' : Words) (xs ys : List ℕ) → own ++ after ≡ own' ++ after' → IsSizedWords own xs → IsSizedWords own' ys → length own ≡ length own'
sized_lengths [] own' after after' xs ys e a b = absurd a.1
sized_lengths (x ∷ own) [] after after' xs ys e a b = absurd b.1
sized_lengths (x ∷ []) (y ∷ []) after after' xs ys e a b = refl
sized_lengths (x ∷ []) (y ∷ z ∷ []) after after' xs ys e a b =
    let first : x ≡ y = cc e in
    let none = a.1.0.1 in
    let count = b.1.0.1 in
    let some = b.1.1.1 in
    absurd (omega (arith, ap (λ (w : Bor (List ℕ)). digits_value 10 w.now) first, none, count, some))
sized_lengths (x ∷ []) (y ∷ z ∷ w ∷ own') after after' xs ys e a b = absurd b.1
sized_lengths (x ∷ z ∷ []) (y ∷ []) after after' xs ys e a b =
    let first : x ≡ y = cc e in
    let none = b.1.0.1 in
    let count = a.1.0.1 in
    let some = a.1.1.1 in
    absurd (omega (arith, ap (λ (w : Bor (List ℕ)). digits_value 10 w.now) first, none, count, some))
sized_lengths (x ∷ z ∷ []) (y ∷ w ∷ []) after after' xs ys e a b = refl
sized_lengths (x ∷ z ∷ []) (y ∷ w ∷ v ∷ own') after after' xs ys e a b = absurd b.1
sized_lengths (x ∷ z ∷ w ∷ own) own' after after' xs ys e a b = absurd a.1

one_field_of : (extent : Extent) (kind : Kind) → RepresentsOne (IsFieldOf extent kind)
one_field_of One kind [] xs ys a b = absurd a
one_field_of One kind (word ∷ []) xs ys a b = one_field_word kind word.now xs ys a b
one_field_of One kind (word ∷ next ∷ words) xs ys a b = absurd a
one_field_of OneOrTwo kind words xs ys a b = one_sized words xs ys a b
one_field_of All kind words xs ys a b = one_field_words kind words xs ys a b

same_own : (extent : Extent) (kind : Kind) (own own' after after' : Words) (xs ys : List ℕ) → own ++ after ≡ own' ++ after' → (extent ≡ All → after ≡ []) → (extent ≡ All → after' ≡ [])
    → IsFieldOf extent kind own xs → IsFieldOf extent kind own' ys → (own ≡ own') × (after ≡ after')
same_own One kind own own' after after' xs ys e last last' a b = same_lengths own own' after after' (one_length kind own xs a ∙ sym (one_length kind own' ys b)) e
same_own OneOrTwo kind own own' after after' xs ys e last last' a b = same_lengths own own' after after' (sized_lengths own own' after after' xs ys e a b) e
same_own All kind own own' after after' xs ys e last last' a b =
    let none = last refl in
    let none' = last' refl in
    (sym (append-nil own) ∙ ap (λ (ws : Words). own ++ ws) (sym none) ∙ e ∙ ap (λ (ws : Words). own' ++ ws) none' ∙ append-nil own', none ∙ sym none')

-- fields
pub one_fields : (kinds : List Kind) → RepresentsOne (AreFields kinds)
one_fields [] words xs ys a b = a.1 ∙ sym b.1
one_fields (kind ∷ kinds) words xs ys a b =
    let same = same_own (extent_of kind) kind a.own b.own a.after b.after a.field b.field (sym a.split ∙ b.split) a.takes_all b.takes_all a.is_field b.is_field in
    let first = one_field_of (extent_of kind) kind b.own a.field b.field (subst (λ (ws : Words). IsField kind ws a.field) same.0 a.is_field) b.is_field in
    let others = one_fields kinds b.after a.others b.others (subst (λ (ws : Words). AreFields kinds ws a.others) same.1 a.are_others) b.are_others in
    a.whole ∙ (λ i. first i ++ others i) ∙ sym b.whole

one_digits : RepresentsOne AreCountedDigits
one_digits [] xs ys a b = absurd a
one_digits (size ∷ digits) xs ys a b = one_hex digits xs ys a.1 b.1

-- Words represent at most one RDATA of a type.
pub one_data : (rtype : ℕ) → RepresentsOne (AreDataWords rtype)
one_data rtype words xs ys (inl a) (inl b) = one_digits (drop 1 words) xs ys a.1 b.1
one_data rtype words xs ys (inl a) (inr b) = absurd (b.0 a.0)
one_data rtype words xs ys (inr a) (inl b) = absurd (a.0 b.0)
one_data rtype words xs ys (inr a) (inr b) = one_fields (kinds_of rtype) words xs ys a.1 b.1

-- and one list of parts
pub one_parts : (rtype : ℕ) → RepresentsOne (IsDataText rtype)
one_parts rtype words xs ys a b =
    let same = one_data rtype words a.octets b.octets a.are b.are in
    one_uncompressed rtype b.octets xs ys (subst (λ (octets : List ℕ). IsUncompressedData rtype octets xs) same a.rdata) b.rdata

-- RDATA of the octets that the words represent
pub data_read : (rtype : ℕ) (words : Words) (octets : List ℕ) (result : Result OwnedFieldData TextError) → AreDataWords rtype words octets → ReadsRdata rtype octets result
    → ReadsData rtype words result
data_read rtype words octets (Ok value) are reads = (reads.0, record { octets = octets; are = are; rdata = reads.1 })
data_read rtype words octets (Err e) are bad =
    inr (
      bad.0,
      λ parts is. bad.1 parts (subst (λ (os : List ℕ). IsUncompressedData rtype os parts) (one_data rtype words is.octets octets is.are are) is.rdata),
    )

-- Why there is no RDATA, if the words don't begin with `\#` and aren't read as fields.
pub no_data : (rtype n : ℕ) (words : Words) (e : TextError) → n ≡ rtype → ¬ (IsMarked words) → Fails (AreFields (kinds_of n) words) e → FailsIf (MayBeData rtype words) (IsDataText rtype words) e
no_data rtype n words e same unmarked (inl memory) = inl (memory.0, inr (unmarked, subst (λ (m : ℕ). HasValue (AreFields (kinds_of m) words)) same memory.1))
no_data rtype n words e same unmarked (inr bad) = inr (bad.0, λ parts is. none is.octets is.are) where
  none : (octets : List ℕ) → ¬ (AreDataWords rtype words octets)
  none octets (inl is) = unmarked is.0
  none octets (inr is) = bad.1 octets (subst (λ (m : ℕ). AreFields (kinds_of m) words octets) (sym same) is.1)
