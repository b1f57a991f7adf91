-- The words of the text of one field represent its octets, and the first word isn't `\#`: fields of one word, sized octets, character strings, and octets in hexadecimal and in base64.
use Rattle.std.proofs.Common.{◌≡◌, ◌≢◌, ◌∙◌, ℕ, suc, ◌/◌, ◌%◌, ◌<◌, true, false, Some, List, [], ◌∷◌, ◌++◌, length, decimal, refl, sym, subst, arith, append-nil, inl, inr}
use Rattle.std.specs.Prelude.{codes, map}
use Rattle.std.proofs.lemmas.Option.{same_Some}
use Rattle.base64.specs.Engines.{standard}
use Rattle.base64.specs.GeneralPurpose.{encode_of}
use Rattle.hex.specs.Hex.{IsBytes}
use Rattle.dns_wire.specs.Parts.{AreParts, Part}
use Rattle.fields_table.specs.Accepts.{accepts}
use Rattle.fields_table.specs.DataOrders.{part_octets}
use Rattle.fields_lists.specs.Strings.{are_strings, strings_text, strings_of}
use Rattle.fields_table.specs.Values.{part_value}
use Rattle.fields_table.specs.declared.kind.Kind.{Kind}
use Rattle.fields_table.specs.declared.kind.Kind.TheVariants as kinds
use Rattle.fields_text.specs.Hex.{hex_text}
use Rattle.fields_text.specs.Octets.{IsBase64, IsHex}
use Rattle.fields_text.specs.String.{quoted}
use Rattle.fields_plain.specs.SizedWords.{sized_text, AreSized, IsSizedWords}
use Rattle.fields_records.specs.FieldTexts.{base64_or_hyphen, text_of_any, value_text}
use Rattle.fields_text.specs.JoinedWords.{joined}
use Rattle.fields_text.specs.LengthOctets.{sized}
use Rattle.fields_text.specs.LineWords.{AreWordsOf, IsWord, texts, word_of_any}
use Rattle.fields_text.specs.LineWords.AreWordsWithin.{none, more}
use Rattle.fields_text.proofs.theory.LineLemmas.{one_list}
use Rattle.fields_records.specs.DataWords.{IsMarked}
use Rattle.fields_records.specs.Extents.{extent_of}
use Rattle.fields_records.specs.FieldWords.{AreBase64OrHyphen, AreFieldWords, IsFieldWord, IsHyphen, IsOne, Words}
use Rattle.fields_records.specs.declared.extent.Extent.TheVariants.{One}
use Rattle.fields_records.proofs.FieldPart.{HasWords, IsFieldPart}
use Rattle.fields_records.proofs.FieldShapes.{of_counted, of_fixed, of_name, of_rest, of_sized, of_uncompressed}
use Rattle.fields_records.proofs.MarkedWords.{number_differs}
use Rattle.fields_plain.proofs.theory.SizedLaws.{number_read}
use Rattle.fields_records.proofs.PrintedLaws.{PrintedLaws}
use Rattle.fields_records.proofs.PrintedValues.{Printed, eui_printed, hash_printed, ipv4_printed, ipv6_printed, locator_printed, name_printed, number_printed, salt_printed, scheme_printed, string_printed, tag_printed, text_printed, time_printed, type_printed}
use Rattle.fields_records.proofs.PrintedFieldWords.{any_some}
use Rattle.fields_records.proofs.StringLists.{first_quoted, string_list_back}
use Rattle.fields_records.proofs.Unmarked.{Unmarked, base64_or_hyphen_unmarked as base64_or_hyphen_text_unmarked, base64_unmarked as base64_text_unmarked, hex_unmarked, quoted_unmarked}

-- a text that is one word
word_alone : (text : List ℕ) → IsWord text → AreWordsOf text (text ∷ [])
word_alone text is = more (record { whole = sym (append-nil text); is = is; ends = λ e. tt }) none

-- one word
one_own : (Represents : List ℕ → List ℕ → Type 0) (own : Words) (text octets : List ℕ) → texts own ≡ text ∷ [] → Represents text octets → IsOne Represents own octets
one_own Represents [] text octets e reads = absurd (cc e)
one_own Represents (word ∷ []) text octets e reads =
    let same : text ≡ word.now = cc e in subst (λ (t : List ℕ). Represents t octets) same reads
one_own Represents (word ∷ next ∷ own) text octets e reads = absurd (cc e)

-- the first of the words
first_unmarked : (own : Words) (first : List ℕ) (others : List (List ℕ)) → texts own ≡ first ∷ others → Unmarked first → (after : Words) → ¬ (IsMarked (own ++ after))
first_unmarked [] first others e other after marked = cc e
first_unmarked (word ∷ own) first others e other after marked = let same : first ≡ word.now = cc e in other (same ∙ marked)

-- octets of any number but none
some_octets : (octets : List ℕ) → 0 < length octets → octets ≢ []
some_octets [] some e = omega arith
some_octets (o ∷ octets) some e = cc e

-- one word, which isn't split
joined_one : (Represents : List ℕ → List ℕ → Type 0) (own : Words) (text octets : List ℕ) → texts own ≡ text ∷ [] → Represents text octets → Represents (joined own) octets
joined_one Represents [] text octets e reads = absurd (cc e)
joined_one Represents (word ∷ []) text octets e reads =
    let same : text ≡ word.now = cc e in
    subst (λ (t : List ℕ). Represents t octets) (same ∙ sym (append-nil word.now)) reads
joined_one Represents (word ∷ next ∷ own) text octets e reads = absurd (cc e)

-- what is printed of a part
abbrev IsPrinted : Kind → List ℕ → Part → Type 0
IsPrinted kind text part =
    AreParts (part ∷ []) → IsBytes (part_octets part) → value_text kind (part_value kind part) ≡ Some text → Printed (IsFieldWord kind) (part_octets part) text

module _ (laws : PrintedLaws) where
  -- what is printed of a field of one word
  word_printed : (kind : Kind) (part : Part) (text : List ℕ) → extent_of kind ≡ One → IsFieldPart kind part → value_text kind (part_value kind part) ≡ Some text
      → Printed (IsFieldWord kind) (part_octets part) text
  word_printed kinds.Number8 part text one is e =
      of_fixed (IsPrinted kinds.Number8 text) 1 (λ octets sized parts bytes e. number_printed laws 1 octets text (omega arith) sized bytes e) part is.0 is.1 is.2 e
  word_printed kinds.Number16 part text one is e =
      of_fixed (IsPrinted kinds.Number16 text) 2 (λ octets sized parts bytes e. number_printed laws 2 octets text (omega arith) sized bytes e) part is.0 is.1 is.2 e
  word_printed kinds.Number32 part text one is e =
      of_fixed (IsPrinted kinds.Number32 text) 4 (λ octets sized parts bytes e. number_printed laws 4 octets text (omega arith) sized bytes e) part is.0 is.1 is.2 e
  word_printed kinds.Number48 part text one is e =
      of_fixed (IsPrinted kinds.Number48 text) 6 (λ octets sized parts bytes e. number_printed laws 6 octets text (omega arith) sized bytes e) part is.0 is.1 is.2 e
  word_printed kinds.Number64 part text one is e =
      of_fixed (IsPrinted kinds.Number64 text) 8 (λ octets sized parts bytes e. number_printed laws 8 octets text (omega arith) sized bytes e) part is.0 is.1 is.2 e
  word_printed kinds.SyncScheme part text one is e =
      of_fixed (IsPrinted kinds.SyncScheme text) 1 (λ octets sized parts bytes e. scheme_printed laws octets text sized bytes e) part is.0 is.1 is.2 e
  word_printed kinds.Seconds part text one is e =
      of_fixed (IsPrinted kinds.Seconds text) 4 (λ octets sized parts bytes e. number_printed laws 4 octets text (omega arith) sized bytes e) part is.0 is.1 is.2 e
  word_printed kinds.Time part text one is e =
      of_fixed (IsPrinted kinds.Time text) 4 (λ octets sized parts bytes e. time_printed laws octets text sized bytes e) part is.0 is.1 is.2 e
  word_printed kinds.Ipv4 part text one is e =
      of_fixed (IsPrinted kinds.Ipv4 text) 4 (λ octets sized parts bytes e. ipv4_printed laws octets text sized bytes e) part is.0 is.1 is.2 e
  word_printed kinds.Ipv6 part text one is e =
      of_fixed (IsPrinted kinds.Ipv6 text) 16 (λ octets sized parts bytes e. ipv6_printed laws octets text sized bytes e) part is.0 is.1 is.2 e
  word_printed kinds.Eui48 part text one is e =
      of_fixed (IsPrinted kinds.Eui48 text) 6 (λ octets sized parts bytes e. eui_printed laws 6 octets text (omega arith) sized bytes e) part is.0 is.1 is.2 e
  word_printed kinds.Eui64 part text one is e =
      of_fixed (IsPrinted kinds.Eui64 text) 8 (λ octets sized parts bytes e. eui_printed laws 8 octets text (omega arith) sized bytes e) part is.0 is.1 is.2 e
  word_printed kinds.Locator64 part text one is e =
      of_fixed (IsPrinted kinds.Locator64 text) 8 (λ octets sized parts bytes e. locator_printed laws octets text sized bytes e) part is.0 is.1 is.2 e
  word_printed kinds.RecordType part text one is e =
      of_fixed (IsPrinted kinds.RecordType text) 2 (λ octets sized parts bytes e. type_printed laws octets text sized bytes e) part is.0 is.1 is.2 e
  word_printed kinds.CompressibleName part text one is e =
      of_name (IsPrinted kinds.CompressibleName text) (λ name parts bytes e. name_printed laws name text parts.0 bytes e) part is.0 is.1 is.2 e
  word_printed kinds.PointedName part text one is e =
      of_uncompressed (IsPrinted kinds.PointedName text) true true (λ lowers name parts bytes e. name_printed laws name text parts.0 bytes e) part is.0 is.1 is.2 e
  word_printed kinds.LowercasedName part text one is e =
      of_uncompressed (IsPrinted kinds.LowercasedName text) false true (λ lowers name parts bytes e. name_printed laws name text parts.0 bytes e) part is.0 is.1 is.2 e
  word_printed kinds.PlainName part text one is e =
      of_uncompressed (IsPrinted kinds.PlainName text) false false (λ lowers name parts bytes e. name_printed laws name text parts.0 bytes e) part is.0 is.1 is.2 e
  word_printed kinds.CharacterString part text one is e =
      of_counted (IsPrinted kinds.CharacterString text) (λ size octets sized parts bytes e. string_printed laws size octets text sized bytes e) part is.0 is.1 is.2 e
  word_printed kinds.Tag part text one is e =
      of_counted (IsPrinted kinds.Tag text) (λ size octets sized parts bytes e. tag_printed laws size octets text sized bytes e) part is.0 is.1 is.2 e
  word_printed kinds.Salt part text one is e =
      of_counted (IsPrinted kinds.Salt text) (λ size octets sized parts bytes e. salt_printed laws size octets text sized bytes e) part is.0 is.1 is.2 e
  word_printed kinds.Hash part text one is e =
      of_counted (IsPrinted kinds.Hash text) (λ size octets sized parts bytes e. hash_printed laws size octets text sized bytes e) part is.0 is.1 is.2 e
  word_printed kinds.Text part text one is e =
      of_rest (IsPrinted kinds.Text text) (accepts kinds.Text) (λ octets accepted parts bytes e. text_printed laws octets text bytes e) part is.0 is.1 is.2 e
  word_printed kind part text one is e = absurd (cc one)

  -- a field of one word
  own_word : (own : Words) (text : List ℕ) → AreWordsOf text (texts own) → IsWord text → texts own ≡ text ∷ []
  own_word own text are word = one_list text (texts own) (text ∷ []) are (word_alone text word)

  -- the printed words of a field of one word are one word, which is read as the field's octets
  pub word_back : (kind : Kind) (part : Part) (own : Words) → extent_of kind ≡ One → IsFieldPart kind part → HasWords kind part own → IsOne (IsFieldWord kind) own (part_octets part)
  word_back kind part own one is has =
      let printed = word_printed kind part has.0 one is has.1 in
      one_own (IsFieldWord kind) own has.0 (part_octets part) (own_word own has.0 has.2 printed.is_word) printed.reads

  -- the first printed word of a field of one word isn't `\#`, whatever words follow
  pub word_unmarked : (kind : Kind) (part : Part) (own : Words) → extent_of kind ≡ One → IsFieldPart kind part → HasWords kind part own → (after : Words) → ¬ (IsMarked (own ++ after))
  word_unmarked kind part own one is has after =
      let printed = word_printed kind part has.0 one is has.1 in
      first_unmarked own has.0 [] (own_word own has.0 has.2 printed.is_word) printed.unmarked after

  -- sized octets
  are_sized : (octets : List ℕ) (own : Words) → IsBytes octets → length octets < 65536 → texts own ≡ decimal (length octets) ∷ word_of_any (encode_of standard) octets → AreSized own octets
  are_sized [] [] bytes few e = absurd (cc e)
  are_sized [] (number ∷ []) bytes few e = let same : decimal 0 ≡ number.now = cc e in (number_read 0 number.now (omega arith) same, refl)
  are_sized [] (number ∷ word ∷ own) bytes few e = absurd (cc e)
  are_sized (o ∷ octets) [] bytes few e = absurd (cc e)
  are_sized (o ∷ octets) (number ∷ []) bytes few e = absurd (cc e)
  are_sized (o ∷ octets) (number ∷ word ∷ []) bytes few e =
      let first : decimal (length (o ∷ octets)) ≡ number.now = cc e in
      let second : encode_of standard (o ∷ octets) ≡ word.now = cc e in (
        number_read (length (o ∷ octets)) number.now (omega (arith, few)) first,
        (subst (λ (w : List ℕ). IsBase64 w (o ∷ octets)) second (laws.reading.base64 (o ∷ octets) bytes), omega arith, few),
      )
  are_sized (o ∷ octets) (number ∷ word ∷ next ∷ own) bytes few e = absurd (cc e)

  abbrev SizedPart : Words → Part → Type 0
  SizedPart own part = IsBytes (part_octets part) → HasWords kinds.SizedOctets part own
      → (octets : List ℕ) × IsBytes octets × (length octets < 65536) × (part_octets part ≡ sized octets) × (texts own ≡ decimal (length octets) ∷ word_of_any (encode_of standard) octets)

  sized_part : (part : Part) (own : Words) → IsFieldPart kinds.SizedOctets part → HasWords kinds.SizedOctets part own
      → (octets : List ℕ) × IsBytes octets × (length octets < 65536) × (part_octets part ≡ sized octets) × (texts own ≡ decimal (length octets) ∷ word_of_any (encode_of standard) octets)
  sized_part part own is has =
      of_sized (SizedPart own)
      (λ high low octets size_is bytes has.
      let upper : high < 256 = bytes 0 in
      let lower : low < 256 = bytes 1 in
      let first : high ≡ length octets / 256 = omega arith in
      let second : low ≡ length octets % 256 = omega arith in
      let text = same_Some (sized_text octets) has.0 has.1 in (
        octets,
        λ i. bytes (suc (suc i)),
        omega arith,
        λ i. first i ∷ second i ∷ octets,
        one_list has.0 (texts own) (decimal (length octets) ∷ word_of_any (encode_of standard) octets) has.2
            (subst (λ (t : List ℕ). AreWordsOf t (decimal (length octets) ∷ word_of_any (encode_of standard) octets)) text (laws.lists.sized octets (omega arith))),
      ))
      part is.0 is.2 has

  -- the printed words of octets with their 16-bit count are read as the field's octets
  pub sized_back : (part : Part) (own : Words) → IsFieldPart kinds.SizedOctets part → HasWords kinds.SizedOctets part own → IsSizedWords own (part_octets part)
  sized_back part own is has =
      let own_part = sized_part part own is has in
      (own_part.0, are_sized own_part.0 own own_part.1 own_part.2 own_part.4, own_part.3)

  -- the first printed word of octets with their 16-bit count isn't `\#`, whatever words follow
  pub sized_unmarked : (part : Part) (own : Words) → IsFieldPart kinds.SizedOctets part → HasWords kinds.SizedOctets part own → (after : Words) → ¬ (IsMarked (own ++ after))
  sized_unmarked part own is has =
      let own_part = sized_part part own is has in
      let few = own_part.2 in
      first_unmarked own (decimal (length own_part.0)) (word_of_any (encode_of standard) own_part.0) own_part.4
      (number_differs (decimal (length own_part.0)) (length own_part.0) (number_read (length own_part.0) (decimal (length own_part.0)) (omega (arith, few)) refl))

  -- character strings
  abbrev StringsPart : Words → Part → Type 0
  StringsPart own part = IsBytes (part_octets part) → HasWords kinds.Strings part own
      → (are_strings (part_octets part) ≡ true) × (texts own ≡ map quoted (strings_of (part_octets part)))

  strings_part : (part : Part) (own : Words) → IsFieldPart kinds.Strings part → HasWords kinds.Strings part own
      → (are_strings (part_octets part) ≡ true) × (texts own ≡ map quoted (strings_of (part_octets part)))
  strings_part part own is has =
      of_rest (StringsPart own) are_strings
      (λ octets are bytes has.
      let text = same_Some (strings_text octets) has.0 has.1 in (
        are,
        one_list has.0 (texts own) (map quoted (strings_of octets)) has.2
            (subst (λ (t : List ℕ). AreWordsOf t (map quoted (strings_of octets))) text (laws.lists.strings octets)),
      ))
      part is.0 is.2 has

  -- the printed words of a field of character strings are read as its octets
  pub strings_back : (part : Part) (own : Words) → IsFieldPart kinds.Strings part → HasWords kinds.Strings part own → AreFieldWords kinds.Strings own (part_octets part)
  strings_back part own is has =
      let own_part = strings_part part own is has in string_list_back laws.reading.strings (part_octets part) own own_part.0 is.2 own_part.1

  -- the first printed word of a field of character strings isn't `\#`, whatever words follow
  pub strings_unmarked : (part : Part) (own : Words) → IsFieldPart kinds.Strings part → HasWords kinds.Strings part own → (after : Words) → ¬ (IsMarked (own ++ after))
  strings_unmarked part own is has =
      let own_part = strings_part part own is has in
      let first = first_quoted (part_octets part) own_part.0 in
      first_unmarked own (quoted first.0) first.1 (own_part.1 ∙ first.2) (quoted_unmarked first.0)

  -- octets of any number but none, as one word
  abbrev AnyPart : Kind → (List ℕ → List ℕ) → Words → Part → Type 0
  AnyPart kind print own part = IsBytes (part_octets part) → HasWords kind part own → (0 < length (part_octets part)) × (texts own ≡ print (part_octets part) ∷ [])

  any_part : (print : List ℕ → List ℕ) (octets text : List ℕ) (own : Words) → IsBytes octets → text_of_any print octets ≡ Some text → AreWordsOf text (texts own)
      → (0 < length octets → IsWord (print octets)) → (0 < length octets) × (texts own ≡ print octets ∷ [])
  any_part print octets text own bytes e are word =
      let some = any_some print octets text e in
      let same = same_Some (print octets) text some.1 in
      (some.0, own_word own (print octets) (subst (λ (t : List ℕ). AreWordsOf t (texts own)) (sym same) are) (word some.0))

  hexadecimal_part : (part : Part) (own : Words) → IsFieldPart kinds.Hexadecimal part → HasWords kinds.Hexadecimal part own
      → (0 < length (part_octets part)) × (texts own ≡ hex_text (part_octets part) ∷ [])
  hexadecimal_part part own is has =
      of_rest (AnyPart kinds.Hexadecimal hex_text own) (accepts kinds.Hexadecimal)
      (λ octets accepted bytes has. any_part hex_text octets has.0 own bytes has.1 has.2 (laws.words.hexadecimal octets bytes)) part is.0 is.2 has

  base64_part : (part : Part) (own : Words) → IsFieldPart kinds.Base64 part → HasWords kinds.Base64 part own
      → (0 < length (part_octets part)) × (texts own ≡ encode_of standard (part_octets part) ∷ [])
  base64_part part own is has =
      of_rest (AnyPart kinds.Base64 (encode_of standard) own) (accepts kinds.Base64)
      (λ octets accepted bytes has. any_part (encode_of standard) octets has.0 own bytes has.1 has.2 (laws.words.base64 octets bytes)) part is.0 is.2 has

  -- a field that is printed in hexadecimal has at least one octet
  pub hexadecimal_some : (part : Part) (own : Words) → IsFieldPart kinds.Hexadecimal part → HasWords kinds.Hexadecimal part own → part_octets part ≢ []
  hexadecimal_some part own is has = some_octets (part_octets part) (hexadecimal_part part own is has).0

  -- a field that is printed in base64 has at least one octet
  pub base64_some : (part : Part) (own : Words) → IsFieldPart kinds.Base64 part → HasWords kinds.Base64 part own → part_octets part ≢ []
  base64_some part own is has = some_octets (part_octets part) (base64_part part own is has).0

  -- the printed words of a field in hexadecimal are read as its octets
  pub hexadecimal_back : (part : Part) (own : Words) → IsFieldPart kinds.Hexadecimal part → HasWords kinds.Hexadecimal part own → AreFieldWords kinds.Hexadecimal own (part_octets part)
  hexadecimal_back part own is has =
      let printed = (hexadecimal_part part own is has).1 in
      (joined_one IsHex own (hex_text (part_octets part)) (part_octets part) printed (laws.reading.hexadecimal (part_octets part) is.2), hexadecimal_some part own is has)

  -- the printed words of a field in base64 are read as its octets
  pub base64_back : (part : Part) (own : Words) → IsFieldPart kinds.Base64 part → HasWords kinds.Base64 part own → AreFieldWords kinds.Base64 own (part_octets part)
  base64_back part own is has =
      let printed = (base64_part part own is has).1 in
      (joined_one IsBase64 own (encode_of standard (part_octets part)) (part_octets part) printed (laws.reading.base64 (part_octets part) is.2), base64_some part own is has)

  -- the first printed word of a field in hexadecimal isn't `\#`, whatever words follow
  pub hexadecimal_unmarked : (part : Part) (own : Words) → IsFieldPart kinds.Hexadecimal part → HasWords kinds.Hexadecimal part own → (after : Words) → ¬ (IsMarked (own ++ after))
  hexadecimal_unmarked part own is has =
      let printed = hexadecimal_part part own is has in
      first_unmarked own (hex_text (part_octets part)) [] printed.1 (hex_unmarked (part_octets part) is.2 printed.0)

  -- the first printed word of a field in base64 isn't `\#`, whatever words follow
  pub base64_unmarked : (part : Part) (own : Words) → IsFieldPart kinds.Base64 part → HasWords kinds.Base64 part own → (after : Words) → ¬ (IsMarked (own ++ after))
  base64_unmarked part own is has =
      let printed = base64_part part own is has in
      first_unmarked own (encode_of standard (part_octets part)) [] printed.1 (base64_text_unmarked (part_octets part) printed.0)

  -- base64, or a hyphen
  base64_or_hyphen_word : (octets : List ℕ) → IsBytes octets → IsWord (base64_or_hyphen octets)
  base64_or_hyphen_word [] bytes = laws.words.salts [] bytes
  base64_or_hyphen_word (o ∷ octets) bytes = laws.words.base64 (o ∷ octets) bytes (omega arith)

  abbrev HyphenPart : Words → Part → Type 0
  HyphenPart own part = IsBytes (part_octets part) → HasWords kinds.Base64OrHyphen part own → texts own ≡ base64_or_hyphen (part_octets part) ∷ []

  base64_or_hyphen_part : (part : Part) (own : Words) → IsFieldPart kinds.Base64OrHyphen part → HasWords kinds.Base64OrHyphen part own
      → texts own ≡ base64_or_hyphen (part_octets part) ∷ []
  base64_or_hyphen_part part own is has =
      of_rest (HyphenPart own) (accepts kinds.Base64OrHyphen)
      (λ octets accepted bytes has.
      let same = same_Some (base64_or_hyphen octets) has.0 has.1 in
      own_word own (base64_or_hyphen octets) (subst (λ (t : List ℕ). AreWordsOf t (texts own)) (sym same) has.2) (base64_or_hyphen_word octets bytes))
      part is.0 is.2 has

  are_base64_or_hyphen : (octets : List ℕ) (own : Words) → IsBytes octets → texts own ≡ base64_or_hyphen octets ∷ [] → AreBase64OrHyphen own octets
  are_base64_or_hyphen [] own bytes e = inl (one_own IsHyphen own (codes "-") [] e (refl, refl))
  are_base64_or_hyphen (o ∷ octets) own bytes e =
      inr (joined_one IsBase64 own (encode_of standard (o ∷ octets)) (o ∷ octets) e (laws.reading.base64 (o ∷ octets) bytes), some_octets (o ∷ octets) (omega arith))

  -- the printed words of a field in base64 or a hyphen are read as its octets
  pub base64_or_hyphen_back : (part : Part) (own : Words) → IsFieldPart kinds.Base64OrHyphen part → HasWords kinds.Base64OrHyphen part own
      → AreFieldWords kinds.Base64OrHyphen own (part_octets part)
  base64_or_hyphen_back part own is has = are_base64_or_hyphen (part_octets part) own is.2 (base64_or_hyphen_part part own is has)

  -- the first printed word of a field in base64 or a hyphen isn't `\#`, whatever words follow
  pub base64_or_hyphen_unmarked : (part : Part) (own : Words) → IsFieldPart kinds.Base64OrHyphen part → HasWords kinds.Base64OrHyphen part own → (after : Words) → ¬ (IsMarked (own ++ after))
  base64_or_hyphen_unmarked part own is has =
      first_unmarked own (base64_or_hyphen (part_octets part)) [] (base64_or_hyphen_part part own is has) (base64_or_hyphen_text_unmarked (part_octets part))
