-- What is printed of a value of one word: it is a word, reads back, and isn't `\#`.
use Rattle.std.proofs.Common.{◌≡◌, ℕ, suc, ◌<◌, ◌≤◌, ◌^◌, Bool, true, false, Some, List, ◌∷◌, length, decimal, refl, sym, ap, ◌∙◌, subst, arith, inl, inr}
use Rattle.std.specs.Prelude.{◌==◌, codes, if◌then◌else◌, nat_lt}
use Rattle.std.specs.Net.Addr.{segments_of}
use Rattle.std.specs.Net.Grammar.{IsDotted}
use Rattle.std.specs.Net.Text.{ipv4_text, ipv6_text}
use Rattle.std.proofs.NetLemmas.Texts.{IsDotted-ipv4_text}
use Rattle.std.proofs.lemmas.Fmt.{decimal_is_IsNumeral}
use Rattle.std.proofs.lemmas.Bool.{eqb-true}
use Rattle.std.proofs.lemmas.Option.{same_Some}
use Rattle.hex.specs.Hex.{IsBytes}
use Rattle.dns_name.specs.Names.{IsName, Labels, uncompressed}
use Rattle.fields_plain.specs.EuiTexts.{eui_text}
use Rattle.fields_plain.specs.LocatorWords.{locator_text, IsLocatorWord}
use Rattle.fields_text.specs.Base32.{base32_text}
use Rattle.fields_text.specs.Base32Words.{last_octets}
use Rattle.fields_text.specs.String.{is_tag, quoted}
use Rattle.fields_text.specs.Strings.{SpellsString}
use Rattle.fields_plain.specs.Time.{time_text}
use Rattle.fields_table.specs.Values.{number_after}
use Rattle.fields_records.specs.FieldTexts.{ipv4_of, ipv6_of, scheme_text, text_if, text_of_any}
use Rattle.fields_plain.specs.Salts.{salt_text, IsHash, IsSalt}
use Rattle.fields_plain.specs.TypeNames.{type_word}
use Rattle.fields_plain.specs.ZoneNames.{zone_name_text}
use Rattle.fields_plain.specs.Addresses.{IsIpv6Word}
use Rattle.fields_plain.specs.EuiWords.{IsEuiWord}
use Rattle.fields_plain.specs.NameWords.{IsNameWord}
use Rattle.fields_text.proofs.theory.ByteLemmas.{labels_of_octets}
use Rattle.fields_text.specs.LineWords.{IsWord}
use Rattle.fields_text.specs.LengthOctets.{counted}
use Rattle.fields_records.specs.FieldWords.{IsNumberIn, IsSchemeWord, IsString, IsTagWord}
use Rattle.fields_plain.specs.TimeWords.{IsTime}
use Rattle.fields_plain.specs.TypeWords.{IsType}
use Rattle.fields_records.proofs.MarkedWords.{number_differs, type_differs}
use Rattle.fields_table.proofs.theory.NumberOctets.{number_octets, number_small}
use Rattle.fields_records.proofs.PrintedLaws.{PrintedLaws}
use Rattle.fields_records.proofs.Unmarked.{Unmarked, colon_hex_unmarked, dotted_unmarked, eui_unmarked, hash_unmarked, locator_unmarked, name_unmarked, quoted_unmarked, salt_unmarked, tag_unmarked, time_unmarked}
use Rattle.fields_records.proofs.PrintedFieldWords.{any_some}

pub record Printed (Represents : List ℕ → List ℕ → Type 0) (octets text : List ℕ) : Type 0 where
  pub is_word : IsWord text
  pub reads : Represents text octets
  pub unmarked : Unmarked text

-- What is printed as a word is printed as its text.
pub as_text : (Represents : List ℕ → List ℕ → Type 0) (octets word text : List ℕ) → Some word ≡ Some text → Printed Represents octets word → Printed Represents octets text
as_text Represents octets word text e printed = subst (λ (t : List ℕ). Printed Represents octets t) (same_Some word text e) printed

-- a text that is printed if a test holds
pub text_is : (test : Bool) (word text : List ℕ) → text_if test word ≡ Some text → (test ≡ true) × (Some word ≡ Some text)
text_is true word text e = (refl, e)
text_is false word text e = absurd (cc e)

module _ (laws : PrintedLaws) where
  open laws.words use {
    numbers as number_words,
    types as type_words,
    times as time_words,
    names as name_words,
    strings as string_words,
    tags as tag_words,
    salts
        as salt_words,
    hashes as hash_words,
    ipv4 as ipv4_word,
    ipv6 as ipv6_word,
    locators as locator_words,
    eui as eui_words,
  }
  open laws.reading use {types as types_back, names as names_back, strings as strings_back, salts as salts_back, hashes as hashes_back, ipv6 as ipv6_back, locators as locators_back, eui as eui_back}

  -- numbers, times and record types
  pub number_printed : (size : ℕ) (octets text : List ℕ) → 256 ^ size ≤ 2 ^ 64 → length octets ≡ size → IsBytes octets → Some (decimal (number_after 0 octets))
      ≡ Some text → Printed (IsNumberIn size) octets text
  number_printed size octets text fits sized bytes e =
      let n = number_after 0 octets in
      let small = number_small size octets sized bytes in
      let numeral = decimal_is_IsNumeral n (omega (arith, small, fits)) in
      as_text (IsNumberIn size) octets (decimal n) text e (record {
        is_word = number_words n (omega (arith, small, fits));
        reads = (n, (numeral.0, numeral.1), small, number_octets size octets sized bytes);
        unmarked = number_differs (decimal n) n (numeral.0, numeral.1);
      })

  -- a scheme, by whether its number is 1
  scheme_by : (b : Bool) (octets text : List ℕ) → (number_after 0 octets == 1) ≡ b → length octets ≡ 1 → IsBytes octets
      → Some (if b then codes "NOTIFY" else decimal (number_after 0 octets)) ≡ Some text → Printed IsSchemeWord octets text
  unfolding last_octets
  scheme_by true octets text test sized bytes e =
      let one = eqb-true (number_after 0 octets) 1 test in
      as_text IsSchemeWord octets (codes "NOTIFY") text e (record {
        is_word = tag_words (codes "NOTIFY") refl;
        reads = inl (refl, number_octets 1 octets sized bytes ∙ ap (last_octets 1) one);
        unmarked = tag_unmarked (codes "NOTIFY") refl;
      })
  scheme_by false octets text test sized bytes e =
      let printed = number_printed 1 octets text (omega arith) sized bytes e in
      record { is_word = printed.is_word; reads = inr printed.reads; unmarked = printed.unmarked }

  -- The text that is printed of a scheme is one word, is read as the same octets, and isn't `\#`.
  pub scheme_printed : (octets text : List ℕ) → length octets ≡ 1 → IsBytes octets → Some (scheme_text (number_after 0 octets)) ≡ Some text → Printed IsSchemeWord octets text
  scheme_printed octets text sized bytes e = scheme_by (number_after 0 octets == 1) octets text refl sized bytes e

  -- The text that is printed of a time is one word, is read as the same octets, and isn't `\#`.
  pub time_printed : (octets text : List ℕ) → length octets ≡ 4 → IsBytes octets → text_if (nat_lt (number_after 0 octets) (2 ^ 32))
      (time_text (number_after 0 octets)) ≡ Some text → Printed IsTime octets text
  time_printed octets text sized bytes e =
      let n = number_after 0 octets in
      let small = number_small 4 octets sized bytes in
      as_text IsTime octets (time_text n) text (text_is (nat_lt n (2 ^ 32)) (time_text n) text e).1 (record {
        is_word = time_words n;
        reads = (n, inl (omega (arith, small), refl), number_octets 4 octets sized bytes);
        unmarked = time_unmarked n;
      })

  -- The text that is printed of a record type is one word, is read as the same octets, and isn't `\#`.
  pub type_printed : (octets text : List ℕ) → length octets ≡ 2 → IsBytes octets → Some (type_word (number_after 0 octets)) ≡ Some text → Printed IsType octets text
  type_printed octets text sized bytes e =
      let n = number_after 0 octets in
      let small = number_small 2 octets sized bytes in
      let reads = types_back n (omega (arith, small)) in
      as_text IsType octets (type_word n) text e (record {
        is_word = type_words n (omega (arith, small));
        reads = (n, reads, number_octets 2 octets sized bytes);
        unmarked = type_differs (type_word n) n reads;
      })

  -- addresses
  pub ipv4_printed : (octets text : List ℕ) → length octets ≡ 4 → IsBytes octets → ipv4_of octets ≡ Some text → Printed IsDotted octets text
  ipv4_printed octets text sized bytes e =
      let reads = IsDotted-ipv4_text octets sized bytes in
      as_text IsDotted octets (ipv4_text octets) text (text_is (length octets == 4) (ipv4_text octets) text e).1
      (record { is_word = ipv4_word octets bytes; reads = reads; unmarked = dotted_unmarked (ipv4_text octets) octets reads })

  -- The text that is printed of an IPv6 address is one word, is read as the same octets, and isn't `\#`.
  pub ipv6_printed : (octets text : List ℕ) → length octets ≡ 16 → IsBytes octets → ipv6_of octets ≡ Some text → Printed IsIpv6Word octets text
  ipv6_printed octets text sized bytes e =
      let word = ipv6_text (segments_of octets) in
      let reads = ipv6_back octets sized bytes in
      as_text IsIpv6Word octets word text (text_is (length octets == 16) word text e).1
      (record { is_word = ipv6_word octets bytes sized; reads = reads; unmarked = colon_hex_unmarked word reads.0 reads.1 })

  -- The text that is printed of an EUI-48 or EUI-64 address is one word, is read as the same octets, and isn't `\#`.
  pub eui_printed : (size : ℕ) (octets text : List ℕ) → 2 ≤ size → length octets ≡ size → IsBytes octets → Some (eui_text octets) ≡ Some text → Printed (IsEuiWord size) octets text
  eui_printed size octets text some sized bytes e =
      as_text (IsEuiWord size) octets (eui_text octets) text e (record {
        is_word = eui_words octets bytes (omega arith);
        reads = subst (λ n. IsEuiWord n (eui_text octets) octets) sized (eui_back octets bytes);
        unmarked = eui_unmarked octets (omega arith);
      })

  -- The text that is printed of a 64-bit locator is one word, is read as the same octets, and isn't `\#`.
  pub locator_printed : (octets text : List ℕ) → length octets ≡ 8 → IsBytes octets → text_if (length octets == 8) (locator_text octets) ≡ Some text → Printed IsLocatorWord octets text
  locator_printed octets text sized bytes e =
      as_text IsLocatorWord octets (locator_text octets) text (text_is (length octets == 8) (locator_text octets) text e).1
      (record { is_word = locator_words octets bytes sized; reads = locators_back octets sized bytes; unmarked = locator_unmarked octets sized })

  -- names
  pub name_printed : (name : Labels) (text : List ℕ) → IsName name → IsBytes (uncompressed name) → Some (zone_name_text name) ≡ Some text → Printed IsNameWord (uncompressed name) text
  name_printed name text is bytes e =
      as_text IsNameWord (uncompressed name) (zone_name_text name) text e (record {
        is_word = name_words name is;
        reads = (name, names_back name is (labels_of_octets name bytes), refl);
        unmarked = name_unmarked name is;
      })

  -- octets after their number
  module _ (size : ℕ) (octets text : List ℕ) (sized : length octets ≡ size) (all_bytes : IsBytes (size ∷ octets)) where
    bytes : IsBytes octets
    bytes i = all_bytes (suc i)

    few : length octets ≤ 255
    few = let small : size < 256 = all_bytes 0 in omega arith

    whole : size ∷ octets ≡ counted octets
    whole i = sym sized i ∷ octets

    -- The text that is printed of a character string is one word, is read as the same octets, and isn't `\#`.
    pub string_printed : Some (quoted octets) ≡ Some text → Printed IsString (size ∷ octets) text
    string_printed e =
        as_text IsString (size ∷ octets) (quoted octets) text e
        (record { is_word = string_words octets; reads = (octets, strings_back octets bytes, few, whole); unmarked = quoted_unmarked octets })

    -- The text that is printed of a tag is one word, is read as the same octets, and isn't `\#`.
    pub tag_printed : text_if (is_tag octets) octets ≡ Some text → Printed IsTagWord (size ∷ octets) text
    tag_printed e =
        let tag = text_is (is_tag octets) octets text e in
        as_text IsTagWord (size ∷ octets) octets text tag.1
        (record { is_word = tag_words octets tag.0; reads = (tag.0, few, whole); unmarked = tag_unmarked octets tag.0 })

    -- The text that is printed of a salt is one word, is read as the same octets, and isn't `\#`.
    pub salt_printed : Some (salt_text octets) ≡ Some text → Printed IsSalt (size ∷ octets) text
    salt_printed e =
        as_text IsSalt (size ∷ octets) (salt_text octets) text e
        (record { is_word = salt_words octets bytes; reads = (octets, salts_back octets bytes few, whole); unmarked = salt_unmarked octets bytes })

    -- The text that is printed of a hash is one word, is read as the same octets, and isn't `\#`.
    pub hash_printed : text_of_any base32_text octets ≡ Some text → Printed IsHash (size ∷ octets) text
    hash_printed e =
        let some = any_some base32_text octets text e in
        as_text IsHash (size ∷ octets) (base32_text octets) text some.1
        (record { is_word = hash_words octets bytes some.0; reads = (octets, hashes_back octets bytes (some.0, few), whole); unmarked = hash_unmarked octets some.0 })

  -- text
  pub text_printed : (octets text : List ℕ) → IsBytes octets → Some (quoted octets) ≡ Some text → Printed SpellsString octets text
  text_printed octets text bytes e =
      as_text SpellsString octets (quoted octets) text e (record { is_word = string_words octets; reads = strings_back octets bytes; unmarked = quoted_unmarked octets })
