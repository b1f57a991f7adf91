-- The words of fields.
use Rattle.std.proofs.Common.{◌≡◌, ℕ, zero, suc, ◌+◌, ◌*◌, ◌%◌, ◌^◌, ◌<◌, ◌≤◌, ◌==◌, ◌&&◌, Bool, true, false, List, [], ◌∷◌, ◌++◌, length, take, drop, decimal, refl, subst, arith, length-drop}
use Rattle.std.specs.Prelude.{All, Option, Some, None, if◌then◌else◌, codes, map, nat_le, nat_lt, option_map}
use Rattle.std.specs.Fmt.{◌++?◌}
use Rattle.std.specs.List.{flat_map}
use Rattle.std.specs.Net.Addr.{segments_of}
use Rattle.std.specs.Net.Text.{ipv4_text, ipv6_text}
use Rattle.std.proofs.lemmas.Bool.{and_parts, leb-true, ltb-true}
use Rattle.std.proofs.lemmas.List.{length-take-le}
use Rattle.std.proofs.lemmas.List.Elements.{All-append, All-cons, All-head, All-nil, All-tail}
use Rattle.base64.specs.Engines.{standard}
use Rattle.base64.specs.GeneralPurpose.{encode_of}
use Rattle.hex.specs.Hex.{IsBytes}
use Rattle.dns_name.specs.Names.{IsName, Labels}
use Rattle.dns_wire.specs.Parts.{Part}
use Rattle.dns_wire.specs.Parts.Part.{Octets as OctetsPart, CompressibleName, UncompressedName as UncompressedPart}
use Rattle.fields_table.specs.FieldParts.{NamedPart}
use Rattle.fields_table.specs.Shapes.{shape_of}
use Rattle.fields_table.specs.Values.{number_after, octets_value, part_value}
use Rattle.fields_table.specs.declared.kind.Kind.{Kind}
use Rattle.fields_table.specs.declared.kind.Kind.TheVariants as kinds
use Rattle.fields_plain.specs.EuiTexts.{eui_text}
use Rattle.fields_plain.specs.LocatorWords.{locator_text}
use Rattle.fields_text.specs.Base32.{base32_text}
use Rattle.fields_text.specs.Hex.{hex_text}
use Rattle.fields_forms.specs.LocationItems.{LocationItem, location_of, location_text}
use Rattle.fields_text.specs.String.{is_tag, quoted}
use Rattle.fields_plain.specs.Time.{time_text}
use Rattle.fields_records.specs.FieldTexts.{base64_or_hyphen, begins_with_space, fields_text, scheme_text, space_before, text_of_any, value_text}
use Rattle.fields_parameters.specs.Parameters.{parameters_text, parameter_word}
use Rattle.fields_plain.specs.Salts.{salt_text}
use Rattle.fields_plain.specs.SizedWords.{sized_text}
use Rattle.fields_lists.specs.Strings.{strings_text}
use Rattle.fields_forms.specs.GatewayTexts.{gateway_text, relay_text}
use Rattle.fields_forms.specs.HostIdentities.{identity_text}
use Rattle.fields_lists.specs.Items.{items_of}
use Rattle.fields_parameters.specs.ParameterItems.{parameters_of}
use Rattle.fields_lists.specs.TypeMaps.{Block, bit_types, block_at, is_small_map, map_types, octet_types, types_text}
use Rattle.fields_plain.specs.TypeNames.{type_word}
use Rattle.fields_plain.specs.ZoneNames.{zone_name_text}
use Rattle.fields_records.specs.FieldLaws.{HaveParts, AreWordsOfFields, IsPartOf}
use Rattle.fields_text.specs.LineWords.{AreWordsOf, EndsWord, IsWord}
use Rattle.fields_forms.specs.LocationLaws.{FitsLocation}
use Rattle.fields_forms.proofs.theory.GatewayTexts.{gateways_split, identities_split, relays_split}
use Rattle.fields_lists.proofs.theory.ListTexts.{Steps, items_all, prefixes_split, strings_split, types_split}
use Rattle.fields_text.proofs.theory.ByteLemmas.{bytes_drop}
use Rattle.fields_plain.proofs.theory.Words.{sized_split, eui_word, hash_word, ipv4_word, ipv6_word, locator_word, name_word, salt_word, time_word, type_is_word}
use Rattle.fields_text.proofs.theory.Options.{some_same}
use Rattle.fields_forms.proofs.theory.LocationTexts.{location_spaced}
use Rattle.fields_parameters.proofs.theory.ParameterTexts.{parameters_split}
use Rattle.fields_text.proofs.theory.SpacedTexts.{AreSpaced, ends_append, items_end, one_word, spaced_append, words_are}
use Rattle.fields_text.proofs.theory.SpacedTexts.AreSpaced.{nothing as no_words, space}
use Rattle.fields_text.proofs.theory.WordTexts.{quoted_word}
use Rattle.fields_text.proofs.theory.Words.{base64_word, decimal_word, hex_word, tag_word}
use Rattle.fields_forms.proofs.theory.LocationNumbers.{four_bound}

-- a text that begins with a space, if it has to
abbrev Opens : Bool → List ℕ → Type 0
Opens true text = EndsWord text
Opens false text = Unit {0}

-- a text of words
abbrev HasText : Bool → List ℕ → Type 0
HasText opens text = (words : List (List ℕ)) × AreSpaced text words × Opens opens text

some_text : (opens : Bool) (x text : List ℕ) → HasText opens x → Some x ≡ Some text → HasText opens text
some_text opens x text h e = subst (λ (xs : List ℕ). HasText opens xs) (some_same x text e) h

one_text : (x text : List ℕ) → IsWord x → Some x ≡ Some text → HasText false text
one_text x text is e = some_text false x text (x ∷ [], one_word x is, tt) e

if_some : (b : Bool) (x text : List ℕ) → (if b then Some x else None) ≡ Some text → (b ≡ true) × (Some x ≡ Some text)
if_some true x text e = (refl, e)
if_some false x text e = absurd (cc e)

-- A text of octets, of which there is one at least.
pub any_some : (f : List ℕ → List ℕ) (octets text : List ℕ) → text_of_any f octets ≡ Some text → (0 < length octets) × (Some (f octets) ≡ Some text)
any_some f [] text e = absurd (cc e)
any_some f (x ∷ xs) text e = (omega arith, e)

-- numbers of octets
number_fits : (octets : List ℕ) → IsBytes octets → length octets ≤ 8 → number_after 0 octets < 2 ^ 64
number_fits [] bytes few = omega arith
number_fits (a ∷ []) bytes few = let p = bytes 0 in omega arith
number_fits (a ∷ b ∷ []) bytes few = let p = bytes 0 in let q = bytes 1 in omega arith
number_fits (a ∷ b ∷ c ∷ []) bytes few = let p = bytes 0 in let q = bytes 1 in let r = bytes 2 in omega arith
number_fits (a ∷ b ∷ c ∷ d ∷ []) bytes few = let p = bytes 0 in let q = bytes 1 in let r = bytes 2 in let s = bytes 3 in omega arith
number_fits (a ∷ b ∷ c ∷ d ∷ e ∷ []) bytes few = let p = bytes 0 in let q = bytes 1 in let r = bytes 2 in let s = bytes 3 in let t = bytes 4 in omega arith
number_fits (a ∷ b ∷ c ∷ d ∷ e ∷ f ∷ []) bytes few =
    let p = bytes 0 in let q = bytes 1 in let r = bytes 2 in let s = bytes 3 in let t = bytes 4 in let u = bytes 5 in omega arith
number_fits (a ∷ b ∷ c ∷ d ∷ e ∷ f ∷ g ∷ []) bytes few =
    let p = bytes 0 in let q = bytes 1 in let r = bytes 2 in let s = bytes 3 in let t = bytes 4 in let u = bytes 5 in let v = bytes 6 in omega arith
number_fits (a ∷ b ∷ c ∷ d ∷ e ∷ f ∷ g ∷ h ∷ []) bytes few =
    let p = bytes 0 in let q = bytes 1 in let r = bytes 2 in let s = bytes 3 in let t = bytes 4 in let u = bytes 5 in let v = bytes 6 in let w = bytes 7 in omega arith
number_fits (a ∷ b ∷ c ∷ d ∷ e ∷ f ∷ g ∷ h ∷ i ∷ octets) bytes few = absurd (omega arith)

two_fit : (octets : List ℕ) → IsBytes octets → length octets ≡ 2 → number_after 0 octets < 2 ^ 16
two_fit [] bytes size = absurd (omega arith)
two_fit (a ∷ []) bytes size = absurd (omega arith)
two_fit (a ∷ b ∷ []) bytes size = let p = bytes 0 in let q = bytes 1 in omega arith
two_fit (a ∷ b ∷ c ∷ octets) bytes size = absurd (omega arith)

number_text_split : (octets text : List ℕ) → IsBytes octets → length octets ≤ 8 → Some (decimal (number_after 0 octets)) ≡ Some text → HasText false text
number_text_split octets text bytes few e = one_text (decimal (number_after 0 octets)) text (decimal_word (number_after 0 octets) (number_fits octets bytes few)) e

-- a scheme
scheme_word : (b : Bool) (n : ℕ) → n < 2 ^ 64 → IsWord (if b then codes "NOTIFY" else decimal n)
scheme_word true n small = tag_word (codes "NOTIFY") refl
scheme_word false n small = decimal_word n small

-- base64, or a hyphen
base64_or_hyphen_word : (octets : List ℕ) → IsWord (base64_or_hyphen octets)
base64_or_hyphen_word [] = salt_word [] (λ i. omega arith)
base64_or_hyphen_word (o ∷ octets) = base64_word (o ∷ octets) (omega arith)

-- record types of bit maps
first_bit : (b : Bool) (first most : ℕ) → first < most → All (λ n. n < most) (if b then first ∷ [] else [])
first_bit true first most h = All-cons (λ n. n < most) first [] h (All-nil (λ n. n < most))
first_bit false first most h = All-nil (λ n. n < most)

bits_below : (count first octet most : ℕ) → first + count ≤ most → All (λ n. n < most) (bit_types count first octet)
bits_below zero first octet most h = All-nil (λ n. n < most)
bits_below (suc count) first octet most h =
    All-append (λ n. n < most) (if nat_le 128 octet then first ∷ [] else []) (bit_types count (first + 1) (octet % 128 * 2)) (first_bit (nat_le 128 octet) first most (omega arith))
    (bits_below count (first + 1) (octet % 128 * 2) most (omega arith))

octets_below : (octets : List ℕ) (first most : ℕ) → first + 8 * length octets ≤ most → All (λ n. n < most) (octet_types first octets)
octets_below [] first most h = All-nil (λ n. n < most)
octets_below (octet ∷ octets) first most h =
    All-append (λ n. n < most) (bit_types 8 first octet) (octet_types (first + 8) octets) (bits_below 8 first octet most (omega arith)) (octets_below octets (first + 8) most (omega arith))

abbrev IsBlock : Block → Type 0
IsBlock block = block.first + 8 * length block.octets ≤ 2 ^ 16

block_steps : Steps IsBlock IsBytes block_at
block_steps [] after block bytes e = absurd (cc e)
block_steps (a ∷ []) after block bytes e = absurd (cc e)
block_steps (window ∷ size ∷ octets) after block bytes e = by_size (nat_le size 32 && nat_le size (length octets)) refl e where
  by_size : (b : Bool) → (nat_le size 32 && nat_le size (length octets)) ≡ b
      → (let pair : Block × List ℕ = (record { first = window * 256; octets = take size octets }, drop size octets) in if b then Some pair else None) ≡ Some (block, after)
      → IsBlock block × IsBytes after
  by_size true t f =
      let left : Block × List ℕ = (record { first = window * 256; octets = take size octets }, drop size octets) in
      let right : Block × List ℕ = (block, after) in
      let same : left ≡ right = some_same left right f in
      let parts = and_parts (nat_le size 32) (nat_le size (length octets)) t in
      let few = leb-true size 32 parts.0 in
      let taken = length-take-le size octets (leb-true size (length octets) parts.1) in
      let small : window < 256 = bytes 0 in
      let rest : IsBytes octets = λ i. bytes (suc (suc i)) in
      let here : window * 256 + 8 * length (take size octets) ≤ 2 ^ 16 = omega (arith, few, taken, small) in
      (subst (λ (p : Block × List ℕ). IsBlock p.0) same here, subst (λ (p : Block × List ℕ). IsBytes p.1) same (bytes_drop size octets rest))
  by_size false t f = absurd (cc f)

blocks_below : (blocks : List Block) → All IsBlock blocks → All (λ n. n < 2 ^ 16) (flat_map (λ block. octet_types block.first block.octets) blocks)
blocks_below [] all = All-nil (λ n. n < 2 ^ 16)
blocks_below (block ∷ blocks) all =
    All-append (λ n. n < 2 ^ 16) (octet_types block.first block.octets) (flat_map (λ block. octet_types block.first block.octets) blocks)
    (octets_below block.octets block.first (2 ^ 16) (All-head IsBlock block blocks all)) (blocks_below blocks (All-tail IsBlock block blocks all))

-- The types of a map are below 2^16.
pub map_below : (octets : List ℕ) → IsBytes octets → All (λ n. n < 2 ^ 16) (map_types octets)
map_below octets bytes = blocks_below (items_of block_at octets) (items_all IsBlock IsBytes block_at block_steps (length octets) octets bytes)

types_has : (types : List ℕ) → All (λ n. n < 2 ^ 16) types → HasText true (types_text types)
types_has types all = (map type_word types, types_split types all, items_end type_word types)

-- The types of a small map are below 2^16.
pub small_below : (octets : List ℕ) → is_small_map octets ≡ true → All (λ n. n < 2 ^ 16) (octet_types 0 octets)
small_below [] h = All-nil (λ n. n < 2 ^ 16)
small_below (octet ∷ octets) h = octets_below (octet ∷ octets) 0 (2 ^ 16) (few (nat_lt octet 128) (nat_lt (length octets) 16) _ refl h) where
  few : (a b c : Bool) → nat_lt (length octets) 16 ≡ b → a && b && c ≡ true → 0 + 8 * length (octet ∷ octets) ≤ 2 ^ 16
  few true true c s e = let short = ltb-true (length octets) 16 s in omega arith
  few true false c s e = absurd (cc e)
  few false b c s e = absurd (cc e)

location_has : (item : LocationItem) (b : Bool) (text : List ℕ) → FitsLocation item → option_map location_text (if b then Some item else None) ≡ Some text → HasText false text
location_has item true text fits e = some_text false (location_text item) text (_, location_spaced item fits, tt) e
location_has item false text fits e = absurd (cc e)

location_split : (octets text : List ℕ) → IsBytes octets → option_map location_text (location_of octets) ≡ Some text → HasText false text
location_split (version ∷ size ∷ horizontal ∷ vertical ∷ a ∷ b ∷ c ∷ d ∷ e ∷ f ∷ g ∷ h ∷ i ∷ j ∷ k ∷ l ∷ []) text bytes eq =
    location_has _ _ text
    (record {
      size = bytes 1;
      horizontal = bytes 2;
      vertical = bytes 3;
      latitude = four_bound a b c d (bytes 4) (bytes 5) (bytes 6) (bytes 7);
      longitude = four_bound e f g h (bytes 8) (bytes 9) (bytes 10) (bytes 11);
      altitude = four_bound i j k l (bytes 12) (bytes 13) (bytes 14) (bytes 15);
    })
    eq
location_split octets text bytes eq = absurd (cc eq)

-- gateways, relays and host identities
gateway_has : (octets text : List ℕ) → IsBytes octets → gateway_text octets ≡ Some text → HasText true text
gateway_has [] text bytes e = absurd (cc e)
gateway_has (a ∷ []) text bytes e = absurd (cc e)
gateway_has (a ∷ b ∷ octets) text bytes e = let h = gateways_split a b octets text bytes e in (_, h.3, h.4)

relay_has : (octets text : List ℕ) → IsBytes octets → relay_text octets ≡ Some text → HasText true text
relay_has [] text bytes e = absurd (cc e)
relay_has (a ∷ octets) text bytes e = let h = relays_split a octets text bytes e in (_, h.3, h.4)

identity_has : (octets text : List ℕ) → IsBytes octets → identity_text octets ≡ Some text → HasText false text
identity_has [] text bytes e = absurd (cc e)
identity_has (a ∷ []) text bytes e = absurd (cc e)
identity_has (a ∷ b ∷ []) text bytes e = absurd (cc e)
identity_has (a ∷ b ∷ c ∷ []) text bytes e = absurd (cc e)
identity_has (a ∷ b ∷ c ∷ d ∷ octets) text bytes e = let h = identities_split a b c d octets text bytes e in (_, h.1, tt)

-- a field of octets
octets_has : (kind : Kind) (octets text : List ℕ) → IsPartOf (shape_of kind) (OctetsPart octets) → value_text kind (octets_value kind octets) ≡ Some text → HasText (begins_with_space kind) text
octets_has kinds.Number8 octets text h e = let size = h.1 in number_text_split octets text h.0 (omega arith) e
octets_has kinds.Number16 octets text h e = let size = h.1 in number_text_split octets text h.0 (omega arith) e
octets_has kinds.Number32 octets text h e = let size = h.1 in number_text_split octets text h.0 (omega arith) e
octets_has kinds.Number48 octets text h e = let size = h.1 in number_text_split octets text h.0 (omega arith) e
octets_has kinds.Number64 octets text h e = let size = h.1 in number_text_split octets text h.0 (omega arith) e
octets_has kinds.SyncScheme octets text h e =
    let size = h.1 in
    let n = number_after 0 octets in
    one_text (scheme_text n) text (scheme_word (n == 1) n (number_fits octets h.0 (omega arith))) e
octets_has kinds.Seconds octets text h e = let size = h.1 in number_text_split octets text h.0 (omega arith) e
octets_has kinds.Time octets text h e =
    one_text (time_text (number_after 0 octets)) text (time_word (number_after 0 octets)) (if_some (nat_lt (number_after 0 octets) (2 ^ 32)) (time_text (number_after 0 octets)) text e).1
octets_has kinds.Ipv4 octets text h e = one_text (ipv4_text octets) text (ipv4_word octets h.0) (if_some (length octets == 4) (ipv4_text octets) text e).1
octets_has kinds.Ipv6 octets text h e =
    one_text (ipv6_text (segments_of octets)) text (ipv6_word octets h.0 h.1) (if_some (length octets == 16) (ipv6_text (segments_of octets)) text e).1
octets_has kinds.Eui48 octets text h e = let size = h.1 in one_text (eui_text octets) text (eui_word octets h.0 (omega arith)) e
octets_has kinds.Eui64 octets text h e = let size = h.1 in one_text (eui_text octets) text (eui_word octets h.0 (omega arith)) e
octets_has kinds.Locator64 octets text h e = one_text (locator_text octets) text (locator_word octets h.0 h.1) (if_some (length octets == 8) (locator_text octets) text e).1
octets_has kinds.RecordType octets text h e = one_text (type_word (number_after 0 octets)) text (type_is_word (number_after 0 octets) (two_fit octets h.0 h.1)) e
octets_has kinds.CharacterString octets text h e = one_text (quoted (drop 1 octets)) text (quoted_word (drop 1 octets)) e
octets_has kinds.Tag octets text h e =
    let test = if_some (is_tag (drop 1 octets)) (drop 1 octets) text e in one_text (drop 1 octets) text (tag_word (drop 1 octets) test.0) test.1
octets_has kinds.Salt octets text h e = one_text (salt_text (drop 1 octets)) text (salt_word (drop 1 octets) (bytes_drop 1 octets h.0)) e
octets_has kinds.Hash octets text h e =
    let some = any_some base32_text (drop 1 octets) text e in one_text (base32_text (drop 1 octets)) text (hash_word (drop 1 octets) some.0) some.1
octets_has kinds.SizedOctets octets text h e =
    let small = h.1 in
    let size = length-drop 2 octets in
    some_text false (sized_text (drop 2 octets)) text (_, sized_split (drop 2 octets) (omega (arith, size, small)), tt) e
octets_has kinds.Strings octets text h e = some_text false (strings_text octets) text (_, strings_split octets, tt) e
octets_has kinds.Text octets text h e = one_text (quoted octets) text (quoted_word octets) e
octets_has kinds.Hexadecimal octets text h e = let some = any_some hex_text octets text e in one_text (hex_text octets) text (hex_word octets h.0 some.0) some.1
octets_has kinds.Base64 octets text h e =
    let some = any_some (encode_of standard) octets text e in one_text (encode_of standard octets) text (base64_word octets some.0) some.1
octets_has kinds.Base64OrHyphen octets text h e = one_text (base64_or_hyphen octets) text (base64_or_hyphen_word octets) e
octets_has kinds.TypeBitMap octets text h e = some_text true (types_text (map_types octets)) text (types_has (map_types octets) (map_below octets h.0)) e
octets_has kinds.SmallTypeBitMap octets text h e =
    let test = if_some (is_small_map octets) (types_text (octet_types 0 octets)) text e in
    some_text true (types_text (octet_types 0 octets)) text (types_has (octet_types 0 octets) (small_below octets test.0)) test.1
octets_has kinds.ServiceParameters octets text h e =
    some_text true (parameters_text octets) text (_, parameters_split octets h.0, items_end parameter_word (parameters_of octets)) e
octets_has kinds.AddressPrefixes octets text h e = (_, prefixes_split octets text h.0 e, tt)
octets_has kinds.Location octets text h e = location_split octets text h.0 e
octets_has kinds.GatewayAndKey octets text h e = gateway_has octets text h.0 e
octets_has kinds.Relay octets text h e = relay_has octets text h.0 e
octets_has kinds.HostIdentity octets text h e = identity_has octets text h.0 e
octets_has kinds.Opaque octets text h e = absurd (cc e)
octets_has kind octets text h e = absurd h

-- a field that is a name
name_has : (name : Labels) (text : List ℕ) → IsName name → Some (zone_name_text name) ≡ Some text → HasText false text
name_has name text is e = one_text (zone_name_text name) text (name_word name is) e

compressible_has : (kind : Kind) (name : Labels) (text : List ℕ) → IsPartOf (shape_of kind) (CompressibleName name) → Some (zone_name_text name) ≡ Some text
    → HasText (begins_with_space kind) text
compressible_has kinds.CompressibleName name text h e = name_has name text h e
compressible_has kind name text h e = absurd h

uncompressed_has : (kind : Kind) (lowered : Bool) (name : Labels) (text : List ℕ) → IsPartOf (shape_of kind) (UncompressedPart lowered name) → Some (zone_name_text name) ≡ Some text
    → HasText (begins_with_space kind) text
uncompressed_has kinds.PointedName lowered name text h e = name_has name text h e
uncompressed_has kinds.LowercasedName lowered name text h e = name_has name text h e
uncompressed_has kinds.PlainName lowered name text h e = name_has name text h e
uncompressed_has kind lowered name text h e = absurd h

part_has : (kind : Kind) (part : Part) (text : List ℕ) → IsPartOf (shape_of kind) part → value_text kind (part_value kind part) ≡ Some text → HasText (begins_with_space kind) text
part_has kind (OctetsPart octets) text h e = octets_has kind octets text h e
part_has kind (CompressibleName name) text h e = compressible_has kind name text h e
part_has kind (UncompressedPart lowered name) text h e = uncompressed_has kind lowered name text h e

-- a field and the others
field_joined : (first : List ℕ) (value others : Option (List ℕ)) (text : List ℕ) → (Some first ++? value) ++? others ≡ Some text
    → (own left : List ℕ) × (value ≡ Some own) × (others ≡ Some left) × (first ++ own ++ left ≡ text)
field_joined first None others text e = absurd (cc e)
field_joined first (Some own) None text e = absurd (cc e)
field_joined first (Some own) (Some left) text e = (own, left, refl, refl, some_same (first ++ own ++ left) text e)

-- a field after a space, if it needs one, and the others
others_after : (opens : Bool) (own left : List ℕ) (words others : List (List ℕ)) → AreSpaced own words → Opens opens own → AreSpaced left others → EndsWord left
    → AreSpaced ((if opens then [] else codes " ") ++ own ++ left) (words ++ others) × EndsWord ((if opens then [] else codes " ") ++ own ++ left)
others_after true own left words others h at g ends = (spaced_append own left words others h ends g, ends_append own left at ends)
others_after false own left words others h at g ends = (space (spaced_append own left words others h ends g), refl)

-- the first field and the others
first_before : (opens : Bool) (own left : List ℕ) (words others : List (List ℕ)) → AreSpaced own words → AreSpaced left others → EndsWord left
    → AreSpaced ((if opens then [] else []) ++ own ++ left) (words ++ others)
first_before true own left words others h g ends = spaced_append own left words others h ends g
first_before false own left words others h g ends = spaced_append own left words others h ends g

abbrev IsField : NamedPart → Type 0
IsField field = IsPartOf (shape_of field.kind) field.part

-- a text of the words of fields
abbrev HasFields : Bool → List NamedPart → List ℕ → Type 0
HasFields opens fields text = (words : List (List ℕ)) × AreSpaced text words × Opens opens text × AreWordsOfFields fields words

no_fields : (opens : Bool) (text : List ℕ) → Opens opens [] → Some [] ≡ Some text → HasFields opens [] text
no_fields opens text at e =
    let none : List ℕ = [] in subst (λ (xs : List ℕ). HasFields opens [] xs) (some_same none text e) ([], no_words, at, refl)

others_have : (fields : List NamedPart) (text : List ℕ) → HaveParts fields → fields_text (codes " ") fields ≡ Some text → HasFields true fields text
others_have [] text all e = no_fields true text tt e
others_have (field ∷ fields) text all e =
    let parts = field_joined (space_before field.kind (codes " ")) (value_text field.kind (part_value field.kind field.part)) (fields_text (codes " ") fields) text e in
    let own = part_has field.kind field.part parts.0 (All-head IsField field fields all) parts.2 in
    let left = others_have fields parts.1 (All-tail IsField field fields all) parts.3 in
    let both = others_after (begins_with_space field.kind) parts.0 parts.1 own.0 left.0 own.1 own.2 left.1 left.2 in
    let words : AreWordsOfFields (field ∷ fields) (own.0 ++ left.0) = (own.0, left.0, refl, (parts.0, parts.2, words_are parts.0 own.0 own.1), left.3) in
    subst (λ (xs : List ℕ). HasFields true (field ∷ fields) xs) parts.4 (own.0 ++ left.0, both.0, both.1, words)

fields_have : (fields : List NamedPart) (text : List ℕ) → HaveParts fields → fields_text [] fields ≡ Some text → HasFields false fields text
fields_have [] text all e = no_fields false text tt e
fields_have (field ∷ fields) text all e =
    let parts = field_joined (space_before field.kind []) (value_text field.kind (part_value field.kind field.part)) (fields_text (codes " ") fields) text e in
    let own = part_has field.kind field.part parts.0 (All-head IsField field fields all) parts.2 in
    let left = others_have fields parts.1 (All-tail IsField field fields all) parts.3 in
    let both = first_before (begins_with_space field.kind) parts.0 parts.1 own.0 left.0 own.1 left.1 left.2 in
    let words : AreWordsOfFields (field ∷ fields) (own.0 ++ left.0) = (own.0, left.0, refl, (parts.0, parts.2, words_are parts.0 own.0 own.1), left.3) in
    subst (λ (xs : List ℕ). HasFields false (field ∷ fields) xs) parts.4 (own.0 ++ left.0, both, tt, words)

-- The text of fields is split into their words.
pub fields_split : (fields : List NamedPart) (text : List ℕ) → HaveParts fields → fields_text [] fields ≡ Some text
    → (words : List (List ℕ)) × AreWordsOfFields fields words × AreWordsOf text words
fields_split fields text all e = let h = fields_have fields text all e in (h.0, h.3, words_are text h.0 h.1)
