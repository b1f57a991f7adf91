-- The parts of values have the layout of their fields.
use Rattle.std.proofs.Common.{◌≡◌, ◌≢◌, ◌∙◌, ℕ, ◌+◌, ◌*◌, ◌/◌, ◌%◌, ◌≤◌, Bool, true, false, List, [], ◌∷◌, ◌++◌, length, refl, ap, sym, subst, arith}
use Rattle.std.specs.Prelude.{not, nat_le, ◌&&◌, if◌then◌else◌, ◌==◌}
use Rattle.std.specs.Borrow.{Bor}
use Rattle.std.specs.List.{list_all}
use Rattle.std.proofs.lemmas.Bool.{and_from, and_parts, le-leb, true≢false}
use Rattle.std.proofs.lemmas.List.{length-append}
use Rattle.std.proofs.Math.Seq.{drop-append_seam}
use Rattle.dns_name.specs.ParsedName.{labels}
use Rattle.dns_name.specs.Unique.{encoded_name}
use Rattle.dns_name.specs.declared.parsed_name.ParsedName.{ParsedName}
use Rattle.dns_wire.specs.Parts.{Part, AreParts}
use Rattle.dns_wire.specs.Parts.Part.{Octets as OctetsPart}
use Rattle.dns_data.specs.Layout.{Layout, IsLaidOut}
use Rattle.dns_data.specs.Layout.Layout.{End, Fixed, CharacterString, SizedOctets}
use Rattle.fields_table.specs.Accepts.{accepts}
use Rattle.fields_table.specs.Layouts.{field_layout, layout_of, rest_is_last, takes_rest}
use Rattle.fields_table.specs.RecordTypes.{TypeDefinition}
use Rattle.fields_table.specs.Shapes.{shape_of}
use Rattle.fields_parameters.specs.Parameters.{parameters_after}
use Rattle.fields_lists.specs.Prefixes.{prefixes_after}
use Rattle.fields_lists.specs.Strings.{strings_after}
use Rattle.fields_table.specs.Table.{Definition, fields_in, kinds_in}
use Rattle.fields_table.specs.declared.kind.Kind.{Kind}
use Rattle.fields_table.specs.declared.kind.Kind.TheVariants as kinds
use Rattle.fields_table.specs.declared.shape.Shape.{Shape}
use Rattle.fields_table.specs.declared.shape.Shape.TheVariants as shapes
use Rattle.fields_lists.proofs.theory.SkippedItems.{skip_address, skip_string}
use Rattle.fields_parameters.proofs.theory.SkippedValues.{skip_value}
use Rattle.fields_lists.specs.declared.prefixes.AddressPrefix.{AddressPrefix}
use Rattle.fields_values.specs.Forms.{value_form}
use Rattle.fields_values.specs.NewValues.{AreParametersIn, ArePrefixesIn, AreStringsIn, IsEncodedAs, IsPartIn, IsValueOf, name_part}
use Rattle.fields_values.specs.ValueData.{AreValuesOf}
use Rattle.fields_values.specs.declared.form.Form.{Form}
use Rattle.fields_values.specs.declared.form.Form.TheVariants as forms
use Rattle.fields_values.specs.declared.new_value.NewValue.{NewValue}
use Rattle.fields_values.specs.declared.new_value.NewValue.TheVariants as values
use Rattle.fields_values.proofs.FormOctets.{gateway_is, identity_is, relay_is}
use Rattle.fields_values.proofs.NumberLemmas.{length-last_octets}

-- lists

string_skipped : (string after : List ℕ) → strings_after (length string) (string ++ after) ≡ strings_after 0 after
string_skipped string after =
    skip_string (length string) (string ++ after) (omega (arith, length-append string after)) ∙ ap (λ (xs : List ℕ). strings_after 0 xs) (drop-append_seam string after)

value_skipped : (least : ℕ) (value after : List ℕ) → parameters_after least (length value) (value ++ after) ≡ parameters_after least 0 after
value_skipped least value after =
    skip_value least (length value) (value ++ after) (omega (arith, length-append value after)) ∙ ap (λ (xs : List ℕ). parameters_after least 0 xs) (drop-append_seam value after)

address_skipped : (address after : List ℕ) → prefixes_after (length address) (address ++ after) ≡ prefixes_after 0 after
address_skipped address after =
    skip_address (length address) (address ++ after) (omega (arith, length-append address after)) ∙ ap (λ (xs : List ℕ). prefixes_after 0 xs) (drop-append_seam address after)

strings_follow : (strings : List (Bor (List ℕ))) (octets : List ℕ) → AreStringsIn strings octets → strings_after 0 octets ≡ true
strings_follow [] octets are = ap (λ (xs : List ℕ). strings_after 0 xs) are
strings_follow (string ∷ strings) octets (first, after, (short, is), whole, are) =
    ap (λ (xs : List ℕ). strings_after 0 xs) (whole ∙ ap (λ (xs : List ℕ). xs ++ after) is) ∙ string_skipped string.now after ∙ strings_follow strings after are

are_accepted : (strings : List (Bor (List ℕ))) (octets : List ℕ) → strings ≢ [] → AreStringsIn strings octets → accepts kinds.Strings octets ≡ true
are_accepted [] octets some are = absurd (some refl)
are_accepted (string ∷ strings) octets some (first, after, (short, is), whole, are) =
    ap (λ (xs : List ℕ). accepts kinds.Strings xs) (whole ∙ ap (λ (xs : List ℕ). xs ++ after) is) ∙ string_skipped string.now after ∙ strings_follow strings after are

parameters_follow : (least : ℕ) (parameters : List (ℕ × Bor (List ℕ))) (octets : List ℕ) → AreParametersIn least parameters octets → parameters_after least 0 octets ≡ true
parameters_follow least [] octets are = ap (λ (xs : List ℕ). parameters_after least 0 xs) are
parameters_follow least (parameter ∷ parameters) octets (first, after, (known, small, short, is), whole, are) =
    let key = parameter.0 in
    let value = parameter.1.now in
    let n = length value in
    let same : key / 256 * 256 + key % 256 ≡ key = omega arith in
    let size : n / 256 * 256 + n % 256 ≡ n = omega arith in
    ap (λ (xs : List ℕ). parameters_after least 0 xs) (whole ∙ ap (λ (xs : List ℕ). xs ++ after) is)
    ∙ (λ i. nat_le least (same i) && parameters_after (same i + 1) (size i) (value ++ after))
    ∙ and_from (nat_le least key) (parameters_after (key + 1) n (value ++ after)) (le-leb least key known)
    (value_skipped (key + 1) value after ∙ parameters_follow (key + 1) parameters after are)

bits_size : (negated : Bool) (n : ℕ) → n ≤ 127 → ((if negated then 128 else 0) + n) % 128 ≡ n
bits_size true n short = omega arith
bits_size false n short = omega arith

prefixes_follow : (prefixes : List AddressPrefix) (octets : List ℕ) → ArePrefixesIn prefixes octets → prefixes_after 0 octets ≡ true
prefixes_follow [] octets are = ap (λ (xs : List ℕ). prefixes_after 0 xs) are
prefixes_follow (prefix ∷ prefixes) octets (first, after, (small, short, is), whole, are) =
    let address = prefix.address.now in
    ap (λ (xs : List ℕ). prefixes_after 0 xs) (whole ∙ ap (λ (xs : List ℕ). xs ++ after) is)
    ∙ ap (λ (n : ℕ). prefixes_after n (address ++ after)) (bits_size prefix.negated (length address) short)
    ∙ address_skipped address after ∙ prefixes_follow prefixes after are

-- fields of each form

number_size : (kind : Kind) (n : ℕ) (value : NewValue) (octets : List ℕ) → IsEncodedAs kind (forms.Number n) value octets → length octets ≡ n
number_size kind n (values.Number m) octets is = ap (λ (xs : List ℕ). length xs) is.1 ∙ length-last_octets n m
number_size kind n (values.Octets given) octets is = absurd is.0
number_size kind n _ octets is = absurd is

type_size : (kind : Kind) (value : NewValue) (octets : List ℕ) → IsEncodedAs kind forms.RecordType value octets → length octets ≡ 2
type_size kind (values.RecordType rtype) octets is = ap (λ (xs : List ℕ). length xs) is.1 ∙ length-last_octets 2 rtype
type_size kind (values.Octets given) octets is = absurd is.0
type_size kind _ octets is = absurd is

ipv4_size : (kind : Kind) (value : NewValue) (octets : List ℕ) → IsEncodedAs kind forms.Ipv4 value octets → length octets ≡ 4
ipv4_size kind (values.Ipv4 address) octets is = ap (λ (xs : List ℕ). length xs) is.1 ∙ is.0
ipv4_size kind (values.Octets given) octets is = absurd is.0
ipv4_size kind _ octets is = absurd is

ipv6_size : (kind : Kind) (value : NewValue) (octets : List ℕ) → IsEncodedAs kind forms.Ipv6 value octets → length octets ≡ 16
ipv6_size kind (values.Ipv6 address) octets is = ap (λ (xs : List ℕ). length xs) is.1 ∙ is.0
ipv6_size kind (values.Octets given) octets is = absurd is.0
ipv6_size kind _ octets is = absurd is

eui48_size : (kind : Kind) (value : NewValue) (octets : List ℕ) → IsEncodedAs kind forms.Eui48 value octets → length octets ≡ 6
eui48_size kind (values.Eui48 address) octets is = ap (λ (xs : List ℕ). length xs) is.1 ∙ is.0
eui48_size kind (values.Octets given) octets is = ap (λ (xs : List ℕ). length xs) is.1 ∙ is.0
eui48_size kind _ octets is = absurd is

eui64_size : (kind : Kind) (value : NewValue) (octets : List ℕ) → IsEncodedAs kind forms.Eui64 value octets → length octets ≡ 8
eui64_size kind (values.Eui64 address) octets is = ap (λ (xs : List ℕ). length xs) is.1 ∙ is.0
eui64_size kind (values.Octets given) octets is = ap (λ (xs : List ℕ). length xs) is.1 ∙ is.0
eui64_size kind _ octets is = absurd is

locator_size : (kind : Kind) (value : NewValue) (octets : List ℕ) → IsEncodedAs kind forms.Locator64 value octets → length octets ≡ 8
locator_size kind (values.Locator64 locator) octets is = ap (λ (xs : List ℕ). length xs) is.1 ∙ is.0
locator_size kind (values.Octets given) octets is = ap (λ (xs : List ℕ). length xs) is.1 ∙ is.0
locator_size kind _ octets is = absurd is

location_size : (kind : Kind) (value : NewValue) (octets : List ℕ) → IsEncodedAs kind forms.Location value octets → length octets ≡ 16
location_size kind (values.Location location) octets is = ap (λ (xs : List ℕ). length xs) is
location_size kind (values.Octets given) octets is = ap (λ (xs : List ℕ). length xs) is.1 ∙ is.0
location_size kind _ octets is = absurd is

counted_laid : (kind : Kind) (value : NewValue) (octets : List ℕ) (others : Layout) (rest : List Part) → IsEncodedAs kind forms.Counted value octets → IsLaidOut others rest
    → IsLaidOut (CharacterString others) (OctetsPart octets ∷ rest)
counted_laid kind (values.String string) octets others rest is h =
    subst (λ (xs : List ℕ). IsLaidOut (CharacterString others) (OctetsPart xs ∷ rest)) (sym is.1) (omega arith, h)
counted_laid kind (values.Octets given) octets others rest is h = absurd is.0
counted_laid kind _ octets others rest is h = absurd is

sized_laid : (kind : Kind) (value : NewValue) (octets : List ℕ) (others : Layout) (rest : List Part) → IsEncodedAs kind forms.Sized value octets → IsLaidOut others rest
    → IsLaidOut (SizedOctets others) (OctetsPart octets ∷ rest)
sized_laid kind (values.Sized string) octets others rest is h =
    let n = length string.now in
    let short = is.0 in
    subst (λ (xs : List ℕ). IsLaidOut (SizedOctets others) (OctetsPart xs ∷ rest)) (sym is.1) (omega arith, h)
sized_laid kind (values.Octets given) octets others rest is h = absurd is.0
sized_laid kind _ octets others rest is h = absurd is

-- what a field that takes all octets accepts
given_accepted : (kind : Kind) (given : Bor (List ℕ)) (octets : List ℕ) → (accepts kind given.now ≡ true) × (octets ≡ given.now) → accepts kind octets ≡ true
given_accepted kind given octets is = ap (λ (xs : List ℕ). accepts kind xs) is.1 ∙ is.0

strings_accepted : (value : NewValue) (octets : List ℕ) → IsEncodedAs kinds.Strings forms.Strings value octets → accepts kinds.Strings octets ≡ true
strings_accepted (values.Strings strings) octets is = are_accepted strings.now octets is.0 is.1
strings_accepted (values.Octets given) octets is = given_accepted kinds.Strings given octets is
strings_accepted _ octets is = absurd is

types_accepted : (value : NewValue) (octets : List ℕ) → IsEncodedAs kinds.TypeBitMap forms.Types value octets → accepts kinds.TypeBitMap octets ≡ true
types_accepted (values.Types types) octets is = is.blocks
types_accepted (values.Octets given) octets is = given_accepted kinds.TypeBitMap given octets is
types_accepted _ octets is = absurd is

parameters_accepted : (value : NewValue) (octets : List ℕ) → IsEncodedAs kinds.ServiceParameters forms.Parameters value octets → accepts kinds.ServiceParameters octets ≡ true
parameters_accepted (values.Parameters parameters) octets is = parameters_follow 0 parameters.now octets is
parameters_accepted (values.Octets given) octets is = given_accepted kinds.ServiceParameters given octets is
parameters_accepted _ octets is = absurd is

prefixes_accepted : (value : NewValue) (octets : List ℕ) → IsEncodedAs kinds.AddressPrefixes forms.Prefixes value octets → accepts kinds.AddressPrefixes octets ≡ true
prefixes_accepted (values.Prefixes prefixes) octets is = prefixes_follow prefixes.now octets is
prefixes_accepted (values.Octets given) octets is = given_accepted kinds.AddressPrefixes given octets is
prefixes_accepted _ octets is = absurd is

gateway_accepted : (value : NewValue) (octets : List ℕ) → IsEncodedAs kinds.GatewayAndKey forms.Gateway value octets → accepts kinds.GatewayAndKey octets ≡ true
gateway_accepted (values.GatewayAndKey value) octets is = gateway_is value octets is
gateway_accepted (values.Octets given) octets is = given_accepted kinds.GatewayAndKey given octets is
gateway_accepted _ octets is = absurd is

relay_accepted : (value : NewValue) (octets : List ℕ) → IsEncodedAs kinds.Relay forms.Relay value octets → accepts kinds.Relay octets ≡ true
relay_accepted (values.Relay value) octets is = relay_is value octets is
relay_accepted (values.Octets given) octets is = given_accepted kinds.Relay given octets is
relay_accepted _ octets is = absurd is

identity_accepted : (value : NewValue) (octets : List ℕ) → IsEncodedAs kinds.HostIdentity forms.Identity value octets → accepts kinds.HostIdentity octets ≡ true
identity_accepted (values.HostIdentity value) octets is = identity_is value octets is
identity_accepted (values.Octets given) octets is = given_accepted kinds.HostIdentity given octets is
identity_accepted _ octets is = absurd is

rest_accepted : (kind : Kind) (value : NewValue) (octets : List ℕ) → IsEncodedAs kind forms.Rest value octets → accepts kind octets ≡ true
rest_accepted kind (values.Octets given) octets is = given_accepted kind given octets is
rest_accepted kind _ octets is = absurd is

-- a name, or octets
name_laid : (kind : Kind) (value : NewValue) (part : Part) → IsPartIn kind forms.Name value part → (name : ParsedName) × (part ≡ name_part (shape_of kind) (labels name))
name_laid kind (values.Name name) part is = (name, is)
name_laid kind (values.Octets given) part is = absurd is.2.0
name_laid kind _ part is = absurd is.2

module _ (others : Layout) (rest : List Part) (after : IsLaidOut others rest) where
  compressible_laid : (value : NewValue) (part : Part) → IsPartIn kinds.CompressibleName forms.Name value part
      → IsLaidOut (field_layout shapes.Name (accepts kinds.CompressibleName) others) (part ∷ rest)
  compressible_laid value part is =
      let own = name_laid kinds.CompressibleName value part is in
      subst (λ (p : Part). IsLaidOut (field_layout shapes.Name (accepts kinds.CompressibleName) others) (p ∷ rest)) (sym own.1) after

  uncompressed_laid : (kind : Kind) (pointers lowers : Bool) (value : NewValue) (part : Part) → shape_of kind ≡ shapes.UncompressedName pointers lowers → IsPartIn kind forms.Name value part
      → IsLaidOut (field_layout (shapes.UncompressedName pointers lowers) (accepts kind) others) (part ∷ rest)
  uncompressed_laid kind pointers lowers value part shape is =
      let own = name_laid kind value part is in
      subst (λ (p : Part). IsLaidOut (field_layout (shapes.UncompressedName pointers lowers) (accepts kind) others) (p ∷ rest))
      (sym (own.1 ∙ ap (λ (s : Shape). name_part s (labels own.0)) shape)) (refl, after)

  fixed_laid : (n : ℕ) (octets : List ℕ) (part : Part) → part ≡ OctetsPart octets → length octets ≡ n → IsLaidOut (Fixed n others) (part ∷ rest)
  fixed_laid n octets part e size = subst (λ (p : Part). IsLaidOut (Fixed n others) (p ∷ rest)) (sym e) (size, after)

  rest_laid : (kind : Kind) (octets : List ℕ) (part : Part) → part ≡ OctetsPart octets → accepts kind octets ≡ true → rest ≡ []
      → IsLaidOut (field_layout shapes.Rest (accepts kind) others) (part ∷ rest)
  rest_laid kind octets part e is last = (octets, (λ i. e i ∷ last i), is)

  -- the part of a value in a field of any kind; a field that takes all octets is the last
  field_laid : (kind : Kind) (value : NewValue) (part : Part) → IsValueOf kind value part → (takes_rest (shape_of kind) ≡ true → rest ≡ [])
      → IsLaidOut (field_layout (shape_of kind) (accepts kind) others) (part ∷ rest)
  field_laid kinds.Number8 value part is last = fixed_laid 1 is.0 part is.1 (number_size kinds.Number8 1 value is.0 is.2)
  field_laid kinds.Number16 value part is last = fixed_laid 2 is.0 part is.1 (number_size kinds.Number16 2 value is.0 is.2)
  field_laid kinds.Number32 value part is last = fixed_laid 4 is.0 part is.1 (number_size kinds.Number32 4 value is.0 is.2)
  field_laid kinds.Number48 value part is last = fixed_laid 6 is.0 part is.1 (number_size kinds.Number48 6 value is.0 is.2)
  field_laid kinds.Number64 value part is last = fixed_laid 8 is.0 part is.1 (number_size kinds.Number64 8 value is.0 is.2)
  field_laid kinds.SyncScheme value part is last = fixed_laid 1 is.0 part is.1 (number_size kinds.SyncScheme 1 value is.0 is.2)
  field_laid kinds.Seconds value part is last = fixed_laid 4 is.0 part is.1 (number_size kinds.Seconds 4 value is.0 is.2)
  field_laid kinds.Time value part is last = fixed_laid 4 is.0 part is.1 (number_size kinds.Time 4 value is.0 is.2)
  field_laid kinds.Ipv4 value part is last = fixed_laid 4 is.0 part is.1 (ipv4_size kinds.Ipv4 value is.0 is.2)
  field_laid kinds.Ipv6 value part is last = fixed_laid 16 is.0 part is.1 (ipv6_size kinds.Ipv6 value is.0 is.2)
  field_laid kinds.Eui48 value part is last = fixed_laid 6 is.0 part is.1 (eui48_size kinds.Eui48 value is.0 is.2)
  field_laid kinds.Eui64 value part is last = fixed_laid 8 is.0 part is.1 (eui64_size kinds.Eui64 value is.0 is.2)
  field_laid kinds.Locator64 value part is last = fixed_laid 8 is.0 part is.1 (locator_size kinds.Locator64 value is.0 is.2)
  field_laid kinds.RecordType value part is last = fixed_laid 2 is.0 part is.1 (type_size kinds.RecordType value is.0 is.2)
  field_laid kinds.CompressibleName value part is last = compressible_laid value part is
  field_laid kinds.PointedName value part is last = uncompressed_laid kinds.PointedName true true value part refl is
  field_laid kinds.LowercasedName value part is last = uncompressed_laid kinds.LowercasedName false true value part refl is
  field_laid kinds.PlainName value part is last = uncompressed_laid kinds.PlainName false false value part refl is
  field_laid kinds.CharacterString value part is last = subst (λ (p : Part). IsLaidOut (CharacterString others) (p ∷ rest)) (sym is.1)
      (counted_laid kinds.CharacterString value is.0 others rest is.2 after)
  field_laid kinds.Tag value part is last = subst (λ (p : Part). IsLaidOut (CharacterString others) (p ∷ rest)) (sym is.1) (counted_laid kinds.Tag value is.0 others rest is.2 after)
  field_laid kinds.Salt value part is last = subst (λ (p : Part). IsLaidOut (CharacterString others) (p ∷ rest)) (sym is.1) (counted_laid kinds.Salt value is.0 others rest is.2 after)
  field_laid kinds.Hash value part is last = subst (λ (p : Part). IsLaidOut (CharacterString others) (p ∷ rest)) (sym is.1) (counted_laid kinds.Hash value is.0 others rest is.2 after)
  field_laid kinds.SizedOctets value part is last = subst (λ (p : Part). IsLaidOut (SizedOctets others) (p ∷ rest)) (sym is.1) (sized_laid kinds.SizedOctets value is.0 others rest is.2 after)
  field_laid kinds.Strings value part is last = rest_laid kinds.Strings is.0 part is.1 (strings_accepted value is.0 is.2) (last refl)
  field_laid kinds.Text value part is last = rest_laid kinds.Text is.0 part is.1 (rest_accepted kinds.Text value is.0 is.2) (last refl)
  field_laid kinds.Hexadecimal value part is last = rest_laid kinds.Hexadecimal is.0 part is.1 (rest_accepted kinds.Hexadecimal value is.0 is.2) (last refl)
  field_laid kinds.Base64 value part is last = rest_laid kinds.Base64 is.0 part is.1 (rest_accepted kinds.Base64 value is.0 is.2) (last refl)
  field_laid kinds.Base64OrHyphen value part is last = rest_laid kinds.Base64OrHyphen is.0 part is.1 (rest_accepted kinds.Base64OrHyphen value is.0 is.2) (last refl)
  field_laid kinds.TypeBitMap value part is last = rest_laid kinds.TypeBitMap is.0 part is.1 (types_accepted value is.0 is.2) (last refl)
  field_laid kinds.SmallTypeBitMap value part is last = rest_laid kinds.SmallTypeBitMap is.0 part is.1 (rest_accepted kinds.SmallTypeBitMap value is.0 is.2) (last refl)
  field_laid kinds.ServiceParameters value part is last = rest_laid kinds.ServiceParameters is.0 part is.1 (parameters_accepted value is.0 is.2) (last refl)
  field_laid kinds.AddressPrefixes value part is last = rest_laid kinds.AddressPrefixes is.0 part is.1 (prefixes_accepted value is.0 is.2) (last refl)
  field_laid kinds.Location value part is last = fixed_laid 16 is.0 part is.1 (location_size kinds.Location value is.0 is.2)
  field_laid kinds.GatewayAndKey value part is last = rest_laid kinds.GatewayAndKey is.0 part is.1 (gateway_accepted value is.0 is.2) (last refl)
  field_laid kinds.Relay value part is last = rest_laid kinds.Relay is.0 part is.1 (relay_accepted value is.0 is.2) (last refl)
  field_laid kinds.HostIdentity value part is last = rest_laid kinds.HostIdentity is.0 part is.1 (identity_accepted value is.0 is.2) (last refl)
  field_laid kinds.Opaque value part is last = rest_laid kinds.Opaque is.0 part is.1 (rest_accepted kinds.Opaque value is.0 is.2) (last refl)

-- all fields

-- Parts of values are laid out as the kinds of the values say.
pub values_laid : (ks : List Kind) (vs : List NewValue) (parts : List Part) → rest_is_last ks ≡ true → AreValuesOf ks vs parts → IsLaidOut (layout_of ks) parts
unfolding layout_of
values_laid [] [] [] last are = refl
values_laid (kind ∷ []) (value ∷ []) (part ∷ []) last are = field_laid End [] refl kind value part are.0 (λ _. refl)
values_laid (kind ∷ next ∷ ks) (value ∷ vs) (part ∷ parts) last are =
    let both = and_parts (not (takes_rest (shape_of kind))) (rest_is_last (next ∷ ks)) last in
    field_laid (layout_of (next ∷ ks)) parts (values_laid (next ∷ ks) vs parts both.1 are.1) kind value part are.0
    (λ takes. absurd (true≢false (sym both.0 ∙ ap (λ (b : Bool). not b) takes)))
values_laid [] [] (part ∷ parts) last are = absurd are
values_laid [] (value ∷ vs) parts last are = absurd are
values_laid (kind ∷ ks) [] parts last are = absurd are
values_laid (kind ∷ ks) (value ∷ vs) [] last are = absurd are
values_laid (kind ∷ []) (value ∷ []) (part ∷ next ∷ parts) last are = absurd are.1
values_laid (kind ∷ []) (value ∷ next ∷ vs) (part ∷ parts) last are = absurd are.1

-- the names among the parts are names
name_is : (kind : Kind) (shape : Shape) (name : ParsedName) (parts : List Part) → AreParts parts → AreParts (name_part shape (labels name) ∷ parts)
name_is kind (shapes.UncompressedName pointers lowers) name parts are = (encoded_name name.name_at.0.1, are)
name_is kind _ name parts are = (encoded_name name.name_at.0.1, are)

part_is : (kind : Kind) (form : Form) (value : NewValue) (part : Part) (parts : List Part) → IsPartIn kind form value part → AreParts parts → AreParts (part ∷ parts)
part_is kind forms.Name (values.Name name) part parts is are = subst (λ (p : Part). AreParts (p ∷ parts)) (sym is) (name_is kind (shape_of kind) name parts are)
part_is kind form value part parts is are = subst (λ (p : Part). AreParts (p ∷ parts)) (sym is.1) are

-- Parts of values are parts.
pub values_are : (ks : List Kind) (vs : List NewValue) (parts : List Part) → AreValuesOf ks vs parts → AreParts parts
values_are [] [] [] are = tt
values_are (kind ∷ ks) (value ∷ vs) (part ∷ parts) are = part_is kind (value_form kind) value part parts are.0 (values_are ks vs parts are.1)
values_are [] [] (part ∷ parts) are = absurd are
values_are [] (value ∷ vs) parts are = absurd are
values_are (kind ∷ ks) [] parts are = absurd are
values_are (kind ∷ ks) (value ∷ vs) [] are = absurd are

-- the last field of each type
by_test : (own others : List Definition) (b : Bool) → rest_is_last (kinds_in own) ≡ true → rest_is_last (kinds_in others) ≡ true → rest_is_last (kinds_in (if b then own else others)) ≡ true
by_test own others true first after = first
by_test own others false first after = after

-- In each type, a field that takes the rest is the last.
pub type_last : (types : List TypeDefinition) (rtype : ℕ) → list_all (λ type. rest_is_last (kinds_in type.fields)) types ≡ true → rest_is_last (kinds_in (fields_in types rtype)) ≡ true
type_last [] rtype all = refl
type_last (type ∷ types) rtype all =
    let both = and_parts (rest_is_last (kinds_in type.fields)) (list_all (λ type. rest_is_last (kinds_in type.fields)) types) all in
    by_test type.fields (fields_in types rtype) (type.number == rtype) both.0 (type_last types rtype both.1)
