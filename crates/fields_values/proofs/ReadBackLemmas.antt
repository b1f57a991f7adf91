-- Values of fields read back.
use Rattle.std.proofs.Common.{◌≡◌, ◌∙◌, ℕ, ◌+◌, ◌*◌, ◌/◌, ◌%◌, ◌≤◌, Bool, true, false, List, [], ◌∷◌, ◌++◌, drop, length, take, Some, refl, ap, arith}
use Rattle.std.proofs.Math.Seq.{drop-append_seam, take-append_seam}
use Rattle.std.specs.Prelude.{if◌then◌else◌, map, nat_le}
use Rattle.std.specs.Borrow.{Bor}
use Rattle.std.proofs.lemmas.Bool.{le-leb, lt-leb}
use Rattle.dns_name.specs.ParsedName.{labels}
use Rattle.dns_wire.specs.Parts.{Part}
use Rattle.dns_wire.specs.Parts.Part.{Octets as OctetsPart}
use Rattle.fields_table.specs.Shapes.{shape_of}
use Rattle.fields_table.specs.Values.{Number, RecordType, Ipv4, Ipv6, Name, String, Sized, Octets, number_after, octets_value, part_value}
use Rattle.fields_table.specs.declared.kind.Kind.{Kind}
use Rattle.fields_table.specs.declared.kind.Kind.TheVariants as kinds
use Rattle.fields_table.specs.declared.shape.Shape.{Shape}
use Rattle.fields_table.specs.declared.shape.Shape.TheVariants as shapes
use Rattle.fields_forms.specs.LocationItems.{location_item}
use Rattle.fields_forms.specs.LocationWords.{location_octets}
use Rattle.fields_lists.proofs.theory.ItemLemmas.{items_of_first}
use Rattle.fields_parameters.proofs.theory.Shrinking.{parameter_shrinks}
use Rattle.fields_lists.proofs.theory.Shrinking.{prefix_shrinks, string_shrinks}
use Rattle.fields_lists.specs.ItemsLeft.{prefix_item}
use Rattle.fields_parameters.specs.ParameterItems.{ParameterItem, parameter_at, parameter_octets, parameters_of}
use Rattle.fields_lists.specs.PrefixItems.{PrefixItem, prefix_at, prefixes_of}
use Rattle.fields_lists.specs.Strings.{string_at, strings_of}
use Rattle.fields_lists.specs.declared.prefixes.AddressPrefix.{AddressPrefix}
use Rattle.fields_lists.specs.PrefixWords.{prefix_octets}
use Rattle.fields_values.specs.NewValues.{AreParametersIn, ArePrefixesIn, AreStringsIn, IsPartIn, IsValueOf, name_part, parameter_of}
use Rattle.fields_values.specs.ReadBack.{ReadsBack}
use Rattle.fields_values.specs.declared.form.Form.TheVariants as forms
use Rattle.fields_values.specs.declared.new_value.NewValue.{NewValue}
use Rattle.fields_values.specs.declared.new_value.NewValue.TheVariants as values
use Rattle.fields_values.proofs.NumberLemmas.{number_back}

-- lists

strings_back : (strings : List (Bor (List ℕ))) (octets : List ℕ) → AreStringsIn strings octets → strings_of octets ≡ map (λ s. s.now) strings
strings_back [] octets are = ap strings_of are
strings_back (string ∷ strings) octets (first, after, (short, is), whole, are) =
    ap strings_of (whole ∙ ap (λ (xs : List ℕ). xs ++ after) is)
    ∙ items_of_first string_at string_shrinks (length string.now ∷ (string.now ++ after)) after string.now (λ i. Some (take-append_seam string.now after i, drop-append_seam string.now after i))
    ∙ ap (λ (ss : List (List ℕ)). string.now ∷ ss) (strings_back strings after are)

parameters_back : (least : ℕ) (parameters : List (ℕ × Bor (List ℕ))) (octets : List ℕ) → AreParametersIn least parameters octets → parameters_of octets ≡ map parameter_of parameters
parameters_back least [] octets are = ap parameters_of are
parameters_back least (parameter ∷ parameters) octets (first, after, (known, small, short, is), whole, are) =
    let key = parameter.0 in
    let value = parameter.1.now in
    let n = length value in
    let same : key / 256 * 256 + key % 256 ≡ key = omega arith in
    let size : n / 256 * 256 + n % 256 ≡ n = omega arith in
    ap parameters_of (whole ∙ ap (λ (xs : List ℕ). xs ++ after) is)
    ∙ items_of_first parameter_at parameter_shrinks (parameter_octets (parameter_of parameter) ++ after) after (parameter_of parameter)
    ((λ i. Some (record { key = same i; value = take (size i) (value ++ after) }, drop (size i) (value ++ after)))
    ∙ (λ i. Some (record { key = key; value = take-append_seam value after i }, drop-append_seam value after i)))
    ∙ ap (λ (ps : List ParameterItem). parameter_of parameter ∷ ps) (parameters_back (key + 1) parameters after are)

sign_back : (negated : Bool) (n : ℕ) → n ≤ 127 → (nat_le 128 ((if negated then 128 else 0) + n) ≡ negated) × (((if negated then 128 else 0) + n) % 128 ≡ n)
sign_back true n short = (le-leb 128 (128 + n) (omega arith), omega arith)
sign_back false n short = (lt-leb 128 (0 + n) (omega arith), omega arith)

prefixes_back : (prefixes : List AddressPrefix) (octets : List ℕ) → ArePrefixesIn prefixes octets → prefixes_of octets ≡ map prefix_item prefixes
prefixes_back [] octets are = ap prefixes_of are
prefixes_back (prefix ∷ prefixes) octets (first, after, (small, short, is), whole, are) =
    let address = prefix.address.now in
    let family = prefix.family in
    let same : family / 256 * 256 + family % 256 ≡ family = omega arith in
    let signed = sign_back prefix.negated (length address) short in
    ap prefixes_of (whole ∙ ap (λ (xs : List ℕ). xs ++ after) is)
    ∙ items_of_first prefix_at prefix_shrinks (prefix_octets (prefix_item prefix) ++ after) after (prefix_item prefix)
    ((λ i. Some (record { family = same i; size = prefix.size; negated = signed.0 i; address = take (signed.1 i) (address ++ after) }, drop (signed.1 i) (address ++ after)))
    ∙ (λ i. Some (record { family = family; size = prefix.size; negated = prefix.negated; address = take-append_seam address after i }, drop-append_seam address after i)))
    ∙ ap (λ (ps : List PrefixItem). prefix_item prefix ∷ ps) (prefixes_back prefixes after are)

-- fields by their form

number_read : (kind : Kind) (size : ℕ) (value : NewValue) (part : Part) → ((octets : List ℕ) → octets_value kind octets ≡ Number (number_after 0 octets))
    → IsPartIn kind (forms.Number size) value part → ReadsBack value (part_value kind part)
number_read kind size (values.Number n) part own (octets, e, (small, is)) =
    ap (λ (p : Part). part_value kind p) e ∙ own octets ∙ ap (λ (xs : List ℕ). Number (number_after 0 xs)) is ∙ ap (λ m. Number m) (number_back size n small)
number_read kind size (values.Octets given) part own is = absurd is.2.0
number_read kind size _ part own is = absurd is.2

type_read : (value : NewValue) (part : Part) → IsPartIn kinds.RecordType forms.RecordType value part → ReadsBack value (part_value kinds.RecordType part)
type_read (values.RecordType rtype) part (octets, e, (small, is)) =
    ap (λ (p : Part). part_value kinds.RecordType p) e ∙ ap (λ (xs : List ℕ). RecordType (number_after 0 xs)) is ∙ ap (λ m. RecordType m) (number_back 2 rtype (omega arith))
type_read (values.Octets given) part is = absurd is.2.0
type_read _ part is = absurd is.2

ipv4_read : (value : NewValue) (part : Part) → IsPartIn kinds.Ipv4 forms.Ipv4 value part → ReadsBack value (part_value kinds.Ipv4 part)
ipv4_read (values.Ipv4 address) part (octets, e, (four, is)) = ap (λ (p : Part). part_value kinds.Ipv4 p) e ∙ ap (λ (xs : List ℕ). Ipv4 xs) is
ipv4_read (values.Octets given) part is = absurd is.2.0
ipv4_read _ part is = absurd is.2

ipv6_read : (value : NewValue) (part : Part) → IsPartIn kinds.Ipv6 forms.Ipv6 value part → ReadsBack value (part_value kinds.Ipv6 part)
ipv6_read (values.Ipv6 address) part (octets, e, (sixteen, is)) = ap (λ (p : Part). part_value kinds.Ipv6 p) e ∙ ap (λ (xs : List ℕ). Ipv6 xs) is
ipv6_read (values.Octets given) part is = absurd is.2.0
ipv6_read _ part is = absurd is.2

string_read : (kind : Kind) (value : NewValue) (part : Part) → ((octets : List ℕ) → octets_value kind octets ≡ String (drop 1 octets))
    → IsPartIn kind forms.Counted value part → ReadsBack value (part_value kind part)
string_read kind (values.String string) part own (octets, e, (short, is)) = ap (λ (p : Part). part_value kind p) e ∙ own octets ∙ ap (λ (xs : List ℕ). String (drop 1 xs)) is
string_read kind (values.Octets given) part own is = absurd is.2.0
string_read kind _ part own is = absurd is.2

sized_read : (value : NewValue) (part : Part) → IsPartIn kinds.SizedOctets forms.Sized value part → ReadsBack value (part_value kinds.SizedOctets part)
sized_read (values.Sized string) part (octets, e, (short, is)) = ap (λ (p : Part). part_value kinds.SizedOctets p) e ∙ ap (λ (xs : List ℕ). Sized (drop 2 xs)) is
sized_read (values.Octets given) part is = absurd is.2.0
sized_read _ part is = absurd is.2

name_value : (kind : Kind) (shape : Shape) (name : _) → part_value kind (name_part shape name) ≡ Name name
name_value kind (shapes.UncompressedName pointers lowers) name = refl
name_value kind _ name = refl

name_read : (kind : Kind) (value : NewValue) (part : Part) → IsPartIn kind forms.Name value part → ReadsBack value (part_value kind part)
name_read kind (values.Name name) part is = ap (λ (p : Part). part_value kind p) is ∙ name_value kind (shape_of kind) (labels name)
name_read kind (values.Octets given) part is = absurd is.2.0
name_read kind _ part is = absurd is.2

-- octets as they are
plain_read : (kind : Kind) (given octets : List ℕ) (part : Part) → ((xs : List ℕ) → octets_value kind xs ≡ Octets xs) → part ≡ OctetsPart octets → octets ≡ given → part_value kind part ≡ Octets given
plain_read kind given octets part own e is = ap (λ (p : Part). part_value kind p) e ∙ own octets ∙ ap (λ (xs : List ℕ). Octets xs) is

eui48_read : (value : NewValue) (part : Part) → IsPartIn kinds.Eui48 forms.Eui48 value part → ReadsBack value (part_value kinds.Eui48 part)
eui48_read (values.Eui48 address) part (octets, e, (n, is)) = plain_read kinds.Eui48 address octets part (λ xs. refl) e is
eui48_read (values.Octets given) part (octets, e, (n, is)) = plain_read kinds.Eui48 given.now octets part (λ xs. refl) e is
eui48_read _ part is = absurd is.2

eui64_read : (value : NewValue) (part : Part) → IsPartIn kinds.Eui64 forms.Eui64 value part → ReadsBack value (part_value kinds.Eui64 part)
eui64_read (values.Eui64 address) part (octets, e, (n, is)) = plain_read kinds.Eui64 address octets part (λ xs. refl) e is
eui64_read (values.Octets given) part (octets, e, (n, is)) = plain_read kinds.Eui64 given.now octets part (λ xs. refl) e is
eui64_read _ part is = absurd is.2

locator_read : (value : NewValue) (part : Part) → IsPartIn kinds.Locator64 forms.Locator64 value part → ReadsBack value (part_value kinds.Locator64 part)
locator_read (values.Locator64 locator) part (octets, e, (n, is)) = plain_read kinds.Locator64 locator octets part (λ xs. refl) e is
locator_read (values.Octets given) part (octets, e, (n, is)) = plain_read kinds.Locator64 given.now octets part (λ xs. refl) e is
locator_read _ part is = absurd is.2

location_read : (value : NewValue) (part : Part) → IsPartIn kinds.Location forms.Location value part → ReadsBack value (part_value kinds.Location part)
location_read (values.Location location) part (octets, e, is) = plain_read kinds.Location (location_octets (location_item location)) octets part (λ xs. refl) e is
location_read (values.Octets given) part (octets, e, (n, is)) = plain_read kinds.Location given.now octets part (λ xs. refl) e is
location_read _ part is = absurd is.2

gateway_read : (value : NewValue) (part : Part) → IsPartIn kinds.GatewayAndKey forms.Gateway value part → ReadsBack value (part_value kinds.GatewayAndKey part)
gateway_read (values.GatewayAndKey value) part (octets, e, is) = (octets, plain_read kinds.GatewayAndKey octets octets part (λ xs. refl) e refl, is)
gateway_read (values.Octets given) part (octets, e, (n, is)) = plain_read kinds.GatewayAndKey given.now octets part (λ xs. refl) e is
gateway_read _ part is = absurd is.2

relay_read : (value : NewValue) (part : Part) → IsPartIn kinds.Relay forms.Relay value part → ReadsBack value (part_value kinds.Relay part)
relay_read (values.Relay value) part (octets, e, is) = (octets, plain_read kinds.Relay octets octets part (λ xs. refl) e refl, is)
relay_read (values.Octets given) part (octets, e, (n, is)) = plain_read kinds.Relay given.now octets part (λ xs. refl) e is
relay_read _ part is = absurd is.2

identity_read : (value : NewValue) (part : Part) → IsPartIn kinds.HostIdentity forms.Identity value part → ReadsBack value (part_value kinds.HostIdentity part)
identity_read (values.HostIdentity value) part (octets, e, is) = (octets, plain_read kinds.HostIdentity octets octets part (λ xs. refl) e refl, is)
identity_read (values.Octets given) part (octets, e, (n, is)) = plain_read kinds.HostIdentity given.now octets part (λ xs. refl) e is
identity_read _ part is = absurd is.2

rest_read : (kind : Kind) (value : NewValue) (part : Part) → ((xs : List ℕ) → octets_value kind xs ≡ Octets xs) → IsPartIn kind forms.Rest value part → ReadsBack value (part_value kind part)
rest_read kind (values.Octets given) part own (octets, e, (n, is)) = plain_read kind given.now octets part own e is
rest_read kind _ part own is = absurd is.2

strings_read : (value : NewValue) (part : Part) → IsPartIn kinds.Strings forms.Strings value part → ReadsBack value (part_value kinds.Strings part)
strings_read (values.Strings strings) part (octets, e, (some, are)) = (octets, ap (λ (p : Part). part_value kinds.Strings p) e, strings_back strings.now octets are)
strings_read (values.Octets given) part (octets, e, (n, is)) = plain_read kinds.Strings given.now octets part (λ xs. refl) e is
strings_read _ part is = absurd is.2

types_read : (value : NewValue) (part : Part) → IsPartIn kinds.TypeBitMap forms.Types value part → ReadsBack value (part_value kinds.TypeBitMap part)
types_read (values.Types types) part (octets, e, own) = (octets, ap (λ (p : Part). part_value kinds.TypeBitMap p) e, own.bits)
types_read (values.Octets given) part (octets, e, (n, is)) = plain_read kinds.TypeBitMap given.now octets part (λ xs. refl) e is
types_read _ part is = absurd is.2

parameters_read : (value : NewValue) (part : Part) → IsPartIn kinds.ServiceParameters forms.Parameters value part → ReadsBack value (part_value kinds.ServiceParameters part)
parameters_read (values.Parameters parameters) part (octets, e, are) = (octets, ap (λ (p : Part). part_value kinds.ServiceParameters p) e, parameters_back 0 parameters.now octets are)
parameters_read (values.Octets given) part (octets, e, (n, is)) = plain_read kinds.ServiceParameters given.now octets part (λ xs. refl) e is
parameters_read _ part is = absurd is.2

prefixes_read : (value : NewValue) (part : Part) → IsPartIn kinds.AddressPrefixes forms.Prefixes value part → ReadsBack value (part_value kinds.AddressPrefixes part)
prefixes_read (values.Prefixes prefixes) part (octets, e, are) = (octets, ap (λ (p : Part). part_value kinds.AddressPrefixes p) e, prefixes_back prefixes.now octets are)
prefixes_read (values.Octets given) part (octets, e, (n, is)) = plain_read kinds.AddressPrefixes given.now octets part (λ xs. refl) e is
prefixes_read _ part is = absurd is.2

-- A value that was put in is the value that is read.
pub value_read : (kind : Kind) (value : NewValue) (part : Part) → IsValueOf kind value part → ReadsBack value (part_value kind part)
value_read kinds.Number8 value part is = number_read kinds.Number8 1 value part (λ xs. refl) is
value_read kinds.Number16 value part is = number_read kinds.Number16 2 value part (λ xs. refl) is
value_read kinds.Number32 value part is = number_read kinds.Number32 4 value part (λ xs. refl) is
value_read kinds.Number48 value part is = number_read kinds.Number48 6 value part (λ xs. refl) is
value_read kinds.Number64 value part is = number_read kinds.Number64 8 value part (λ xs. refl) is
value_read kinds.SyncScheme value part is = number_read kinds.SyncScheme 1 value part (λ xs. refl) is
value_read kinds.Seconds value part is = number_read kinds.Seconds 4 value part (λ xs. refl) is
value_read kinds.Time value part is = number_read kinds.Time 4 value part (λ xs. refl) is
value_read kinds.Ipv4 value part is = ipv4_read value part is
value_read kinds.Ipv6 value part is = ipv6_read value part is
value_read kinds.RecordType value part is = type_read value part is
value_read kinds.Eui48 value part is = eui48_read value part is
value_read kinds.Eui64 value part is = eui64_read value part is
value_read kinds.Locator64 value part is = locator_read value part is
value_read kinds.Location value part is = location_read value part is
value_read kinds.CompressibleName value part is = name_read kinds.CompressibleName value part is
value_read kinds.PointedName value part is = name_read kinds.PointedName value part is
value_read kinds.LowercasedName value part is = name_read kinds.LowercasedName value part is
value_read kinds.PlainName value part is = name_read kinds.PlainName value part is
value_read kinds.CharacterString value part is = string_read kinds.CharacterString value part (λ xs. refl) is
value_read kinds.Tag value part is = string_read kinds.Tag value part (λ xs. refl) is
value_read kinds.Salt value part is = string_read kinds.Salt value part (λ xs. refl) is
value_read kinds.Hash value part is = string_read kinds.Hash value part (λ xs. refl) is
value_read kinds.SizedOctets value part is = sized_read value part is
value_read kinds.Strings value part is = strings_read value part is
value_read kinds.TypeBitMap value part is = types_read value part is
value_read kinds.ServiceParameters value part is = parameters_read value part is
value_read kinds.AddressPrefixes value part is = prefixes_read value part is
value_read kinds.Text value part is = rest_read kinds.Text value part (λ xs. refl) is
value_read kinds.Hexadecimal value part is = rest_read kinds.Hexadecimal value part (λ xs. refl) is
value_read kinds.Base64 value part is = rest_read kinds.Base64 value part (λ xs. refl) is
value_read kinds.Base64OrHyphen value part is = rest_read kinds.Base64OrHyphen value part (λ xs. refl) is
value_read kinds.SmallTypeBitMap value part is = rest_read kinds.SmallTypeBitMap value part (λ xs. refl) is
value_read kinds.GatewayAndKey value part is = gateway_read value part is
value_read kinds.Relay value part is = relay_read value part is
value_read kinds.HostIdentity value part is = identity_read value part is
value_read kinds.Opaque value part is = rest_read kinds.Opaque value part (λ xs. refl) is
