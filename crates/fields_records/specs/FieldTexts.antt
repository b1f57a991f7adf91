-- Fields in presentation format. RFC 1035 section 5.1.
use Rattle.std.specs.Prelude.{ℕ, ◌==◌, ◌^◌, nat_lt, Bool, true, false, if◌then◌else◌, Option, Some, None, option_map, List, [], ◌∷◌, length, codes, decimal}
use Rattle.std.specs.List.{flat_map}
use Rattle.std.specs.Fmt.{◌++?◌}
use Rattle.std.specs.Net.Addr.{segments_of}
use Rattle.std.specs.Net.Text.{ipv4_text, ipv6_text}
use Rattle.base64.specs.Engines.{standard}
use Rattle.base64.specs.GeneralPurpose.{encode_of}
use Rattle.fields_plain.specs.ZoneNames.{zone_name_text}
use Rattle.fields_table.specs.DataOrders.{part_octets}
use Rattle.fields_table.specs.FieldParts.{NamedPart}
use Rattle.fields_table.specs.Values.{FieldValue, part_value}
use Rattle.fields_table.specs.Values.FieldValue.{Number, RecordType, Ipv4, Ipv6, Name, String, Sized, Octets}
use Rattle.fields_table.specs.declared.kind.Kind.{Kind}
use Rattle.fields_table.specs.declared.kind.Kind.TheVariants as kinds
use Rattle.fields_plain.specs.EuiTexts.{eui_text}
use Rattle.fields_plain.specs.LocatorWords.{locator_text}
use Rattle.fields_text.specs.Base32.{base32_text}
use Rattle.fields_text.specs.Hex.{hex_text}
use Rattle.fields_forms.specs.LocationItems.{location_of, location_text}
use Rattle.fields_text.specs.String.{is_tag, quoted}
use Rattle.fields_plain.specs.Time.{time_text}
use Rattle.fields_forms.specs.GatewayTexts.{gateway_text, relay_text}
use Rattle.fields_forms.specs.HostIdentities.{identity_text}
use Rattle.fields_lists.specs.TypeMaps.{is_small_map, map_types, octet_types, types_text}
use Rattle.fields_plain.specs.TypeNames.{type_word}
use Rattle.fields_plain.specs.Salts.{salt_text}
use Rattle.fields_plain.specs.SizedWords.{sized_text}
use Rattle.fields_lists.specs.Strings.{strings_text}
use Rattle.fields_parameters.specs.Parameters.{parameters_text}
use Rattle.fields_lists.specs.Prefixes.{prefixes_text}

-- the text, if the test holds
abbrev pub text_if : Bool → List ℕ → Option (List ℕ)
text_if test text = if test then Some text else None

-- the text of octets, if there are any
abbrev pub text_of_any : (List ℕ → List ℕ) → List ℕ → Option (List ℕ)
text_of_any text [] = None
text_of_any text (x ∷ xs) = Some (text (x ∷ xs))

-- base64 of the octets, or a hyphen if there are none
abbrev pub base64_or_hyphen : List ℕ → List ℕ
base64_or_hyphen [] = codes "-"
base64_or_hyphen (x ∷ xs) = encode_of standard (x ∷ xs)

-- octets of a field of this kind; none if they have no presentation format. Texts of types, parameters, gateways and relays begin with a space
abbrev pub octets_text : Kind → List ℕ → Option (List ℕ)
octets_text kinds.Eui48 octets = Some (eui_text octets)
octets_text kinds.Eui64 octets = Some (eui_text octets)
octets_text kinds.Locator64 octets = text_if (length octets == 8) (locator_text octets)
octets_text kinds.Location octets = option_map location_text (location_of octets)
octets_text kinds.Strings octets = Some (strings_text octets)
octets_text kinds.Text octets = Some (quoted octets)
octets_text kinds.Hexadecimal octets = text_of_any hex_text octets
octets_text kinds.Base64 octets = text_of_any (encode_of standard) octets
octets_text kinds.Base64OrHyphen octets = Some (base64_or_hyphen octets)
octets_text kinds.TypeBitMap octets = Some (types_text (map_types octets))
octets_text kinds.SmallTypeBitMap octets = text_if (is_small_map octets) (types_text (octet_types 0 octets))
octets_text kinds.ServiceParameters octets = Some (parameters_text octets)
octets_text kinds.AddressPrefixes octets = prefixes_text octets
octets_text kinds.GatewayAndKey octets = gateway_text octets
octets_text kinds.Relay octets = relay_text octets
octets_text kinds.HostIdentity octets = identity_text octets
octets_text kind octets = None

-- a scheme of notifications. RFC 9859 section 2.2
abbrev pub scheme_text : ℕ → List ℕ
scheme_text n = if n == 1 then codes "NOTIFY" else decimal n

-- a number, which is a time of 32 bits for some fields. RFC 4034 section 3.2
abbrev pub number_text : Kind → ℕ → Option (List ℕ)
number_text kinds.Time n = text_if (nat_lt n (2 ^ 32)) (time_text n)
number_text kinds.SyncScheme n = Some (scheme_text n)
number_text kind n = Some (decimal n)

-- a string; strings of some kinds print without quotes
abbrev pub string_text : Kind → List ℕ → Option (List ℕ)
string_text kinds.Tag octets = text_if (is_tag octets) octets
string_text kinds.Salt octets = Some (salt_text octets)
string_text kinds.Hash octets = text_of_any base32_text octets
string_text kind octets = Some (quoted octets)

-- addresses of four and of sixteen octets
abbrev pub ipv4_of : List ℕ → Option (List ℕ)
ipv4_of octets = text_if (length octets == 4) (ipv4_text octets)

abbrev pub ipv6_of : List ℕ → Option (List ℕ)
ipv6_of octets = text_if (length octets == 16) (ipv6_text (segments_of octets))

-- a value of a field of this kind; none if it has no presentation format
abbrev pub value_text : Kind → FieldValue → Option (List ℕ)
value_text kind (Number n) = number_text kind n
value_text kind (RecordType rtype) = Some (type_word rtype)
value_text kind (Ipv4 octets) = ipv4_of octets
value_text kind (Ipv6 octets) = ipv6_of octets
value_text kind (Name name) = Some (zone_name_text name)
value_text kind (String octets) = string_text kind octets
value_text kind (Sized octets) = Some (sized_text octets)
value_text kind (Octets octets) = octets_text kind octets

-- whether a field of this kind always has a text
abbrev pub always_has_text : Kind → Bool
always_has_text kinds.Number8 = true
always_has_text kinds.Number16 = true
always_has_text kinds.Number32 = true
always_has_text kinds.Number48 = true
always_has_text kinds.Number64 = true
always_has_text kinds.SyncScheme = true
always_has_text kinds.Seconds = true
always_has_text kinds.Ipv4 = true
always_has_text kinds.Ipv6 = true
always_has_text kinds.Eui48 = true
always_has_text kinds.Eui64 = true
always_has_text kinds.Locator64 = true
always_has_text kinds.RecordType = true
always_has_text kinds.CompressibleName = true
always_has_text kinds.PointedName = true
always_has_text kinds.LowercasedName = true
always_has_text kinds.PlainName = true
always_has_text kinds.CharacterString = true
always_has_text kinds.Salt = true
always_has_text kinds.SizedOctets = true
always_has_text kinds.Strings = true
always_has_text kinds.Text = true
always_has_text kinds.Base64OrHyphen = true
always_has_text kinds.TypeBitMap = true
always_has_text kinds.ServiceParameters = true
always_has_text kind = false

-- whether the text of a field of this kind begins with a space
abbrev pub begins_with_space : Kind → Bool
begins_with_space kinds.TypeBitMap = true
begins_with_space kinds.SmallTypeBitMap = true
begins_with_space kinds.ServiceParameters = true
begins_with_space kinds.GatewayAndKey = true
begins_with_space kinds.Relay = true
begins_with_space kind = false

-- the space before a field that follows others, unless its text begins with one
abbrev pub space_before : Kind → List ℕ → List ℕ
space_before kind separator = if begins_with_space kind then [] else separator

-- a field after its space
abbrev pub field_text : List ℕ → NamedPart → Option (List ℕ)
field_text separator field = Some (space_before field.kind separator) ++? value_text field.kind (part_value field.kind field.part)

-- fields, the first after `separator` and each other after a space; none if one has no presentation format
abbrev pub fields_text : List ℕ → List NamedPart → Option (List ℕ)
fields_text separator [] = Some []
fields_text separator (field ∷ fields) = field_text separator field ++? fields_text (codes " ") fields

-- the octets of fields
abbrev pub fields_octets : List NamedPart → List ℕ
fields_octets fields = flat_map (λ field. part_octets field.part) fields
