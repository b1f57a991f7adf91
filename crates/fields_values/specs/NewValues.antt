-- The octets of values in fields.
use Rattle.std.specs.Prelude.{◌≡◌, ◌≢◌, ℕ, ◌+◌, ◌<◌, ◌≤◌, ◌^◌, Bool, true, false, List, [], ◌∷◌, ◌++◌, length}
use Rattle.std.specs.Borrow.{Bor}
use Rattle.dns_name.specs.Names.{Labels}
use Rattle.dns_name.specs.ParsedName.{labels}
use Rattle.dns_wire.specs.Parts.{Part}
use Rattle.dns_wire.specs.Parts.Part.{Octets as OctetsPart, CompressibleName, UncompressedName as UncompressedPart}
use Rattle.fields_table.specs.Accepts.{accepts}
use Rattle.fields_table.specs.Shapes.{shape_of}
use Rattle.fields_table.specs.declared.kind.Kind.{Kind}
use Rattle.fields_table.specs.declared.shape.Shape.{Shape}
use Rattle.fields_table.specs.declared.shape.Shape.TheVariants.{UncompressedName}
use Rattle.fields_forms.specs.LocationItems.{location_item}
use Rattle.fields_forms.specs.LocationWords.{location_octets}
use Rattle.fields_lists.specs.ItemsLeft.{prefix_item}
use Rattle.fields_parameters.specs.ParameterItems.{ParameterItem, parameter_octets}
use Rattle.fields_lists.specs.declared.prefixes.AddressPrefix.{AddressPrefix}
use Rattle.fields_text.specs.Base32Words.{last_octets}
use Rattle.fields_text.specs.LengthOctets.{counted, sized}
use Rattle.fields_lists.specs.PrefixWords.{prefix_octets}
use Rattle.fields_lists.specs.TypeMapWords.{IsTypeMapOf}
use Rattle.fields_values.specs.Forms.{value_form}
use Rattle.fields_values.specs.NewForms.{IsGatewayIn, IsIdentityIn, IsRelayIn}
use Rattle.fields_values.specs.declared.form.Form.{Form}
use Rattle.fields_values.specs.declared.form.Form.TheVariants as forms
use Rattle.fields_values.specs.declared.new_value.NewValue.{NewValue}
use Rattle.fields_values.specs.declared.new_value.NewValue.TheVariants as values

-- the octets are this character string. RFC 1035 section 3.3
abbrev pub IsStringIn : List ℕ → List ℕ → Type 0
IsStringIn string octets = (length string ≤ 255) × (octets ≡ counted string)

-- the octets are these character strings, consecutive
abbrev pub AreStringsIn : List (Bor (List ℕ)) → List ℕ → Type 0
AreStringsIn [] octets = octets ≡ []
AreStringsIn (string ∷ strings) octets =
    (first : List ℕ) × (after : List ℕ) × IsStringIn string.now first × (octets ≡ first ++ after) × AreStringsIn strings after

-- a service parameter, of its key and its value
abbrev pub parameter_of : ℕ × Bor (List ℕ) → ParameterItem
parameter_of parameter = record { key = parameter.0; value = parameter.1.now }

-- the octets are this service parameter, and its key is at least `least`. RFC 9460 section 2.2
abbrev pub IsParameterIn : ℕ → ℕ × Bor (List ℕ) → List ℕ → Type 0
IsParameterIn least parameter octets =
    (least ≤ parameter.0) × (parameter.0 < 65536) × (length parameter.1.now ≤ 65535) × (octets ≡ parameter_octets (parameter_of parameter))

-- the octets are these service parameters by increasing keys, the first of which is at least `least`
abbrev pub AreParametersIn : ℕ → List (ℕ × Bor (List ℕ)) → List ℕ → Type 0
AreParametersIn least [] octets = octets ≡ []
AreParametersIn least (parameter ∷ parameters) octets =
    (first : List ℕ) × (after : List ℕ) × IsParameterIn least parameter first × (octets ≡ first ++ after) × AreParametersIn (parameter.0 + 1) parameters after

-- the octets are this address prefix. RFC 3123 section 4
abbrev pub IsPrefixIn : AddressPrefix → List ℕ → Type 0
IsPrefixIn prefix octets = (prefix.family < 65536) × (length prefix.address.now ≤ 127) × (octets ≡ prefix_octets (prefix_item prefix))

-- the octets are these address prefixes, consecutive
abbrev pub ArePrefixesIn : List AddressPrefix → List ℕ → Type 0
ArePrefixesIn [] octets = octets ≡ []
ArePrefixesIn (prefix ∷ prefixes) octets =
    (first : List ℕ) × (after : List ℕ) × IsPrefixIn prefix first × (octets ≡ first ++ after) × ArePrefixesIn prefixes after

-- a name in a field of this shape
abbrev pub name_part : Shape → Labels → Part
name_part (UncompressedName pointers lowers) name = UncompressedPart lowers name
name_part _ name = CompressibleName name

-- the octets, given as they are, are a field of this kind and form
abbrev pub AreFieldOctets : Kind → Form → List ℕ → Type 0
AreFieldOctets kind forms.Eui48 octets = length octets ≡ 6
AreFieldOctets kind forms.Eui64 octets = length octets ≡ 8
AreFieldOctets kind forms.Locator64 octets = length octets ≡ 8
AreFieldOctets kind forms.Location octets = length octets ≡ 16
AreFieldOctets kind forms.Strings octets = accepts kind octets ≡ true
AreFieldOctets kind forms.Types octets = accepts kind octets ≡ true
AreFieldOctets kind forms.Parameters octets = accepts kind octets ≡ true
AreFieldOctets kind forms.Prefixes octets = accepts kind octets ≡ true
AreFieldOctets kind forms.Gateway octets = accepts kind octets ≡ true
AreFieldOctets kind forms.Relay octets = accepts kind octets ≡ true
AreFieldOctets kind forms.Identity octets = accepts kind octets ≡ true
AreFieldOctets kind forms.Rest octets = accepts kind octets ≡ true
AreFieldOctets kind _ octets = ⊥

-- these are the octets of the value in a field of this kind and form
abbrev pub IsEncodedAs : Kind → Form → NewValue → List ℕ → Type 0
IsEncodedAs kind (forms.Number size) (values.Number n) octets = (n < 256 ^ size) × (octets ≡ last_octets size n)
IsEncodedAs kind forms.RecordType (values.RecordType rtype) octets = (rtype < 65536) × (octets ≡ last_octets 2 rtype)
IsEncodedAs kind forms.Ipv4 (values.Ipv4 address) octets = (length address ≡ 4) × (octets ≡ address)
IsEncodedAs kind forms.Ipv6 (values.Ipv6 address) octets = (length address ≡ 16) × (octets ≡ address)
IsEncodedAs kind forms.Eui48 (values.Eui48 address) octets = (length address ≡ 6) × (octets ≡ address)
IsEncodedAs kind forms.Eui64 (values.Eui64 address) octets = (length address ≡ 8) × (octets ≡ address)
IsEncodedAs kind forms.Locator64 (values.Locator64 locator) octets = (length locator ≡ 8) × (octets ≡ locator)
IsEncodedAs kind forms.Location (values.Location location) octets = octets ≡ location_octets (location_item location)
IsEncodedAs kind forms.Counted (values.String string) octets = IsStringIn string.now octets
IsEncodedAs kind forms.Sized (values.Sized string) octets = (length string.now ≤ 65535) × (octets ≡ sized string.now)
IsEncodedAs kind forms.Strings (values.Strings strings) octets = (strings.now ≢ []) × AreStringsIn strings.now octets
IsEncodedAs kind forms.Types (values.Types types) octets = IsTypeMapOf types.now octets
IsEncodedAs kind forms.Parameters (values.Parameters parameters) octets = AreParametersIn 0 parameters.now octets
IsEncodedAs kind forms.Prefixes (values.Prefixes prefixes) octets = ArePrefixesIn prefixes.now octets
IsEncodedAs kind forms.Gateway (values.GatewayAndKey value) octets = IsGatewayIn value octets
IsEncodedAs kind forms.Relay (values.Relay value) octets = IsRelayIn value octets
IsEncodedAs kind forms.Identity (values.HostIdentity value) octets = IsIdentityIn value octets
IsEncodedAs kind form (values.Octets given) octets = AreFieldOctets kind form given.now × (octets ≡ given.now)
IsEncodedAs kind form value octets = ⊥

-- the part of the value in a field of this kind and form: a name, or octets
abbrev pub IsPartIn : Kind → Form → NewValue → Part → Type 0
IsPartIn kind forms.Name (values.Name name) part = part ≡ name_part (shape_of kind) (labels name)
IsPartIn kind form value part = (octets : List ℕ) × (part ≡ OctetsPart octets) × IsEncodedAs kind form value octets

-- the part is the value in a field of this kind
abbrev pub IsValueOf : Kind → NewValue → Part → Type 0
IsValueOf kind value part = IsPartIn kind (value_form kind) value part

-- whether a field of this form takes values of this variant
abbrev pub takes : Form → NewValue → Bool
takes (forms.Number size) (values.Number n) = true
takes forms.RecordType (values.RecordType rtype) = true
takes forms.Ipv4 (values.Ipv4 address) = true
takes forms.Ipv6 (values.Ipv6 address) = true
takes forms.Eui48 (values.Eui48 address) = true
takes forms.Eui64 (values.Eui64 address) = true
takes forms.Locator64 (values.Locator64 locator) = true
takes forms.Location (values.Location location) = true
takes forms.Name (values.Name name) = true
takes forms.Counted (values.String string) = true
takes forms.Sized (values.Sized string) = true
takes forms.Strings (values.Strings strings) = true
takes forms.Types (values.Types types) = true
takes forms.Parameters (values.Parameters parameters) = true
takes forms.Prefixes (values.Prefixes prefixes) = true
takes forms.Gateway (values.GatewayAndKey value) = true
takes forms.Relay (values.Relay value) = true
takes forms.Identity (values.HostIdentity value) = true
takes forms.Eui48 (values.Octets octets) = true
takes forms.Eui64 (values.Octets octets) = true
takes forms.Locator64 (values.Octets octets) = true
takes forms.Location (values.Octets octets) = true
takes forms.Strings (values.Octets octets) = true
takes forms.Types (values.Octets octets) = true
takes forms.Parameters (values.Octets octets) = true
takes forms.Prefixes (values.Octets octets) = true
takes forms.Gateway (values.Octets octets) = true
takes forms.Relay (values.Octets octets) = true
takes forms.Identity (values.Octets octets) = true
takes forms.Rest (values.Octets octets) = true
takes form value = false

-- the field of this form takes the value; each list of record types has a type bit map
abbrev pub IsTaken : Kind → Form → NewValue → Type 0
IsTaken kind form (values.Types types) = takes form (values.Types types) ≡ true
IsTaken kind form value = (part : Part) × IsPartIn kind form value part
