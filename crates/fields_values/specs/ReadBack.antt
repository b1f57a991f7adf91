-- What is read from a field that has a value.
use Rattle.std.specs.Prelude.{◌≡◌, ℕ, ◌<◌, List, map}
use Rattle.fields_table.specs.Values.{FieldValue, Number, RecordType, Ipv4, Ipv6, Name, String, Sized, Octets}
use Rattle.fields_forms.specs.LocationItems.{location_item}
use Rattle.fields_forms.specs.LocationWords.{location_octets}
use Rattle.fields_lists.specs.ItemsLeft.{prefix_item}
use Rattle.fields_parameters.specs.ParameterItems.{parameters_of}
use Rattle.fields_lists.specs.PrefixItems.{prefixes_of}
use Rattle.fields_lists.specs.Strings.{strings_of}
use Rattle.fields_lists.specs.TypeMaps.{map_types}
use Rattle.fields_lists.specs.TypeMapWords.{has}
use Rattle.dns_name.specs.ParsedName.{labels}
use Rattle.fields_values.specs.NewForms.{IsGatewayIn, IsIdentityIn, IsRelayIn}
use Rattle.fields_values.specs.NewValues.{parameter_of}
use Rattle.fields_values.specs.declared.new_value.NewValue.{NewValue}
use Rattle.fields_values.specs.declared.new_value.NewValue.TheVariants as values

-- octets with this property are read
abbrev pub IsList : (List ℕ → Type 0) → FieldValue → Type 0
IsList Is read = (octets : List ℕ) × (read ≡ Octets octets) × Is octets

-- the value is read; or the octets of an address, a locator or a location; or octets that are a gateway, a relay or a host identity; or of a list, whose items are those of the value
abbrev pub ReadsBack : NewValue → FieldValue → Type 0
ReadsBack (values.Number n) read = read ≡ Number n
ReadsBack (values.RecordType rtype) read = read ≡ RecordType rtype
ReadsBack (values.Ipv4 address) read = read ≡ Ipv4 address
ReadsBack (values.Ipv6 address) read = read ≡ Ipv6 address
ReadsBack (values.Eui48 address) read = read ≡ Octets address
ReadsBack (values.Eui64 address) read = read ≡ Octets address
ReadsBack (values.Locator64 locator) read = read ≡ Octets locator
ReadsBack (values.Location location) read = read ≡ Octets (location_octets (location_item location))
ReadsBack (values.Name name) read = read ≡ Name (labels name)
ReadsBack (values.String string) read = read ≡ String string.now
ReadsBack (values.Sized octets) read = read ≡ Sized octets.now
ReadsBack (values.Strings strings) read = IsList (λ octets. strings_of octets ≡ map (λ s. s.now) strings.now) read
ReadsBack (values.Types types) read = IsList (λ octets. (n : ℕ) → n < 65536 → has (map_types octets) n ≡ has types.now n) read
ReadsBack (values.Parameters parameters) read = IsList (λ octets. parameters_of octets ≡ map parameter_of parameters.now) read
ReadsBack (values.Prefixes prefixes) read = IsList (λ octets. prefixes_of octets ≡ map prefix_item prefixes.now) read
ReadsBack (values.GatewayAndKey value) read = IsList (IsGatewayIn value) read
ReadsBack (values.Relay value) read = IsList (IsRelayIn value) read
ReadsBack (values.HostIdentity value) read = IsList (IsIdentityIn value) read
ReadsBack (values.Octets octets) read = read ≡ Octets octets.now
