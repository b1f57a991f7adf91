-- The octets that a field accepts if it takes all remaining octets.
use Rattle.std.specs.Prelude.{ℕ, Bool, true, List}
use Rattle.fields_table.specs.declared.kind.Kind.{Kind}
use Rattle.fields_table.specs.declared.kind.Kind.TheVariants.{Strings, TypeBitMap, ServiceParameters, AddressPrefixes, GatewayAndKey, Relay, HostIdentity}
use Rattle.fields_forms.specs.Gateways.{is_gateway_and_key, is_relay}
use Rattle.fields_forms.specs.HostIdentities.{is_host_identity}
use Rattle.fields_parameters.specs.Parameters.{are_parameters}
use Rattle.fields_lists.specs.Prefixes.{are_prefixes}
use Rattle.fields_lists.specs.Strings.{are_strings}
use Rattle.fields_lists.specs.TypeMaps.{is_type_map}

-- whether the octets can be a field of this kind
abbrev pub accepts : Kind → List ℕ → Bool
accepts Strings octets = are_strings octets
accepts TypeBitMap octets = is_type_map octets
accepts ServiceParameters octets = are_parameters octets
accepts AddressPrefixes octets = are_prefixes octets
accepts GatewayAndKey octets = is_gateway_and_key octets
accepts Relay octets = is_relay octets
accepts HostIdentity octets = is_host_identity octets
accepts _ octets = true
