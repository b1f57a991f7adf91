-- The octets of gateways, relays and host identities. RFC 4025 section 2, RFC 8777 section 4.2, RFC 8005 section 5.
use Rattle.std.specs.Prelude.{◌≡◌, ℕ, ◌+◌, ◌≤◌, List, [], ◌∷◌, ◌++◌, length, if◌then◌else◌, map}
use Rattle.std.specs.List.{flat_map}
use Rattle.dns_name.specs.Names.{uncompressed}
use Rattle.dns_name.specs.ParsedName.{labels}
use Rattle.dns_name.specs.declared.parsed_name.ParsedName.{ParsedName}
use Rattle.fields_forms.specs.IdentityWords.{identity_octets}
use Rattle.fields_values.specs.declared.new_forms.NewGateway.{NewGateway}
use Rattle.fields_values.specs.declared.new_forms.NewGateway.TheVariants as gateways
use Rattle.fields_values.specs.declared.new_forms.NewGatewayAndKey.{NewGatewayAndKey}
use Rattle.fields_values.specs.declared.new_forms.NewHostIdentity.{NewHostIdentity}
use Rattle.fields_values.specs.declared.new_forms.NewRelay.{NewRelay}

-- the type of a gateway. RFC 4025 section 2.3
abbrev pub gateway_type : NewGateway → ℕ
gateway_type gateways.Nothing = 0
gateway_type (gateways.Ipv4 address) = 1
gateway_type (gateways.Ipv6 address) = 2
gateway_type (gateways.Name name) = 3

-- the octets of a gateway: none, an address, or an uncompressed name. RFC 4025 section 2.5
abbrev pub gateway_octets : NewGateway → List ℕ
gateway_octets gateways.Nothing = []
gateway_octets (gateways.Ipv4 address) = address
gateway_octets (gateways.Ipv6 address) = address
gateway_octets (gateways.Name name) = uncompressed (labels name)

-- an address has its size
abbrev pub IsWhole : NewGateway → Type 0
IsWhole gateways.Nothing = Unit {0}
IsWhole (gateways.Ipv4 address) = length address ≡ 4
IsWhole (gateways.Ipv6 address) = length address ≡ 16
IsWhole (gateways.Name name) = Unit {0}

-- the octets are a gateway type, an algorithm, a gateway and a public key. RFC 4025 section 2.1
abbrev pub IsGatewayIn : NewGatewayAndKey → List ℕ → Type 0
IsGatewayIn value octets =
    IsWhole value.gateway × (octets ≡ gateway_type value.gateway ∷ value.algorithm ∷ (gateway_octets value.gateway ++ value.key.now))

-- the octets are a bit and a relay type in one octet, and a relay. RFC 8777 section 4.2
abbrev pub IsRelayIn : NewRelay → List ℕ → Type 0
IsRelayIn value octets =
    IsWhole value.relay × (octets ≡ ((if value.optional then 128 else 0) + gateway_type value.relay) ∷ gateway_octets value.relay)

-- uncompressed names, consecutive
abbrev pub names_octets : List ParsedName → List ℕ
names_octets names = flat_map uncompressed (map labels names)

-- the octets are a host identity tag, a public key and the names of rendezvous servers, after the sizes of the tag and of the key. RFC 8005 section 5
abbrev pub IsIdentityIn : NewHostIdentity → List ℕ → Type 0
IsIdentityIn value octets =
    (length value.tag.now ≤ 255) × (length value.key.now ≤ 65535)
    × (octets ≡ identity_octets value.algorithm value.tag.now value.key.now ++ names_octets value.servers.now)
