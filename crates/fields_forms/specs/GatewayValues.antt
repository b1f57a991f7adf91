-- What gateways, relays and host identities print.
use Rattle.std.specs.Prelude.{◌≡◌, ℕ, List, codes, Option, Some, None}
use Rattle.std.specs.Borrow.{Bor}
use Rattle.std.specs.Net.Addr.{ipv4_octets, ipv6_segments}
use Rattle.std.specs.Net.Text.{ipv4_text, ipv6_text}
use Rattle.dns_name.specs.NameReading.{name_labels}
use Rattle.fields_forms.specs.declared.gateway.Gateway.{Gateway}
use Rattle.fields_forms.specs.declared.gateway.Gateway.TheVariants as gateways
use Rattle.fields_forms.specs.declared.gateway.GatewayAndKey.{GatewayAndKey}
use Rattle.fields_forms.specs.declared.gateway.Relay.{Relay}
use Rattle.fields_forms.specs.GatewayTexts.{gateway_words, relay_words}
use Rattle.fields_plain.specs.ZoneNames.{zone_name_text}

-- a gateway as a word
abbrev pub gateway_word : Gateway → List ℕ
gateway_word gateways.Nothing = codes "."
gateway_word (gateways.Ipv4 address) = ipv4_text (ipv4_octets address)
gateway_word (gateways.Ipv6 address) = ipv6_text (ipv6_segments address)
gateway_word (gateways.Name name) = zone_name_text (name_labels name)

-- splitting a gateway off octets returns its word, and the octets after it
abbrev pub SplitsGateway : Option (List ℕ × List ℕ) → Option (Gateway × Bor (List ℕ)) → Type 0
SplitsGateway there None = there ≡ None
SplitsGateway there (Some split) = there ≡ Some (gateway_word split.0, split.1.now)

-- the words of a gateway and a public key
abbrev pub gateway_shown : GatewayAndKey → List ℕ
gateway_shown value = gateway_words value.gateway_type value.algorithm (gateway_word value.gateway) value.key.now

-- the words of a relay
abbrev pub relay_shown : Relay → List ℕ
relay_shown value = relay_words value.discovery value.relay_type (gateway_word value.relay)
