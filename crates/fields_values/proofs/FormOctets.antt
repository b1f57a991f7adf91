-- The octets of gateways, relays and host identities are accepted by their fields.
use Rattle.std.proofs.Common.{◌≡◌, ◌∙◌, ℕ, ◌+◌, ◌*◌, ◌/◌, ◌%◌, Bool, true, false, List, [], ◌∷◌, ◌++◌, append-nil, drop, length, length-append, refl, ap, sym, arith}
use Rattle.std.specs.Prelude.{All, Some, map, is_some, nat_le, nat_lt, ◌||◌, if◌then◌else◌}
use Rattle.std.proofs.lemmas.Bool.{and_from, eq-eqb, le-leb}
use Rattle.std.proofs.lemmas.List.{drop_at}
use Rattle.std.proofs.lemmas.List.Elements.{All-cons, All-nil}
use Rattle.dns_name.specs.Names.{IsName}
use Rattle.dns_name.specs.ParsedName.{labels}
use Rattle.dns_name.specs.Unique.{encoded_name}
use Rattle.dns_name.specs.declared.parsed_name.ParsedName.{ParsedName}
use Rattle.dns_name.proofs.theory.LabelsLemmas.{length-uncompressed}
use Rattle.fields_forms.specs.Gateways.{gateway_size, is_gateway_and_key, is_relay, is_size}
use Rattle.fields_forms.specs.HostIdentities.{is_host_identity}
use Rattle.fields_forms.specs.PlainNames.{are_plain_names}
use Rattle.fields_forms.proofs.theory.PlainNameSizes.{plain_names, plain_size}
use Rattle.fields_values.specs.NewForms.{IsGatewayIn, IsIdentityIn, IsRelayIn, IsWhole, gateway_octets, gateway_type, names_octets}
use Rattle.fields_values.specs.declared.new_forms.NewGateway.{NewGateway}
use Rattle.fields_values.specs.declared.new_forms.NewGateway.TheVariants as gateways
use Rattle.fields_values.specs.declared.new_forms.NewGatewayAndKey.{NewGatewayAndKey}
use Rattle.fields_values.specs.declared.new_forms.NewHostIdentity.{NewHostIdentity}
use Rattle.fields_values.specs.declared.new_forms.NewRelay.{NewRelay}

-- the size of a gateway at the start of octets
size_is : (gateway : NewGateway) (rest : List ℕ) → IsWhole gateway → gateway_size (gateway_type gateway) (gateway_octets gateway ++ rest) ≡ Some (length (gateway_octets gateway))
size_is gateways.Nothing rest whole = refl
size_is (gateways.Ipv4 address) rest whole =
    rw (le-leb 4 (length (address ++ rest)) (omega (arith, whole, length-append address rest))) (ap (λ (n : ℕ). Some n) (sym whole))
size_is (gateways.Ipv6 address) rest whole =
    rw (le-leb 16 (length (address ++ rest)) (omega (arith, whole, length-append address rest))) (ap (λ (n : ℕ). Some n) (sym whole))
size_is (gateways.Name name) rest whole =
    plain_size (labels name) rest (encoded_name name.name_at.0.1) ∙ ap (λ (n : ℕ). Some n) (sym (length-uncompressed (labels name)))

-- a gateway type is known
known_type : (gateway : NewGateway) (b : Bool) → b ≡ true → (nat_lt 3 (gateway_type gateway) || b) ≡ true
known_type gateways.Nothing b is = is
known_type (gateways.Ipv4 address) b is = is
known_type (gateways.Ipv6 address) b is = is
known_type (gateways.Name name) b is = is

-- The octets of a gateway and a public key are accepted.
pub gateway_is : (value : NewGatewayAndKey) (octets : List ℕ) → IsGatewayIn value octets → is_gateway_and_key octets ≡ true
gateway_is value octets (whole, is) =
    let rest : List ℕ = gateway_octets value.gateway ++ value.key.now in
    ap is_gateway_and_key is
    ∙ known_type value.gateway (is_some (gateway_size (gateway_type value.gateway) rest)) (ap (λ o. is_some o) (size_is value.gateway value.key.now whole))

-- a relay type after a bit
type_after : (optional : Bool) (gateway : NewGateway) → ((if optional then 128 else 0) + gateway_type gateway) % 128 ≡ gateway_type gateway
type_after true gateways.Nothing = refl
type_after true (gateways.Ipv4 address) = refl
type_after true (gateways.Ipv6 address) = refl
type_after true (gateways.Name name) = refl
type_after false gateways.Nothing = refl
type_after false (gateways.Ipv4 address) = refl
type_after false (gateways.Ipv6 address) = refl
type_after false (gateways.Name name) = refl

-- The octets of a relay are accepted.
pub relay_is : (value : NewRelay) (octets : List ℕ) → IsRelayIn value octets → is_relay octets ≡ true
relay_is value octets (whole, is) =
    let own : List ℕ = gateway_octets value.relay in
    let size = ap (gateway_size (gateway_type value.relay)) (sym (append-nil own)) ∙ size_is value.relay [] whole in
    ap is_relay is
    ∙ ap (λ (t : ℕ). nat_lt 3 t || is_size (length own) (gateway_size t own)) (type_after value.optional value.relay)
    ∙ known_type value.relay (is_size (length own) (gateway_size (gateway_type value.relay) own))
    (ap (λ o. is_size (length own) o) size ∙ eq-eqb (length own) (length own) refl)

are_names : (names : List ParsedName) → All IsName (map labels names)
are_names [] = All-nil IsName
are_names (name ∷ names) = All-cons IsName (labels name) (map labels names) (encoded_name name.name_at.0.1) (are_names names)

-- The octets of a host identity are accepted.
pub identity_is : (value : NewHostIdentity) (octets : List ℕ) → IsIdentityIn value octets → is_host_identity octets ≡ true
identity_is value octets (small, short, is) =
    let tag : List ℕ = value.tag.now in
    let key : List ℕ = value.key.now in
    let names : List ℕ = names_octets value.servers.now in
    let rest : List ℕ = (tag ++ key) ++ names in
    let size : ℕ = length tag + (length key / 256 * 256 + length key % 256) in
    let sized : length (tag ++ key) ≡ size = omega (arith, length-append tag key) in
    let left : drop size rest ≡ names = drop_at (tag ++ key) names size sized in
    ap is_host_identity is
    ∙ and_from (nat_le size (length rest)) (are_plain_names (drop size rest)) (le-leb size (length rest) (omega (arith, sized, length-append (tag ++ key) names)))
    (ap are_plain_names left ∙ plain_names (map labels value.servers.now) (are_names value.servers.now))
