-- Gateways of IPSECKEY and relays of AMTRELAY. RFC 4025 section 2.5, RFC 8777 section 4.2.4.
use Rattle.std.specs.Prelude.{ℕ, ◌%◌, ◌==◌, nat_le, nat_lt, ◌||◌, Bool, false, Option, Some, None, is_some, List, [], ◌∷◌, length, if◌then◌else◌}
use Rattle.fields_forms.specs.PlainNames.{plain_name_size}

-- this size, if there are that many octets
abbrev pub size_within : ℕ → List ℕ → Option ℕ
size_within size octets = if nat_le size (length octets) then Some size else None

-- the size of a gateway of this type at the start of the octets: nothing, an IPv4 address, an IPv6 address, or a name
abbrev pub gateway_size : ℕ → List ℕ → Option ℕ
gateway_size gateway_type octets =
    if gateway_type == 0 then Some 0
    else if gateway_type == 1 then size_within 4 octets
    else if gateway_type == 2 then size_within 16 octets
    else if gateway_type == 3 then plain_name_size octets
    else None

-- a gateway type, an algorithm, a gateway of that type, and a public key; types above 3 have no known form
abbrev pub is_gateway_and_key : List ℕ → Bool
is_gateway_and_key [] = false
is_gateway_and_key (gateway_type ∷ []) = false
is_gateway_and_key (gateway_type ∷ algorithm ∷ octets) = nat_lt 3 gateway_type || is_some (gateway_size gateway_type octets)

-- whether there is a size, and it is n
abbrev pub is_size : ℕ → Option ℕ → Bool
is_size n None = false
is_size n (Some size) = size == n

-- a bit and a relay type in one octet, and a relay of that type; types above 3 have no known form
abbrev pub is_relay : List ℕ → Bool
is_relay [] = false
is_relay (first ∷ octets) = nat_lt 3 (first % 128) || is_size (length octets) (gateway_size (first % 128) octets)
