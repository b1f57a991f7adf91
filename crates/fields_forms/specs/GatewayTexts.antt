-- Gateways and relays as words. RFC 4025 section 3.1, RFC 8777 section 4.3.1.
use Rattle.std.specs.Prelude.{ℕ, zero, suc, ◌+◌, ◌/◌, ◌%◌, ◌==◌, nat_le, ◌&&◌, if◌then◌else◌, List, [], ◌∷◌, ◌++◌, take, drop, length, codes, decimal, Option, Some, None, option_map}
use Rattle.std.specs.Option.{option_and_then}
use Rattle.std.specs.Net.Addr.{segments_of}
use Rattle.std.specs.Net.Text.{ipv4_text, ipv6_text}
use Rattle.fields_forms.specs.PlainNames.{can_follow}
use Rattle.dns_name.specs.Names.{Labels}
use Rattle.fields_plain.specs.ZoneNames.{zone_name_text}
use Rattle.fields_text.specs.Keys.{key_text}

-- at most `count` labels after labels of `size` octets, up to the root label, and the octets after it
abbrev pub labels_at : ℕ → ℕ → List ℕ → Option (Labels × List ℕ)
labels_at zero size octets = None
labels_at (suc count) size [] = None
labels_at (suc count) size (n ∷ octets) =
    if n == 0 then Some ([], octets)
    else if can_follow size n && nat_le n (length octets)
    then option_map (λ name. (take n octets ∷ name.0, name.1)) (labels_at count (size + 1 + n) (drop n octets))
    else None

-- the uncompressed name at the start of octets, and the octets after it
abbrev pub name_at : List ℕ → Option (Labels × List ℕ)
name_at octets = labels_at (length octets) 0 octets

-- the words of `size` octets at the start of octets, and the octets after them
abbrev pub word_at : ℕ → (List ℕ → List ℕ) → List ℕ → Option (List ℕ × List ℕ)
word_at size text octets = if nat_le size (length octets) then Some (text (take size octets), drop size octets) else None

-- a name with its final dot, and the octets after it
abbrev pub name_word_at : List ℕ → Option (List ℕ × List ℕ)
name_word_at octets = option_map (λ name. (zone_name_text name.0, name.1)) (name_at octets)

-- the gateway of this type at the start of octets as a word, and the octets after it: a dot, an address or a name
abbrev pub gateway_at : ℕ → List ℕ → Option (List ℕ × List ℕ)
gateway_at gateway_type octets =
    if gateway_type == 0 then Some (codes ".", octets)
    else if gateway_type == 1 then word_at 4 ipv4_text octets
    else if gateway_type == 2 then word_at 16 (λ address. ipv6_text (segments_of address)) octets
    else if gateway_type == 3 then name_word_at octets
    else None

-- a gateway type, an algorithm, the word of a gateway and a public key, each after a space
abbrev pub gateway_words : ℕ → ℕ → List ℕ → List ℕ → List ℕ
gateway_words gateway_type algorithm word key = codes " " ++ decimal gateway_type ++ codes " " ++ decimal algorithm ++ codes " " ++ word ++ key_text key

-- these words of a gateway type, an algorithm, a gateway and a public key
abbrev pub gateway_text : List ℕ → Option (List ℕ)
gateway_text (gateway_type ∷ algorithm ∷ octets) =
    option_map (λ gateway. gateway_words gateway_type algorithm gateway.0 gateway.1) (gateway_at gateway_type octets)
gateway_text _ = None

-- a bit, a relay type and the word of a relay, each after a space
abbrev pub relay_words : ℕ → ℕ → List ℕ → List ℕ
relay_words discovery relay_type word = codes " " ++ decimal discovery ++ codes " " ++ decimal relay_type ++ codes " " ++ word

-- the words, if no octets follow a gateway
abbrev pub last_relay : ℕ → List ℕ × List ℕ → Option (List ℕ)
last_relay first relay = if length relay.1 == 0 then Some (relay_words (first / 128) (first % 128) relay.0) else None

-- these words of a bit and a relay type in one octet, and a relay
abbrev pub relay_text : List ℕ → Option (List ℕ)
relay_text [] = None
relay_text (first ∷ octets) = option_and_then (last_relay first) (gateway_at (first % 128) octets)
