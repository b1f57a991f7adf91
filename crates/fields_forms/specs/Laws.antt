-- What is printed of a location, a gateway, a relay or a host identity reads back as that value.
use Rattle.std.specs.Prelude.{◌≡◌, ℕ, List, map, All, Some, ◌++◌, codes, ◌≢◌, ◌+◌, ◌*◌, ◌/◌, ◌%◌, [], ◌∷◌, take, drop, decimal}
use Rattle.std.specs.Borrow.{Bor}
use Rattle.hex.specs.Hex.{IsBytes}
use Rattle.fields_forms.specs.LocationItems.{LocationItem, location_of, location_text}
use Rattle.fields_forms.specs.GatewayTexts.{gateway_text, relay_text, gateway_at, name_at}
use Rattle.fields_forms.specs.HostIdentities.{identity_text}
use Rattle.fields_text.specs.Separated.{spaced}
use Rattle.fields_forms.specs.GatewayWords.{IsGateway, IsRelay}
use Rattle.fields_forms.specs.IdentityWords.{IsHostIdentity}
use Rattle.fields_forms.specs.LocationWords.{IsLocation}
use Rattle.fields_text.specs.PrintedWords.{AreWords}
use Rattle.base64.specs.Engines.{standard}
use Rattle.base64.specs.GeneralPurpose.{encode_of}
use Rattle.dns_name.specs.Names.{Labels}
use Rattle.fields_text.specs.Hex.{hex_text}
use Rattle.fields_plain.specs.ZoneNames.{zone_name_text}
use Rattle.fields_text.specs.LineWords.{AreWordsOf, word_of_any}

-- locations that have a presentation format, as the words between the spaces of their texts
abbrev pub LocationsReadBack : Type 0
LocationsReadBack =
    (words : List (Bor (List ℕ))) (octets : List ℕ) (item : LocationItem) → IsBytes octets → location_of octets ≡ Some item
    → spaced (map (λ word. word.now) words) ≡ location_text item → All (λ word. All (λ octet. octet ≢ 32) word.now) words → IsLocation words octets

-- gateways with their public keys; each printed word comes after a space
abbrev pub GatewaysReadBack : Type 0
GatewaysReadBack = (octets text : List ℕ) (words : List (Bor (List ℕ))) → IsBytes octets → gateway_text octets ≡ Some text → AreWords text words → IsGateway words octets

-- relays; each printed word comes after a space
abbrev pub RelaysReadBack : Type 0
RelaysReadBack = (octets text : List ℕ) (words : List (Bor (List ℕ))) → IsBytes octets → relay_text octets ≡ Some text → AreWords text words → IsRelay words octets

-- host identities; spaces separate the printed words
abbrev pub IdentitiesReadBack : Type 0
IdentitiesReadBack =
    (octets text : List ℕ) (words : List (Bor (List ℕ))) → IsBytes octets → identity_text octets ≡ Some text → AreWords (codes " " ++ text) words → IsHostIdentity words octets

-- a gateway type, an algorithm, a gateway and a key
abbrev pub GatewaysSplit : Type 0
GatewaysSplit = (gateway_type algorithm : ℕ) (octets text : List ℕ) → IsBytes (gateway_type ∷ algorithm ∷ octets) → gateway_text (gateway_type ∷ algorithm ∷ octets) ≡ Some text
    → (word key : List ℕ) × (gateway_at gateway_type octets ≡ Some (word, key))
    × AreWordsOf text (decimal gateway_type ∷ decimal algorithm ∷ word ∷ word_of_any (encode_of standard) key)

-- a bit, a relay type and a relay
abbrev pub RelaysSplit : Type 0
RelaysSplit = (first : ℕ) (octets text : List ℕ) → IsBytes (first ∷ octets) → relay_text (first ∷ octets) ≡ Some text
    → (word after : List ℕ) × (gateway_at (first % 128) octets ≡ Some (word, after))
    × AreWordsOf text (decimal (first / 128) ∷ decimal (first % 128) ∷ word ∷ [])

-- the names that fill octets, one after another
abbrev pub AreNames : List ℕ → List Labels → Type 0
AreNames octets [] = octets ≡ []
AreNames octets (name ∷ names) = (after : List ℕ) × (name_at octets ≡ Some (name, after)) × AreNames after names

-- an algorithm, a host identity tag, a public key and the names of servers, which fill the other octets
abbrev pub IdentitiesSplit : Type 0
IdentitiesSplit = (tag_size algorithm high low : ℕ) (octets text : List ℕ) → IsBytes (tag_size ∷ algorithm ∷ high ∷ low ∷ octets)
    → identity_text (tag_size ∷ algorithm ∷ high ∷ low ∷ octets) ≡ Some text
    → (servers : List Labels)
    × AreNames (drop (high * 256 + low) (drop tag_size octets)) servers
    × AreWordsOf text
    (decimal algorithm ∷ hex_text (take tag_size octets) ∷ encode_of standard (take (high * 256 + low) (drop tag_size octets)) ∷ map zone_name_text servers)
