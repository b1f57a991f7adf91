-- Words that represent gateways and relays. RFC 4025 section 3.1, RFC 8777 section 4.3.1.
use Rattle.std.specs.Prelude.{◌≡◌, ◌⊎◌, ℕ, ◌+◌, ◌*◌, ◌≤◌, List, [], ◌∷◌, ◌++◌, codes}
use Rattle.std.specs.Borrow.{Bor}
use Rattle.std.specs.Net.Grammar.{IsDotted, IsNumber}
use Rattle.fields_plain.specs.Addresses.{IsIpv6Word}
use Rattle.fields_text.specs.JoinedWords.{AreBase64}
use Rattle.fields_plain.specs.NameWords.{IsNameWord}

-- the word is a decimal number of at most `most`
abbrev pub IsNumberTo : ℕ → List ℕ → ℕ → Type 0
IsNumberTo most word n = IsNumber 10 word n × (n ≤ most)

-- the word is a gateway of this type: a dot for no gateway in type 0, an address of IPv4 in type 1 and of IPv6 in type 2, a name in type 3
abbrev pub IsGatewayOf : ℕ → List ℕ → List ℕ → Type 0
IsGatewayOf gateway_type word octets =
    ((gateway_type ≡ 0) × (word ≡ codes ".") × (octets ≡ []))
    ⊎ (((gateway_type ≡ 1) × IsDotted word octets)
    ⊎ (((gateway_type ≡ 2) × IsIpv6Word word octets) ⊎ ((gateway_type ≡ 3) × IsNameWord word octets)))

-- the words are a gateway type, an algorithm, a gateway and a public key in base64. RFC 4025 section 3.1
pub record IsGatewayAndKey (type_word algorithm_word word : List ℕ) (key_words : List (Bor (List ℕ))) (octets : List ℕ) : Type 0 where
  pub gateway_type : ℕ
  pub algorithm : ℕ
  pub gateway : List ℕ
  pub key : List ℕ
  pub is_type : IsNumberTo 3 type_word gateway_type
  pub is_algorithm : IsNumberTo 255 algorithm_word algorithm
  pub is_gateway : IsGatewayOf gateway_type word gateway
  pub is_key : AreBase64 key_words key
  pub whole : octets ≡ gateway_type ∷ algorithm ∷ (gateway ++ key)

-- three words and those of the key
abbrev pub IsGateway : List (Bor (List ℕ)) → List ℕ → Type 0
IsGateway (gateway_type ∷ algorithm ∷ gateway ∷ key) octets = IsGatewayAndKey gateway_type.now algorithm.now gateway.now key octets
IsGateway _ octets = ⊥

-- the words are a bit, a relay type and a relay; the first octet is the bit beside the type. RFC 8777 section 4.3.1
pub record IsRelayOf (bit_word type_word word octets : List ℕ) : Type 0 where
  pub bit : ℕ
  pub relay_type : ℕ
  pub relay : List ℕ
  pub is_bit : IsNumberTo 1 bit_word bit
  pub is_type : IsNumberTo 3 type_word relay_type
  pub is_relay : IsGatewayOf relay_type word relay
  pub whole : octets ≡ (bit * 128 + relay_type) ∷ relay

-- exactly three words
abbrev pub IsRelay : List (Bor (List ℕ)) → List ℕ → Type 0
IsRelay (bit ∷ relay_type ∷ relay ∷ []) octets = IsRelayOf bit.now relay_type.now relay.now octets
IsRelay _ octets = ⊥
