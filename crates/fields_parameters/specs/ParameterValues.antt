-- Values of service parameters with a named key. RFC 9460 sections 7 and 8; ech: RFC 9848 section 3; dohpath: RFC 9461 section 5; ohttp: RFC 9540 section 4.
use Rattle.std.specs.Prelude.{◌≡◌, ℕ, ◌^◌, ◌<◌, ◌==◌, ◌||◌, if◌then◌else◌, List, [], ◌∷◌, ◌++◌, map, length}
use Rattle.std.specs.Bool.{MatchBool}
use Rattle.std.specs.List.{AllByRecursion, flat_map}
use Rattle.std.specs.Net.Grammar.{IsDotted, IsNumber}
use Rattle.fields_parameters.specs.ParameterItems.{two_octets}
use Rattle.fields_text.specs.Separated.{comma_text}
use Rattle.fields_text.specs.Octets.{IsBase64}
use Rattle.fields_text.specs.String.{backslash}
use Rattle.fields_text.specs.Strings.{SpellsString, unquoted}
use Rattle.fields_plain.specs.Addresses.{IsIpv6Word}
use Rattle.fields_plain.specs.Salts.{IsCounted}
use Rattle.fields_parameters.specs.AnyOrder.{AreIncreasing, InAnyOrder}
use Rattle.fields_parameters.specs.ParameterKeys.{IsKey}

-- the ASCII code of a comma
abbrev pub comma : ℕ
comma = 0x2c

-- the texts of a list with commas between them; there is one at least. Appendix A.1
abbrev pub with_first : ℕ → List (List ℕ) → List (List ℕ)
with_first c [] = (c ∷ []) ∷ []
with_first c (text ∷ texts) = (c ∷ text) ∷ texts

abbrev pub comma_texts : List ℕ → List (List ℕ)
comma_texts [] = [] ∷ []
comma_texts (c ∷ text) = if c == comma then [] ∷ comma_texts text else with_first c (comma_texts text)

-- each text represents octets, and these are joined
abbrev pub AreJoined : (List ℕ → List ℕ → Type 0) → List (List ℕ) → List ℕ → Type 0
AreJoined Represents [] octets = octets ≡ []
AreJoined Represents (text ∷ texts) octets =
    (first : List ℕ) × (others : List ℕ) × Represents text first × (octets ≡ first ++ others) × AreJoined Represents texts others

-- the text is an address for a hint: of IPv4 if the key is that of `ipv4hint`, else of IPv6. Section 7.3
abbrev pub IsHint : ℕ → List ℕ → List ℕ → Type 0
IsHint key text octets = MatchBool (key == 4) (IsDotted text octets) (IsIpv6Word text octets)

-- the text is a list of such addresses
abbrev pub AreHints : ℕ → List ℕ → List ℕ → Type 0
AreHints key text value = AreJoined (IsHint key) (comma_texts text) value

-- the text is a port in decimal digits. Section 7.2
abbrev pub IsPort : List ℕ → List ℕ → Type 0
IsPort text value = (port : ℕ) × IsNumber 10 text port × (port < 2 ^ 16) × (value ≡ two_octets port)

-- the text is base64 of one octet at least. RFC 9848 section 3
abbrev pub IsEch : List ℕ → List ℕ → Type 0
IsEch text value = IsBase64 text value × (0 < length value)

-- a key that may be mandatory: any but that of `mandatory` itself. Section 8
abbrev pub IsListedKey : List ℕ → ℕ → Type 0
IsListedKey text key = IsKey text key × (0 < key)

-- the text is a list of keys in any order, and the value has them in increasing order
pub record AreMandatory (text value : List ℕ) : Type 0 where
  pub keys : List ℕ
  pub listed : InAnyOrder IsListedKey (comma_texts text) keys
  pub increasing : AreIncreasing (λ key. key) 0 keys
  pub octets : value ≡ flat_map two_octets keys

-- a name in a list: a backslash is before each comma and each backslash. Appendix A.1
abbrev pub escaped : List ℕ → List ℕ
escaped name = flat_map (λ o. if (o == comma) || (o == backslash) then backslash ∷ o ∷ [] else o ∷ []) name

-- the text is a list of protocol names, one at least, and the value has each after its length. Section 7.1.1
pub record AreProtocols (text value : List ℕ) : Type 0 where
  pub first : List ℕ
  pub others : List (List ℕ)
  pub counted : AllByRecursion IsCounted (first ∷ others)
  pub listed : text ≡ comma_text (map escaped (first ∷ others))
  pub octets : value ≡ flat_map (λ name. length name ∷ name) (first ∷ others)

-- the text is a character string of such a list
abbrev pub IsAlpn : List ℕ → List ℕ → Type 0
IsAlpn text value = (octets : List ℕ) × SpellsString text octets × AreProtocols octets value

-- there is no value
abbrev pub IsNothing : List ℕ → List ℕ → Type 0
IsNothing text value = SpellsString text value × (length value ≡ 0)

-- The text is the value of the named key, in quotes or without. Lists of keys and of addresses, ports and base64 have no escape sequences. Keys 2 and 8, `no-default-alpn` and `ohttp`, have no value.
abbrev pub IsNamedValue : ℕ → List ℕ → List ℕ → Type 0
IsNamedValue key text value =
    MatchBool (key == 0) (AreMandatory (unquoted text) value) (
    MatchBool (key == 1) (IsAlpn text value) (
    MatchBool (key == 3) (IsPort (unquoted text) value) (
    MatchBool (key == 4) (AreHints 4 (unquoted text) value) (
    MatchBool (key == 5) (IsEch (unquoted text) value) (
    MatchBool (key == 6) (AreHints 6 (unquoted text) value) (
    MatchBool (key == 7) (SpellsString text value) (IsNothing text value)))))))
