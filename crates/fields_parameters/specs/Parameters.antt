-- Service parameters. RFC 9460 section 2.2.
use Rattle.std.specs.Prelude.{ℕ, zero, suc, ◌+◌, ◌*◌, nat_le, ◌&&◌, Bool, true, false, List, [], ◌∷◌, ◌++◌, codes, ◌%◌, nat_lt, ◌==◌, ◌||◌, not, if◌then◌else◌, map, length, decimal, Option, Some, None, unwrap_or}
use Rattle.std.specs.List.{flat_map}
use Rattle.fields_parameters.specs.ParameterItems.{parameters_of, ParameterItem}
use Rattle.std.specs.Int.{from_be_bytes, is_in_range, w16}
use Rattle.std.specs.Net.Addr.{segments_of}
use Rattle.std.specs.Net.Text.{ipv4_text, ipv6_text}
use Rattle.base64.specs.Engines.{standard}
use Rattle.base64.specs.GeneralPurpose.{encode_of}
use Rattle.fields_text.specs.Separated.{comma_text}
use Rattle.fields_lists.specs.Groups.{groups}
use Rattle.fields_lists.specs.Strings.{strings_of}
use Rattle.fields_text.specs.String.{quote, backslash, quoted}

-- `left` octets that end a value, and then parameters: a key, a size, and a value of that size each, keys and sizes of 16 bits; keys increase, and begin at `least` or above it
abbrev pub parameters_after : ℕ → ℕ → List ℕ → Bool
parameters_after least zero [] = true
parameters_after least (suc left) [] = false
parameters_after least zero (high ∷ []) = false
parameters_after least zero (high ∷ low ∷ []) = false
parameters_after least zero (high ∷ low ∷ size_high ∷ []) = false
parameters_after least zero (high ∷ low ∷ size_high ∷ size_low ∷ octets) =
    let key = high * 256 + low in
    nat_le least key && parameters_after (key + 1) (size_high * 256 + size_low) octets
parameters_after least (suc left) (octet ∷ octets) = parameters_after least left octets

abbrev pub are_parameters : List ℕ → Bool
are_parameters octets = parameters_after 0 0 octets

-- the name of a key
abbrev pub key_name : ℕ → Option (List ℕ)
key_name key =
    if key == 0 then Some (codes "mandatory")
    else if key == 1 then Some (codes "alpn")
    else if key == 2 then Some (codes "no-default-alpn")
    else if key == 3 then Some (codes "port")
    else if key == 4 then Some (codes "ipv4hint")
    else if key == 5 then Some (codes "ech")
    else if key == 6 then Some (codes "ipv6hint")
    else if key == 7 then Some (codes "dohpath")
    else if key == 8 then Some (codes "ohttp")
    else None

-- a key as a word: its name, else `key` and its number
abbrev pub key_word : ℕ → List ℕ
key_word key = unwrap_or (key_name key) (codes "key" ++ decimal key)

-- an octet of a protocol name that needs no escape in a list in quotes
abbrev pub is_bare : ℕ → Bool
is_bare o = is_in_range 0x20 0x7e o && not ((o == quote) || (o == backslash) || (o == 0x2c))

-- after the last `left` octets of a name, names after their lengths; no name is empty or needs an escape
abbrev pub are_protocols_from : ℕ → List ℕ → Bool
are_protocols_from left [] = left == 0
are_protocols_from zero (size ∷ octets) = not (size == 0) && are_protocols_from size octets
are_protocols_from (suc left) (octet ∷ octets) = is_bare octet && are_protocols_from left octets

-- whether the octets are protocol names, one at least
abbrev pub are_protocols : List ℕ → Bool
are_protocols value = are_protocols_from 0 value && not (length value == 0)

-- whether the octets are groups of this size, one at least
abbrev pub are_groups : ℕ → List ℕ → Bool
are_groups size octets = not (length octets == 0) && (length octets % size == 0)

-- keys of two octets, each above the one before, and the first above `least`
abbrev pub are_keys_above : ℕ → List ℕ → Bool
are_keys_above least [] = true
are_keys_above least (high ∷ []) = false
are_keys_above least (high ∷ low ∷ octets) = let key = high * 256 + low in nat_lt least key && are_keys_above key octets

-- whether the octets are increasing keys, one at least, without the key of `mandatory` itself
abbrev pub are_keys : List ℕ → Bool
are_keys value = are_keys_above 0 value && not (length value == 0)

-- whether the value is well-formed for the name of its key
abbrev pub has_named_value : ℕ → List ℕ → Bool
has_named_value key value =
    if key == 0 then are_keys value
    else if key == 1 then are_protocols value
    else if (key == 2) || (key == 8) then length value == 0
    else if key == 3 then length value == 2
    else if key == 4 then are_groups 4 value
    else if key == 5 then not (length value == 0)
    else if key == 6 then are_groups 16 value
    else key == 7

-- keys of two octets, separated by commas
abbrev pub keys_text : List ℕ → List ℕ
keys_text value = comma_text (map (λ key. key_word (from_be_bytes w16 key)) (groups 2 value))

-- addresses of four and of sixteen octets, separated by commas
abbrev pub ipv4_hints : List ℕ → List ℕ
ipv4_hints value = comma_text (map ipv4_text (groups 4 value))

abbrev pub ipv6_hints : List ℕ → List ℕ
ipv6_hints value = comma_text (map (λ address. ipv6_text (segments_of address)) (groups 16 value))

-- protocol names, separated by commas
abbrev pub protocols : List ℕ → List ℕ
protocols value = comma_text (strings_of value)

-- a port
abbrev pub port_text : List ℕ → List ℕ
port_text value = decimal (from_be_bytes w16 value)

-- such a value: nothing if the key has none, else an equals sign and the value
abbrev pub named_value : ℕ → List ℕ → List ℕ
named_value key value =
    if (key == 2) || (key == 8) then []
    else codes "=" ++ (
    if key == 0 then keys_text value
    else if key == 1 then codes "\"" ++ protocols value ++ codes "\""
    else if key == 3 then port_text value
    else if key == 4 then ipv4_hints value
    else if key == 5 then encode_of standard value
    else if key == 6 then ipv6_hints value
    else quoted value
    )

-- any other value: nothing if it is empty, else an equals sign and the octets in quotes
abbrev pub other_value : List ℕ → List ℕ
other_value [] = []
other_value (x ∷ xs) = codes "=" ++ quoted (x ∷ xs)

-- a parameter: by the name of its key if its value is well-formed for it, else by the key's number
abbrev pub parameter_word : ParameterItem → List ℕ
parameter_word item =
    if has_named_value item.key item.value then key_word item.key ++ named_value item.key item.value
    else codes "key" ++ decimal item.key ++ other_value item.value

-- service parameters, each after a space
abbrev pub parameters_text : List ℕ → List ℕ
parameters_text octets = flat_map (λ item. codes " " ++ parameter_word item) (parameters_of octets)
