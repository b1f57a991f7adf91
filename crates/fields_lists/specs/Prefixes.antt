-- Address prefixes. RFC 3123 section 4.
use Rattle.std.specs.Prelude.{ℕ, zero, suc, ◌%◌, Bool, true, false, List, [], ◌∷◌, Option, map, ◌*◌, ◌==◌, nat_le, ◌&&◌, not, if◌then◌else◌, ◌++◌, take, replicate, length, codes, decimal, Some, None}
use Rattle.fields_lists.specs.PrefixItems.{prefixes_of, PrefixItem}
use Rattle.fields_text.specs.Separated.{spaced_if_all}
use Rattle.std.specs.Net.Addr.{segments_of}
use Rattle.std.specs.Net.Text.{ipv4_text, ipv6_text}

-- `left` octets that end an address, and then items: an address family of 16 bits, a prefix length, a bit, a size of seven bits, and an address of that size each
abbrev pub prefixes_after : ℕ → List ℕ → Bool
prefixes_after zero [] = true
prefixes_after (suc left) [] = false
prefixes_after zero (high ∷ []) = false
prefixes_after zero (high ∷ low ∷ []) = false
prefixes_after zero (high ∷ low ∷ prefix ∷ []) = false
prefixes_after zero (high ∷ low ∷ prefix ∷ size ∷ octets) = prefixes_after (size % 128) octets
prefixes_after (suc left) (octet ∷ octets) = prefixes_after left octets

abbrev pub are_prefixes : List ℕ → Bool
are_prefixes octets = prefixes_after 0 octets

-- whether the octets are none, or the last one isn't zero
abbrev pub is_trimmed : List ℕ → Bool
is_trimmed [] = true
is_trimmed (x ∷ []) = not (x == 0)
is_trimmed (x ∷ y ∷ xs) = is_trimmed (y ∷ xs)

-- whether the address fits into `width` octets, and the prefix into their bits
abbrev pub fits : ℕ → PrefixItem → Bool
fits width item = nat_le (length item.address) width && (nat_le item.size (width * 8) && is_trimmed item.address)

-- whether a prefix has a presentation format
abbrev pub has_word : PrefixItem → Bool
has_word item = if item.family == 1 then fits 4 item else if item.family == 2 then fits 16 item else false

-- octets followed by zeros, `width` in all
abbrev pub padded : ℕ → List ℕ → List ℕ
padded width octets = take width (octets ++ replicate width 0)

-- the address: IPv4 as family 1, IPv6 as family 2
abbrev pub address_text : PrefixItem → List ℕ
address_text item =
    if item.family == 1 then ipv4_text (padded 4 item.address) else ipv6_text (segments_of (padded 16 item.address))

-- an exclamation mark if the prefix is negated
abbrev pub sign : PrefixItem → List ℕ
sign item = if item.negated then codes "!" else []

-- the sign, the family, a colon, the address, a slash and the size
abbrev pub prefix_text : PrefixItem → List ℕ
prefix_text item = sign item ++ decimal item.family ++ codes ":" ++ address_text item ++ codes "/" ++ decimal item.size

-- the prefix as a word
abbrev pub prefix_word : PrefixItem → Option (List ℕ)
prefix_word item = if has_word item then Some (prefix_text item) else None

-- address prefixes, separated by spaces; none if one has no presentation format
abbrev pub prefixes_text : List ℕ → Option (List ℕ)
prefixes_text octets = spaced_if_all [] (map prefix_word (prefixes_of octets))
