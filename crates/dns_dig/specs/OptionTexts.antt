-- The lines of options. RFC 6891 section 6.1.2.
use Rattle.std.specs.Prelude.{ℕ, ◌+◌, ◌*◌, ◌/◌, ◌%◌, ◌==◌, ◌&&◌, ◌||◌, not, nat_lt, nat_le, Bool, false, if◌then◌else◌, List, [], ◌∷◌, ◌++◌, length, drop, replicate, slice_index, codes, decimal}
use Rattle.std.specs.List.{flat_map}
use Rattle.std.specs.Option.{option_map_or}
use Rattle.std.specs.Net.Addr.{segments_of}
use Rattle.std.specs.Net.Text.{ipv4_text, ipv6_text}
use Rattle.dns_print.specs.Digits.{hex_digits}
use Rattle.dns_iana.specs.Mnemonics.{mnemonic}
use Rattle.dns_iana.specs.Registry.{registered_extended_errors}
use Rattle.dns_edns.specs.Options.{OptionItem}
use Rattle.dns_dig.specs.Header.{if_set}
use Rattle.dns_dig.specs.Words.{option_word}

-- an octet as a character: a dot if it isn't printable ASCII
abbrev pub character : ℕ → List ℕ
character octet = if nat_le 32 octet && nat_lt octet 127 then octet ∷ [] else codes "."

-- octets as characters
abbrev pub characters : List ℕ → List ℕ
characters octets = flat_map character octets

-- an octet as two hexadecimal digits and a space
abbrev pub spaced_digits : ℕ → List ℕ
spaced_digits octet = hex_digits false octet ++ codes " "

-- octets in hexadecimal digits, and as characters
abbrev pub octets_text : List ℕ → List ℕ
octets_text octets = if length octets == 0 then [] else codes " " ++ (flat_map spaced_digits octets ++ (codes "(\"" ++ (characters octets ++ codes "\")")))

-- COOKIE: hexadecimal digits. RFC 7873 section 4.
abbrev pub cookie_text : List ℕ → List ℕ
cookie_text octets = if length octets == 0 then [] else codes " " ++ flat_map (hex_digits false) octets

-- Padding: only the number of its octets. RFC 7830 section 3.
abbrev pub padding_text : List ℕ → List ℕ
padding_text octets = if length octets == 0 then [] else codes " (" ++ (decimal (length octets) ++ codes " bytes)")

-- two octets as a number, big-endian
abbrev pub number_16 : List ℕ → ℕ
number_16 octets = slice_index octets 0 * 256 + slice_index octets 1

-- four octets as a number, big-endian
abbrev pub number_32 : List ℕ → ℕ
number_32 octets = number_16 octets * 65536 + (slice_index octets 2 * 256 + slice_index octets 3)

-- tenths of a second as seconds
abbrev pub tenths_text : ℕ → List ℕ
tenths_text n = codes " " ++ (decimal (n / 10) ++ (codes "." ++ (decimal (n % 10) ++ codes " secs")))

-- TCP keepalive: tenths of a second. RFC 7828 section 3.1.
abbrev pub keepalive_text : List ℕ → List ℕ
keepalive_text octets = if length octets == 2 then tenths_text (number_16 octets) else octets_text octets

-- a number of units, with an s after any number but 1; after a space if it follows another
abbrev pub unit_text : Bool → ℕ × List ℕ → List ℕ
unit_text later unit = if_set later (codes " ") ++ (decimal unit.0 ++ (codes " " ++ (unit.1 ++ if_set (not (unit.0 == 1)) (codes "s"))))

-- the same, but nothing for 0
abbrev pub unit_or_none : Bool → ℕ × List ℕ → List ℕ
unit_or_none later unit = if unit.0 == 0 then [] else unit_text later unit

-- numbers of units, without those that are 0; `later` if they follow another
abbrev pub units_text : Bool → List (ℕ × List ℕ) → List ℕ
units_text later [] = []
units_text later (unit ∷ units) = unit_or_none later unit ++ units_text (later || not (unit.0 == 0)) units

-- seconds as weeks, days, hours, minutes and seconds
abbrev pub units_of : ℕ → List (ℕ × List ℕ)
units_of n = (n / 604800, codes "week") ∷ (n / 86400 % 7, codes "day") ∷ (n / 3600 % 24, codes "hour") ∷ (n / 60 % 60, codes "minute") ∷ (n % 60, codes "second") ∷ []

-- a time in words
abbrev pub duration_text : ℕ → List ℕ
duration_text n = if n == 0 then codes "0 seconds" else units_text false (units_of n)

-- seconds, and these in words
abbrev pub expiry_text : ℕ → List ℕ
expiry_text n = codes " " ++ (decimal n ++ (codes " (" ++ (duration_text n ++ codes ")")))

-- EXPIRE: seconds. RFC 7314 section 2.
abbrev pub expire_text : List ℕ → List ℕ
expire_text octets = if length octets == 4 then expiry_text (number_32 octets) else octets_text octets

-- the registered name of an extended error in parentheses; nothing if it has none
abbrev pub error_name : ℕ → List ℕ
error_name code = option_map_or (λ name. codes " (" ++ (name ++ codes ")")) (mnemonic registered_extended_errors code) []

-- the text of an extended error, as characters
abbrev pub error_details : List ℕ → List ℕ
error_details octets = if length octets == 0 then [] else codes ": (" ++ (characters octets ++ codes ")")

-- a code with its name, and a text
abbrev pub error_fields : ℕ → List ℕ → List ℕ
error_fields code details = codes " " ++ (decimal code ++ (error_name code ++ error_details details))

-- Extended error: its code, and its text. RFC 8914 section 2.
abbrev pub error_text : List ℕ → List ℕ
error_text octets = if nat_lt (length octets) 2 then octets_text octets else error_fields (number_16 octets) (drop 2 octets)

-- the octets of an address of this size, of which only the first are given: the others are zero
abbrev pub padded : ℕ → List ℕ → List ℕ
padded size octets = octets ++ drop (length octets) (replicate size 0)

-- the lengths of the source and the scope prefix, which are the third and fourth octet
abbrev pub prefix_lengths : List ℕ → List ℕ
prefix_lengths octets = codes "/" ++ (decimal (slice_index octets 2) ++ (codes "/" ++ decimal (slice_index octets 3)))

-- a subnet of IPv4: the address and the lengths of its prefixes
abbrev pub ipv4_subnet_text : List ℕ → List ℕ
ipv4_subnet_text octets = codes " " ++ (ipv4_text (padded 4 (drop 4 octets)) ++ prefix_lengths octets)

-- a subnet of IPv6
abbrev pub ipv6_subnet_text : List ℕ → List ℕ
ipv6_subnet_text octets = codes " " ++ (ipv6_text (segments_of (padded 16 (drop 4 octets))) ++ prefix_lengths octets)

-- Client subnet: family 0 without an address, which is no subnet; 1 is IPv4, and 2 is IPv6. RFC 7871 sections 6 and 7.1.2.
abbrev pub subnet_text : List ℕ → List ℕ
subnet_text octets =
    if nat_lt (length octets) 4 then octets_text octets
    else if (length octets == 4) && (number_32 octets == 0) then codes " 0/0/0"
    else if (number_16 octets == 1) && nat_le (length octets) 8 then ipv4_subnet_text octets
    else if (number_16 octets == 2) && nat_le (length octets) 20 then ipv6_subnet_text octets
    else octets_text octets

-- the octets of an option, by its code
abbrev pub value_text : ℕ → List ℕ → List ℕ
value_text code octets =
    if code == 8 then subnet_text octets
    else if code == 9 then expire_text octets
    else if code == 10 then cookie_text octets
    else if code == 11 then keepalive_text octets
    else if code == 12 then padding_text octets
    else if code == 15 then error_text octets
    else octets_text octets

-- the line of an option
abbrev pub option_line : OptionItem → List ℕ
option_line x = codes "; " ++ (option_word x.code ++ (codes ":" ++ (value_text x.code x.octets ++ codes "\n")))
