-- RDATA in presentation format. RFC 1035 sections 3.4.1 and 5.1, RFC 3597 section 5.
use Rattle.std.specs.Prelude.{ℕ, false, List, [], ◌∷◌, ◌++◌, length, slice_index, Option, option_map, codes}
use Rattle.std.specs.Fmt.{decimal}
use Rattle.std.specs.List.{flat_map}
use Rattle.std.specs.Option.{option_and_then}
use Rattle.dns_print.specs.Digits.{hex_digits}
use Rattle.dns_data.specs.A.{address_of}
use Rattle.dns_data.specs.Soa.{mname_of, rname_of, serial_of, refresh_of, retry_of, expire_of, minimum_of}
use Rattle.dns_data.specs.declared.a.A.{A}
use Rattle.dns_data.specs.declared.soa.Soa.{Soa}

-- an address: four decimal numbers separated by dots
abbrev pub address_text : A → List ℕ
address_text a =
    let octet = slice_index (address_of a) in
    decimal (octet 0) ++ codes "." ++ decimal (octet 1) ++ codes "." ++ decimal (octet 2) ++ codes "." ++ decimal (octet 3)

-- a name with its final dot, if the text of the name is known
abbrev pub absolute_text : Option (List ℕ) → Option (List ℕ)
absolute_text name = option_map (λ text. text ++ codes ".") name

-- the five numbers of SOA data, separated by one space
abbrev pub numbers_text : {N : Type 0} → Soa N → List ℕ
numbers_text soa =
    decimal (serial_of soa) ++ codes " " ++ decimal (refresh_of soa) ++ codes " " ++ decimal (retry_of soa) ++ codes " " ++ decimal (expire_of soa) ++ codes " " ++ decimal (minimum_of soa)

-- SOA data: its two names, each with a final dot, and its numbers
abbrev pub soa_text : {N : Type 0} → (N → Option (List ℕ)) → Soa N → Option (List ℕ)
soa_text name_text soa =
    option_and_then (λ mname. option_map (λ rname. mname ++ codes ". " ++ rname ++ codes ". " ++ numbers_text soa) (name_text (rname_of soa))) (name_text (mname_of soa))

-- an octet as two lowercase hexadecimal digits
abbrev pub hex_octet : ℕ → List ℕ
hex_octet octet = hex_digits false octet

-- a space and the octets in hexadecimal digits, if there are any
abbrev pub hex_text : List ℕ → List ℕ
hex_text [] = []
hex_text (octet ∷ octets) = codes " " ++ flat_map hex_octet (octet ∷ octets)

-- opaque data: `\#`, the number of octets, and the octets
abbrev pub opaque_text : List ℕ → List ℕ
opaque_text octets = codes "\\# " ++ decimal (length octets) ++ hex_text octets
