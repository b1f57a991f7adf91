-- The options that a builder has a call for: the code of each, and its octets as its RFC defines them.
use Rattle.std.specs.Prelude.{ℕ, ◌-◌, ◌*◌, ◌/◌, ◌%◌, ◌^◌, ◌≤◌, min, Option, Some, None, List, [], ◌∷◌, ◌++◌, length, take, replicate, slice_index, if◌then◌else◌, ◌==◌}
use Rattle.std.specs.Int.{to_be_bytes, w16, w32}
use Rattle.std.specs.List.{flat_map}
use Rattle.dns_name.specs.Names.{Labels, uncompressed}
use Rattle.dns_edns.specs.Options.{OptionItem}
use Rattle.dns_edns.specs.declared.option.SubnetAddr.{SubnetAddr}
use Rattle.dns_edns.specs.declared.option.SubnetAddr.TheVariants.{V4, V6}

-- NSID: the identifier of a name server, empty in a query. RFC 5001 sections 2.1 and 2.3.
abbrev pub nsid_option : List ℕ → OptionItem
nsid_option identifier = record { code = 3; octets = identifier }

-- DAU, DHU and N3U: the understood algorithms of signatures, of DS hashes and of NSEC3 hashes, one octet each. RFC 6975 section 3.
abbrev pub dau_option : List ℕ → OptionItem
dau_option algorithms = record { code = 5; octets = algorithms }

abbrev pub dhu_option : List ℕ → OptionItem
dhu_option algorithms = record { code = 6; octets = algorithms }

abbrev pub n3u_option : List ℕ → OptionItem
n3u_option algorithms = record { code = 7; octets = algorithms }

-- Client subnet: two octets of address family, one octet each of source and scope prefix length, and the source prefix. RFC 7871 section 6. The families are 1 for IPv4 and 2 for IPv6.
abbrev pub family : SubnetAddr → ℕ
family (V4 _) = 1
family (V6 _) = 2

abbrev pub address_octets : SubnetAddr → List ℕ
address_octets (V4 octets) = octets
address_octets (V6 octets) = octets

-- the number of bits of an address
abbrev pub address_bits : SubnetAddr → ℕ
address_bits (V4 _) = 32
address_bits (V6 _) = 128

-- an octet with only its first `count` bits; the others are zero
abbrev pub first_bits : ℕ → ℕ → ℕ
first_bits count octet = octet / 2 ^ (8 - count) * 2 ^ (8 - count)

-- the first bits of an address in the fewest octets; the bits after them are zero
abbrev pub prefix_octets : ℕ → List ℕ → List ℕ
prefix_octets bits address =
    take (bits / 8) address ++ (if bits % 8 == 0 then [] else first_bits (bits % 8) (slice_index address (bits / 8)) ∷ [])

-- the option, with both prefix lengths capped at the number of bits of the address
abbrev pub client_subnet_option : ℕ → ℕ → SubnetAddr → OptionItem
client_subnet_option source scope address =
    let most = address_bits address in
    let lengths = min source most ∷ min scope most ∷ [] in
    record { code = 8; octets = to_be_bytes w16 (family address) ++ lengths ++ prefix_octets (min source most) (address_octets address) }

-- EXPIRE: the seconds until a zone expires, in four octets; empty in a query. RFC 7314 sections 2 and 3.
abbrev pub expire_option : Option ℕ → OptionItem
expire_option None = record { code = 9; octets = [] }
expire_option (Some seconds) = record { code = 9; octets = to_be_bytes w32 seconds }

-- COOKIE: eight octets of the client, and those of the server, 8 to 32, if the client has them. RFC 7873 section 4.
abbrev pub cookie_option : List ℕ → Option (List ℕ) → OptionItem
cookie_option client None = record { code = 10; octets = client }
cookie_option client (Some server) = record { code = 10; octets = client ++ server }

abbrev pub IsServerCookie : List ℕ → Type 0
IsServerCookie server = (8 ≤ length server) × (length server ≤ 32)

-- TCP keepalive: the idle timeout of the connection in units of 100 milliseconds, in two octets; empty in a query. RFC 7828 section 3.1.
abbrev pub tcp_keepalive_option : Option ℕ → OptionItem
tcp_keepalive_option None = record { code = 11; octets = [] }
tcp_keepalive_option (Some timeout) = record { code = 11; octets = to_be_bytes w16 timeout }

-- Padding: octets without meaning, which should be zero unless there is a reason for others. RFC 7830 section 3.
abbrev pub padding_option : List ℕ → OptionItem
padding_option octets = record { code = 12; octets = octets }

abbrev pub zeros : ℕ → List ℕ
zeros len = replicate len 0

-- CHAIN: the name of the closest trust point, uncompressed. RFC 7901 section 4.
abbrev pub chain_option : Labels → OptionItem
chain_option trust_point = record { code = 13; octets = uncompressed trust_point }

-- Key tags: those of the trust anchors, two octets each. RFC 8145 section 4.1.
abbrev pub key_tag_option : List ℕ → OptionItem
key_tag_option tags = record { code = 14; octets = flat_map (to_be_bytes w16) tags }

-- Extended DNS error: a code in two octets, and a text. RFC 8914 section 2.
abbrev pub extended_error_option : ℕ → Option (List ℕ) → OptionItem
extended_error_option code None = record { code = 15; octets = to_be_bytes w16 code }
extended_error_option code (Some text) = record { code = 15; octets = to_be_bytes w16 code ++ text }
