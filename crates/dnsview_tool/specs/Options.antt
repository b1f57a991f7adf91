-- The octets of options that `dns_edns` doesn't read.
use Rattle.std.specs.Prelude.{ℕ, ◌%◌, ◌==◌, ◌&&◌, ◌||◌, not, Bool, List, length}

-- the families of addresses of a client subnet: 1 for IPv4, 2 for IPv6. RFC 7871 section 6.
abbrev pub is_known_family : ℕ → Bool
is_known_family family = (family == 1) || (family == 2)

-- key tags of two octets each, one at least. RFC 8145 section 4.1.
abbrev pub are_key_tags : List ℕ → Bool
are_key_tags octets = not (length octets == 0) && (length octets % 2 == 0)
