-- Words that represent addresses of IPv6. RFC 4291 section 2.2.
use Rattle.std.specs.Prelude.{◌≡◌, ℕ, List}
use Rattle.std.specs.Net.Addr.{octets_of}
use Rattle.std.specs.Net.Grammar.{IsColonHex}

-- the word represents eight segments, and each is two octets
abbrev pub IsIpv6Word : List ℕ → List ℕ → Type 0
IsIpv6Word word octets = (segments : List ℕ) × IsColonHex word segments × (octets ≡ octets_of segments)
