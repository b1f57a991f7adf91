-- Big-endian numbers. RFC 1035 section 2.3.2.
use Rattle.std.specs.Prelude.{ℕ, ◌+◌, ◌*◌, List, fold}

-- each octet is a digit of base 256, the highest first
abbrev pub number_of : List ℕ → ℕ
number_of octets = fold (λ high octet. high * 256 + octet) 0 octets
