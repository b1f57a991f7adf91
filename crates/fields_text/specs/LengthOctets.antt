-- Octets after their length.
use Rattle.std.specs.Prelude.{ℕ, ◌/◌, ◌%◌, List, ◌∷◌, length}

-- after a length octet. RFC 1035 section 3.3
abbrev pub counted : List ℕ → List ℕ
counted octets = length octets ∷ octets

-- after a length of 16 bits. RFC 8945 section 4.2
abbrev pub sized : List ℕ → List ℕ
sized octets = length octets / 256 ∷ length octets % 256 ∷ octets
