-- Locations. RFC 1876 sections 2 and 3.
use Rattle.std.specs.Prelude.{ℕ, ◌+◌, ◌*◌, ◌/◌, ◌%◌, ◌^◌, ◌==◌, nat_le, nat_lt, ◌&&◌, ◌||◌, not, Bool, if◌then◌else◌, List, [], ◌∷◌, ◌++◌, codes, decimal}
use Rattle.std.specs.Int.{abs_diff}
use Rattle.fields_plain.specs.Time.{two_digits}

-- the number of the equator and of the prime meridian
abbrev pub middle : ℕ
middle = 2147483648

-- whether a number of thousandths of a second of arc is at most this far from the middle
abbrev pub is_angle : ℕ → ℕ → Bool
is_angle most number = nat_le (abs_diff number middle) most

-- whether both halves of an octet are digits, and zero is written in one way
abbrev pub is_size : ℕ → Bool
is_size octet = (octet == 0) || (not (octet / 16 == 0) && nat_lt (octet / 16) 10 && nat_lt (octet % 16) 10)

-- whether sizes are digits, the latitude is at most 90 degrees, and the longitude at most 180
abbrev pub are_printable : ℕ → ℕ → ℕ → ℕ → ℕ → Bool
are_printable size horizontal vertical latitude longitude =
    is_size size && is_size horizontal && is_size vertical && is_angle 324000000 latitude && is_angle 648000000 longitude

-- a size in centimetres: a digit, and a power of ten
abbrev pub size_of : ℕ → ℕ
size_of octet = octet / 16 * 10 ^ (octet % 16)

-- a length in centimetres, in metres with two decimals
abbrev pub metres_text : ℕ → List ℕ
metres_text n = decimal (n / 100) ++ codes "." ++ two_digits (n % 100) ++ codes "m"

-- thousandths of a second, in seconds with three decimals
abbrev pub seconds_text : ℕ → List ℕ
seconds_text n = decimal (n / 1000) ++ codes "." ++ (48 + n / 100 % 10) ∷ two_digits (n % 100)

-- an angle: degrees, minutes and seconds
abbrev pub angle_text : ℕ → List ℕ
angle_text n = decimal (n / 3600000) ++ codes " " ++ decimal (n / 60000 % 60) ++ codes " " ++ seconds_text (n % 60000)

-- an angle and its direction
abbrev pub direction_text : List ℕ → List ℕ → ℕ → List ℕ
direction_text positive negative n = angle_text (abs_diff n middle) ++ codes " " ++ (if nat_lt n middle then negative else positive)

-- latitude and longitude, each before a space
abbrev pub position_text : ℕ → ℕ → List ℕ
position_text latitude longitude =
    direction_text (codes "N") (codes "S") latitude ++ (codes " " ++ (direction_text (codes "E") (codes "W") longitude ++ codes " "))

-- the altitude, in centimetres above a point 100,000 m below the reference spheroid
abbrev pub altitude_text : ℕ → List ℕ
altitude_text n = (if nat_lt n 10000000 then codes "-" else []) ++ metres_text (abs_diff n 10000000)

-- a size after a space
abbrev pub size_text : ℕ → List ℕ
size_text octet = codes " " ++ metres_text (size_of octet)
