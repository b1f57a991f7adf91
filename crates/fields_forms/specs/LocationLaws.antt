-- The words of printed locations. RFC 1876 section 3.
use Rattle.std.specs.Prelude.{◌≡◌, ℕ, ◌/◌, ◌%◌, ◌<◌, ◌^◌, if◌then◌else◌, true, List, [], ◌∷◌, ◌++◌, codes, decimal, nat_lt, Some}
use Rattle.std.specs.Int.{abs_diff}
use Rattle.hex.specs.Hex.{IsBytes}
use Rattle.fields_forms.specs.LocationItems.{LocationItem, location_of, location_text}
use Rattle.fields_forms.specs.Locations.{altitude_text, are_printable, metres_text, middle, seconds_text, size_of}
use Rattle.fields_forms.specs.LocationWords.{location_octets}
use Rattle.fields_text.specs.LineWords.{AreWordsOf}

-- the words of an angle: degrees, minutes and seconds
abbrev pub angle_words : ℕ → List (List ℕ)
angle_words n = decimal (n / 3600000) ∷ decimal (n / 60000 % 60) ∷ seconds_text (n % 60000) ∷ []

-- these words and a direction
abbrev pub direction_words : List ℕ → List ℕ → ℕ → List (List ℕ)
direction_words positive negative n = angle_words (abs_diff n middle) ++ (if nat_lt n middle then negative else positive) ∷ []

-- the words of latitude and longitude, the altitude, the size and the precisions
abbrev pub location_words : LocationItem → List (List ℕ)
location_words item =
    direction_words (codes "N") (codes "S") item.latitude
    ++ (direction_words (codes "E") (codes "W") item.longitude
    ++ (altitude_text item.altitude ∷ metres_text (size_of item.size) ∷ metres_text (size_of item.horizontal) ∷ metres_text (size_of item.vertical) ∷ []))

-- the location is one of octets: sizes of 8 bits, and angles and an altitude of 32 bits
pub record FitsLocation (item : LocationItem) : Type 0 where
  pub size : item.size < 256
  pub horizontal : item.horizontal < 256
  pub vertical : item.vertical < 256
  pub latitude : item.latitude < 2 ^ 32
  pub longitude : item.longitude < 2 ^ 32
  pub altitude : item.altitude < 2 ^ 32

-- locations
abbrev pub LocationsSplit : Type 0
LocationsSplit = (item : LocationItem) → FitsLocation item → AreWordsOf (location_text item) (location_words item)

-- a location that has a presentation format is read of its octets
abbrev pub LocationOctetsAreRead : Type 0
LocationOctetsAreRead =
    (item : LocationItem) → FitsLocation item → are_printable item.size item.horizontal item.vertical item.latitude item.longitude ≡ true
    → location_of (location_octets item) ≡ Some item

-- the octets that a location is read of are its octets
abbrev pub ReadLocationsHaveOctets : Type 0
ReadLocationsHaveOctets = (octets : List ℕ) (item : LocationItem) → IsBytes octets → location_of octets ≡ Some item → octets ≡ location_octets item
