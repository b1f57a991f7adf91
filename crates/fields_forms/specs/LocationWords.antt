-- Words that represent locations. RFC 1876 section 3.
use Rattle.std.specs.Prelude.{◌≡◌, ◌⊎◌, ℕ, ◌+◌, ◌-◌, ◌*◌, ◌%◌, ◌^◌, ◌<◌, ◌≤◌, true, List, [], ◌∷◌, ◌++◌, length, slice_get, slice_index, codes, Option, MatchOption}
use Rattle.std.specs.Borrow.{Bor}
use Rattle.std.specs.Char.{is_ascii_alphabetic}
use Rattle.std.specs.Int.{to_be_bytes, w32}
use Rattle.std.specs.List.{AllWithin, HoldsAt}
use Rattle.std.specs.Net.Grammar.{IsNumber}
use Rattle.std.specs.Str.{str_to_ascii_lowercase}
use Rattle.std.specs.Str.Parse.{IsNumeral, digits_value}
use Rattle.fields_forms.specs.LocationItems.{LocationItem}
use Rattle.fields_forms.specs.Locations.{is_size, middle, size_of}

-- one to `places` digits after a dot, times ten to the power of `places`
abbrev pub AreDecimals : ℕ → List ℕ → ℕ → Type 0
AreDecimals places word number = IsNumeral 10 word × (length word ≤ places) × (number ≡ digits_value 10 word * 10 ^ (places - length word))

-- digits, a dot, and one to `places` digits, times ten to the power of `places`
pub record HasDecimals (places : ℕ) (word : List ℕ) (number : ℕ) : Type 0 where
  pub whole : List ℕ
  pub decimals : List ℕ
  pub part : ℕ
  pub text : word ≡ whole ++ (codes "." ++ decimals)
  pub is_whole : IsNumeral 10 whole
  pub is_part : AreDecimals places decimals part
  pub value : number ≡ digits_value 10 whole * 10 ^ places + part

-- the word is a number with at most `places` decimals; times ten to the power of `places` it is this number, which is at most `most`
abbrev pub IsDecimal : ℕ → ℕ → List ℕ → ℕ → Type 0
IsDecimal places most word number =
    (number ≤ most) × ((IsNumeral 10 word × (number ≡ digits_value 10 word * 10 ^ places)) ⊎ HasDecimals places word number)

-- no word, or seconds with at most three decimals, in thousandths
abbrev pub IsSeconds : List (Bor (List ℕ)) → ℕ → Type 0
IsSeconds [] number = number ≡ 0
IsSeconds (word ∷ []) number = IsDecimal 3 59999 word.now number
IsSeconds (word ∷ next ∷ words) number = ⊥

-- no word, or minutes and seconds, in thousandths of a second
abbrev pub IsMinutes : List (Bor (List ℕ)) → ℕ → Type 0
IsMinutes [] number = number ≡ 0
IsMinutes (word ∷ words) number =
    (minutes : ℕ) × (seconds : ℕ) × IsNumber 10 word.now minutes × (minutes < 60) × IsSeconds words seconds × (number ≡ minutes * 60000 + seconds)

-- degrees, and optional minutes and seconds: at most `most` thousandths of a second
abbrev pub IsAngle : ℕ → List (Bor (List ℕ)) → ℕ → Type 0
IsAngle most [] number = ⊥
IsAngle most (word ∷ words) number =
    (degrees : ℕ) × (part : ℕ) × IsNumber 10 word.now degrees × IsMinutes words part × (number ≡ degrees * 3600000 + part) × (number ≤ most)

-- the word is the letter, ignoring ASCII case
abbrev pub IsLetter : List ℕ → List ℕ → Type 0
IsLetter letter word = str_to_ascii_lowercase word ≡ str_to_ascii_lowercase letter

-- the text begins with a letter
abbrev pub BeginsWithLetter : List ℕ → Type 0
BeginsWithLetter text = is_ascii_alphabetic (slice_index text 0) ≡ true

-- the word is one of two directions
abbrev pub IsEither : List ℕ → List ℕ → List ℕ → Type 0
IsEither positive negative word = IsLetter positive word ⊎ IsLetter negative word

-- the index of the first word that is one of two directions, if there is one
abbrev pub FindsDirection : List ℕ → List ℕ → List (Bor (List ℕ)) → Option ℕ → Type 0
FindsDirection positive negative words result =
    MatchOption result (AllWithin (λ word. ¬ (IsEither positive negative word.now)) words 0 (length words))
    (λ index. (index < length words) × HoldsAt (λ word. IsEither positive negative word.now) words index
    × AllWithin (λ word. ¬ (IsEither positive negative word.now)) words 0 index)

-- the number of an angle in the direction that the word is: above the middle to the north or east, below it to the south or west. RFC 1876 section 2
abbrev pub IsDirected : List ℕ → List ℕ → List ℕ → ℕ → ℕ → Type 0
IsDirected positive negative word angle number =
    (IsLetter positive word × (number ≡ middle + angle)) ⊎ (IsLetter negative word × (number + angle ≡ middle))

-- the words begin with an angle and its direction
pub record BeginsWithAngle (most : ℕ) (positive negative : List ℕ) (words : List (Bor (List ℕ))) (number : ℕ) (after : List (Bor (List ℕ))) : Type 0 where
  pub parts : List (Bor (List ℕ))
  pub direction : Bor (List ℕ)
  pub angle : ℕ
  pub whole : words ≡ parts ++ direction ∷ after
  pub is_angle : IsAngle most parts angle
  pub is_directed : IsDirected positive negative direction.now angle number

-- the number of that angle and the words after it, if there are such
abbrev pub SplitsAngle : ℕ → List ℕ → List ℕ → List (Bor (List ℕ)) → Option (ℕ × Bor (List (Bor (List ℕ)))) → Type 0
SplitsAngle most positive negative words result =
    MatchOption result ((number : ℕ) (after : List (Bor (List ℕ))) → ¬ (BeginsWithAngle most positive negative words number after))
    (λ split. BeginsWithAngle most positive negative words split.0 split.1.now)

-- metres with at most two decimals and an optional `m`, at most 90,000,000 m, in centimetres
abbrev pub IsLength : List ℕ → ℕ → Type 0
IsLength word centimetres =
    IsDecimal 2 9000000000 word centimetres ⊎ ((number : List ℕ) × (word ≡ number ++ codes "m") × IsDecimal 2 9000000000 number centimetres)

-- an altitude, which may be negative, in centimetres above a point 100,000 m below the reference spheroid. RFC 1876 section 2
abbrev pub IsAltitude : List ℕ → ℕ → Type 0
IsAltitude word number =
    (number < 2 ^ 32)
    × ((centimetres : ℕ)
    × ((IsLength word centimetres × (number ≡ 10000000 + centimetres))
    ⊎ ((metres : List ℕ) × (word ≡ codes "-" ++ metres) × IsLength metres centimetres × (number + centimetres ≡ 10000000))))

-- the octet is this number of centimetres, rounded down to a digit and a power of ten. RFC 1876 appendix A
abbrev pub IsRounded : ℕ → ℕ → Type 0
IsRounded centimetres octet = (is_size octet ≡ true) × (size_of octet ≤ centimetres) × (centimetres < size_of octet + 10 ^ (octet % 16))

-- the word is a size
abbrev pub IsSize : List ℕ → ℕ → Type 0
IsSize word octet = (centimetres : ℕ) × IsLength word centimetres × IsRounded centimetres octet

-- the word at the index is the size; where there is none it is the default
abbrev pub IsSizeAt : List (Bor (List ℕ)) → ℕ → ℕ → ℕ → Type 0
IsSizeAt words index default octet = MatchOption (slice_get words index) (octet ≡ default) (λ word. IsSize word.now octet)

-- the words are the size, and the horizontal and vertical precision; by default these are 1 m, 10,000 m and 10 m
pub record AreSizes (words : List (Bor (List ℕ))) (size horizontal vertical : ℕ) : Type 0 where
  pub few : length words ≤ 3
  pub is_size : IsSizeAt words 0 0x12 size
  pub is_horizontal : IsSizeAt words 1 0x16 horizontal
  pub is_vertical : IsSizeAt words 2 0x13 vertical

-- the words are latitude, longitude, altitude and sizes
pub record AreLocationWords (words : List (Bor (List ℕ))) (item : LocationItem) : Type 0 where
  pub after_latitude : List (Bor (List ℕ))
  pub altitude : Bor (List ℕ)
  pub sizes : List (Bor (List ℕ))
  pub latitude : BeginsWithAngle 324000000 (codes "N") (codes "S") words item.latitude after_latitude
  pub longitude : BeginsWithAngle 648000000 (codes "E") (codes "W") after_latitude item.longitude (altitude ∷ sizes)
  pub is_altitude : IsAltitude altitude.now item.altitude
  pub are_sizes : AreSizes sizes item.size item.horizontal item.vertical

-- a location of version 0 as octets. RFC 1876 section 2
abbrev pub location_octets : LocationItem → List ℕ
location_octets item =
    0 ∷ item.size ∷ item.horizontal ∷ item.vertical ∷ (to_be_bytes w32 item.latitude ++ (to_be_bytes w32 item.longitude ++ to_be_bytes w32 item.altitude))

-- the words represent a location, and these are its octets
abbrev pub IsLocation : List (Bor (List ℕ)) → List ℕ → Type 0
IsLocation words octets = (item : LocationItem) × AreLocationWords words item × (octets ≡ location_octets item)
