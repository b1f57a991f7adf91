-- What is printed of a plain value reads back as that value.
use Rattle.std.specs.Prelude.{◌≡◌, ℕ, ◌<◌, ◌≤◌, ◌^◌, List, length, All, ◌++◌, codes, ◌∷◌, decimal}
use Rattle.std.specs.Borrow.{Bor}
use Rattle.std.specs.Net.Addr.{segments_of}
use Rattle.std.specs.Net.Grammar.{IsDotted}
use Rattle.std.specs.Net.Text.{ipv4_text, ipv6_text}
use Rattle.hex.specs.Hex.{IsBytes}
use Rattle.dns_name.specs.Names.{Labels, IsName}
use Rattle.fields_plain.specs.EuiTexts.{eui_text}
use Rattle.fields_plain.specs.LocatorWords.{locator_text, IsLocatorWord}
use Rattle.fields_text.specs.Base32.{base32_text}
use Rattle.fields_plain.specs.Time.{time_text}
use Rattle.fields_plain.specs.Salts.{salt_text, IsCounted, IsHashWord, IsSaltWord}
use Rattle.fields_plain.specs.SizedWords.{sized_text, IsSizedWords}
use Rattle.fields_plain.specs.TypeNames.{type_word, class_word}
use Rattle.fields_plain.specs.ZoneNames.{zone_name_text}
use Rattle.fields_plain.specs.Addresses.{IsIpv6Word}
use Rattle.fields_plain.specs.EuiWords.{IsEuiWord}
use Rattle.fields_plain.specs.NameWords.{IsNameText}
use Rattle.fields_text.specs.PrintedWords.{AreWords}
use Rattle.fields_text.specs.LengthOctets.{sized}
use Rattle.fields_plain.specs.TimeWords.{IsTimeWord}
use Rattle.fields_plain.specs.TypeWords.{IsTypeWord}
use Rattle.fields_text.specs.LineWords.{IsWord, AreWordsOf, word_of_any}
use Rattle.fields_text.specs.Laws.{IsWordOfAny}
use Rattle.base64.specs.Engines.{standard}
use Rattle.base64.specs.GeneralPurpose.{encode_of}

-- record types
abbrev pub TypesReadBack : Type 0
TypesReadBack = (n : ℕ) → n < 2 ^ 16 → IsTypeWord (type_word n) n

-- addresses of IPv4
abbrev pub Ipv4ReadsBack : Type 0
Ipv4ReadsBack = (octets : List ℕ) → length octets ≡ 4 → IsBytes octets → IsDotted (ipv4_text octets) octets

-- addresses of IPv6
abbrev pub Ipv6ReadsBack : Type 0
Ipv6ReadsBack = (octets : List ℕ) → length octets ≡ 16 → IsBytes octets → IsIpv6Word (ipv6_text (segments_of octets)) octets

-- names
abbrev pub NamesReadBack : Type 0
NamesReadBack = (name : Labels) → IsName name → All (λ label. All (λ octet. octet < 256) label) name → IsNameText (zone_name_text name) name

-- salts that a length octet counts
abbrev pub SaltsReadBack : Type 0
SaltsReadBack = (octets : List ℕ) → IsBytes octets → length octets ≤ 255 → IsSaltWord (salt_text octets) octets

-- hashes that a length octet counts, of one octet at least; one of no octets isn't printed
abbrev pub HashesReadBack : Type 0
HashesReadBack = (octets : List ℕ) → IsBytes octets → IsCounted octets → IsHashWord (base32_text octets) octets

-- EUI-48 and EUI-64 addresses
abbrev pub EuiReadsBack : Type 0
EuiReadsBack = (octets : List ℕ) → IsBytes octets → IsEuiWord (length octets) (eui_text octets) octets

-- locators and node identifiers
abbrev pub LocatorsReadBack : Type 0
LocatorsReadBack = (octets : List ℕ) → length octets ≡ 8 → IsBytes octets → IsLocatorWord (locator_text octets) octets

-- times of 32 bits
abbrev pub TimesReadBack : Type 0
TimesReadBack = (seconds : ℕ) → seconds < 2 ^ 32 → IsTimeWord (time_text seconds) seconds

-- octets that a length of 16 bits counts; spaces separate the printed words
abbrev pub SizedReadBack : Type 0
SizedReadBack = (octets : List ℕ) (words : List (Bor (List ℕ))) → IsBytes octets → length octets < 65536 → AreWords (codes " " ++ sized_text octets) words → IsSizedWords words (sized octets)

-- record types and classes
abbrev pub TypesAreWords : Type 0
TypesAreWords = (n : ℕ) → n < 2 ^ 16 → IsWord (type_word n)

abbrev pub ClassesAreWords : Type 0
ClassesAreWords = (n : ℕ) → n < 2 ^ 16 → IsWord (class_word n)

-- times
abbrev pub TimesAreWords : Type 0
TimesAreWords = (seconds : ℕ) → IsWord (time_text seconds)

-- names
abbrev pub NamesAreWords : Type 0
NamesAreWords = (name : Labels) → IsName name → IsWord (zone_name_text name)

-- salts
abbrev pub SaltsAreWords : Type 0
SaltsAreWords = (octets : List ℕ) → IsBytes octets → IsWord (salt_text octets)

-- addresses of IPv4 and of IPv6
abbrev pub Ipv4IsWord : Type 0
Ipv4IsWord = (octets : List ℕ) → IsBytes octets → IsWord (ipv4_text octets)

abbrev pub Ipv6IsWord : Type 0
Ipv6IsWord = (octets : List ℕ) → IsBytes octets → length octets ≡ 16 → IsWord (ipv6_text (segments_of octets))

-- locators and node identifiers
abbrev pub LocatorsAreWords : Type 0
LocatorsAreWords = (octets : List ℕ) → IsBytes octets → length octets ≡ 8 → IsWord (locator_text octets)

-- EUI-48 and EUI-64 addresses, octets in hexadecimal and in base64, and hashes
abbrev pub EuiAreWords : Type 0
EuiAreWords = IsWordOfAny eui_text

abbrev pub HashesAreWords : Type 0
HashesAreWords = IsWordOfAny base32_text

-- octets after their number
abbrev pub SizedSplit : Type 0
SizedSplit = (octets : List ℕ) → length octets < 2 ^ 64 → AreWordsOf (sized_text octets) (decimal (length octets) ∷ word_of_any (encode_of standard) octets)
