-- Words that represent a field of record data. RFC 1035 section 5.1; the RFC of each form of word is beside its definition.
use Rattle.std.specs.Prelude.{◌≡◌, ◌≢◌, ◌⊎◌, ℕ, ◌<◌, ◌≤◌, ◌^◌, true, List, [], ◌∷◌, ◌++◌, codes, length}
use Rattle.std.specs.Str.{str_to_ascii_lowercase}
use Rattle.std.specs.Borrow.{Bor}
use Rattle.std.specs.Net.Grammar.{IsDotted, IsNumber}
use Rattle.fields_table.specs.declared.kind.Kind.{Kind}
use Rattle.fields_table.specs.declared.kind.Kind.TheVariants as kinds
use Rattle.fields_text.specs.String.{is_tag}
use Rattle.fields_text.specs.Strings.{SpellsString}
use Rattle.fields_plain.specs.Addresses.{IsIpv6Word}
use Rattle.fields_text.specs.Base32Words.{last_octets}
use Rattle.fields_plain.specs.EuiWords.{IsEuiWord}
use Rattle.fields_forms.specs.GatewayWords.{IsGateway, IsRelay}
use Rattle.fields_forms.specs.IdentityWords.{IsHostIdentity}
use Rattle.fields_text.specs.JoinedWords.{AreBase64, AreHex}
use Rattle.fields_text.specs.LengthOctets.{counted}
use Rattle.fields_forms.specs.LocationWords.{IsLocation}
use Rattle.fields_plain.specs.LocatorWords.{IsLocatorWord}
use Rattle.fields_plain.specs.NameWords.{IsNameWord}
use Rattle.fields_lists.specs.PrefixWords.{ArePrefixWords}
use Rattle.fields_plain.specs.SizedWords.{IsSizedWords}
use Rattle.fields_lists.specs.TypeMapWords.{IsSmallTypeMap, IsTypeMap}
use Rattle.fields_parameters.specs.ParameterWords.{AreParameterWords}
use Rattle.fields_records.specs.Extents.{extent_of}
use Rattle.fields_records.specs.declared.extent.Extent.{Extent}
use Rattle.fields_records.specs.declared.extent.Extent.TheVariants.{One, OneOrTwo, All}
use Rattle.fields_plain.specs.TimeWords.{IsTime}
use Rattle.fields_plain.specs.TypeWords.{IsType}
use Rattle.fields_plain.specs.Salts.{IsSalt, IsHash}

abbrev pub Words : Type 0
Words = List (Bor (List ℕ))

-- a decimal number, in `size` octets, big-endian
abbrev pub IsNumberIn : ℕ → List ℕ → List ℕ → Type 0
IsNumberIn size word octets = (n : ℕ) × IsNumber 10 word n × (n < 256 ^ size) × (octets ≡ last_octets size n)

-- a scheme of notifications: the mnemonic of 1, ignoring ASCII case, or a number. RFC 9859 section 2.2
abbrev pub IsSchemeWord : List ℕ → List ℕ → Type 0
IsSchemeWord word octets = ((str_to_ascii_lowercase word ≡ codes "notify") × (octets ≡ 1 ∷ [])) ⊎ IsNumberIn 1 word octets

-- a character string. RFC 1035 section 3.3
abbrev pub IsString : List ℕ → List ℕ → Type 0
IsString word octets = (string : List ℕ) × SpellsString word string × (length string ≤ 255) × (octets ≡ counted string)

-- a tag: the word is letters and digits, one at least. RFC 8659 section 4.1
abbrev pub IsTagWord : List ℕ → List ℕ → Type 0
IsTagWord word octets = (is_tag word ≡ true) × (length word ≤ 255) × (octets ≡ counted word)

-- consecutive character strings
abbrev pub AreStrings : Words → List ℕ → Type 0
AreStrings [] octets = octets ≡ []
AreStrings (word ∷ words) octets =
    (first : List ℕ) × (after : List ℕ) × IsString word.now first × (octets ≡ first ++ after) × AreStrings words after

-- the word is a field of this kind, and these are its octets; names are uncompressed
abbrev pub IsFieldWord : Kind → List ℕ → List ℕ → Type 0
IsFieldWord kinds.Number8 word octets = IsNumberIn 1 word octets
IsFieldWord kinds.Number16 word octets = IsNumberIn 2 word octets
IsFieldWord kinds.Number32 word octets = IsNumberIn 4 word octets
IsFieldWord kinds.Number48 word octets = IsNumberIn 6 word octets
IsFieldWord kinds.Number64 word octets = IsNumberIn 8 word octets
IsFieldWord kinds.SyncScheme word octets = IsSchemeWord word octets
IsFieldWord kinds.Seconds word octets = IsNumberIn 4 word octets
IsFieldWord kinds.Time word octets = IsTime word octets
IsFieldWord kinds.Ipv4 word octets = IsDotted word octets
IsFieldWord kinds.Ipv6 word octets = IsIpv6Word word octets
IsFieldWord kinds.Eui48 word octets = IsEuiWord 6 word octets
IsFieldWord kinds.Eui64 word octets = IsEuiWord 8 word octets
IsFieldWord kinds.Locator64 word octets = IsLocatorWord word octets
IsFieldWord kinds.RecordType word octets = IsType word octets
IsFieldWord kinds.CompressibleName word octets = IsNameWord word octets
IsFieldWord kinds.PointedName word octets = IsNameWord word octets
IsFieldWord kinds.LowercasedName word octets = IsNameWord word octets
IsFieldWord kinds.PlainName word octets = IsNameWord word octets
IsFieldWord kinds.CharacterString word octets = IsString word octets
IsFieldWord kinds.Tag word octets = IsTagWord word octets
IsFieldWord kinds.Salt word octets = IsSalt word octets
IsFieldWord kinds.Hash word octets = IsHash word octets
IsFieldWord kinds.Text word octets = SpellsString word octets
IsFieldWord kind word octets = ⊥

-- exactly one word
abbrev pub IsOne : (List ℕ → List ℕ → Type 0) → Words → List ℕ → Type 0
IsOne Is [] octets = ⊥
IsOne Is (word ∷ []) octets = Is word.now octets
IsOne Is (word ∷ next ∷ words) octets = ⊥

-- a hyphen, for no octets
abbrev pub IsHyphen : List ℕ → List ℕ → Type 0
IsHyphen word octets = (word ≡ codes "-") × (octets ≡ [])

-- base64 of one octet at least
abbrev pub AreSomeBase64 : Words → List ℕ → Type 0
AreSomeBase64 words octets = AreBase64 words octets × (octets ≢ [])

-- a hyphen, or base64 of one octet at least
abbrev pub AreBase64OrHyphen : Words → List ℕ → Type 0
AreBase64OrHyphen words octets = IsOne IsHyphen words octets ⊎ AreSomeBase64 words octets

-- the words are a field of this kind. There is one character string at least, and digits represent one octet at least. An opaque field has no words
abbrev pub AreFieldWords : Kind → Words → List ℕ → Type 0
AreFieldWords kinds.Strings words octets = (words ≢ []) × AreStrings words octets
AreFieldWords kinds.Hexadecimal words octets = AreHex words octets × (octets ≢ [])
AreFieldWords kinds.Base64 words octets = AreSomeBase64 words octets
AreFieldWords kinds.Base64OrHyphen words octets = AreBase64OrHyphen words octets
AreFieldWords kinds.TypeBitMap words octets = IsTypeMap words octets
AreFieldWords kinds.SmallTypeBitMap words octets = IsSmallTypeMap words octets
AreFieldWords kinds.ServiceParameters words octets = AreParameterWords words octets
AreFieldWords kinds.AddressPrefixes words octets = ArePrefixWords words octets
AreFieldWords kinds.Location words octets = IsLocation words octets
AreFieldWords kinds.GatewayAndKey words octets = IsGateway words octets
AreFieldWords kinds.Relay words octets = IsRelay words octets
AreFieldWords kinds.HostIdentity words octets = IsHostIdentity words octets
AreFieldWords kind words octets = ⊥

-- the words of this extent are a field of this kind
abbrev pub IsFieldOf : Extent → Kind → Words → List ℕ → Type 0
IsFieldOf One kind words octets = IsOne (IsFieldWord kind) words octets
IsFieldOf OneOrTwo kind words octets = IsSizedWords words octets
IsFieldOf All kind words octets = AreFieldWords kind words octets

-- the words are a field of this kind, and these are its octets
abbrev pub IsField : Kind → Words → List ℕ → Type 0
IsField kind words octets = IsFieldOf (extent_of kind) kind words octets
