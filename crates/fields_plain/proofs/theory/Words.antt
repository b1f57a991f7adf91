-- What is printed of a plain value is one word.
use Rattle.std.proofs.Common.{ℕ, ◌^◌, ◌<◌, List, ◌∷◌, length, decimal, ◌≡◌}
use Rattle.base64.specs.Engines.{standard}
use Rattle.base64.specs.GeneralPurpose.{encode_of}
use Rattle.fields_plain.specs.SizedWords.{sized_text}
use Rattle.fields_text.specs.LineWords.{word_of_any, IsWord}
use Rattle.fields_text.proofs.theory.SpacedTexts.{AreSpaced, key_spaced}
use Rattle.fields_text.proofs.theory.SpacedTexts.AreSpaced.{word}
use Rattle.fields_text.proofs.theory.Words.{decimal_word}
use Rattle.std.specs.Net.Addr.{segments_of}
use Rattle.std.specs.Net.Text.{ipv4_text, ipv6_text}
use Rattle.hex.specs.Hex.{IsBytes}
use Rattle.dns_name.specs.Names.{IsName, Labels}
use Rattle.fields_plain.specs.EuiTexts.{eui_text}
use Rattle.fields_plain.specs.LocatorWords.{locator_text}
use Rattle.fields_text.specs.Base32.{base32_text}
use Rattle.fields_plain.specs.Time.{time_text}
use Rattle.fields_plain.specs.Salts.{salt_text}
use Rattle.fields_plain.specs.TypeNames.{class_word, type_word}
use Rattle.fields_plain.specs.ZoneNames.{zone_name_text}
use Rattle.fields_plain.proofs.theory.Ipv6Texts.{ipv6_word as bare_ipv6_word}
use Rattle.fields_plain.proofs.theory.WordTexts.{hash_word as bare_hash_word, BeginsLabel, salt_word as bare_salt_word, eui_word as bare_eui_word, locator_word as bare_locator_word, time_word as bare_time_word, labels_word as bare_labels_word, name_word as bare_name_word, ipv4_word as bare_ipv4_word, class_is_word as bare_class_is_word, type_is_word as bare_type_is_word}
use Rattle.fields_text.proofs.theory.WordTexts.{is_word}

-- octets after their number
pub sized_split : (octets : List ℕ) → length octets < 2 ^ 64 → AreSpaced (sized_text octets) (decimal (length octets) ∷ word_of_any (encode_of standard) octets)
sized_split octets small =
    let key = key_spaced octets in
    (word (decimal (length octets)) (decimal_word (length octets) small) key.1 key.0)

-- The text of a salt is a word.
pub salt_word : (octets : List ℕ) → IsBytes octets → IsWord (salt_text octets)
salt_word octets first = is_word (bare_salt_word octets first)

-- The text of an EUI is a word.
pub eui_word : (octets : List ℕ) → IsBytes octets → 0 < length octets → IsWord (eui_text octets)
eui_word octets first second = is_word (bare_eui_word octets first second)

-- The text of a locator is a word.
pub locator_word : (octets : List ℕ) → IsBytes octets → length octets ≡ 8 → IsWord (locator_text octets)
locator_word octets first second = is_word (bare_locator_word octets first second)

-- The text of a time is a word.
pub time_word : (seconds : ℕ) → IsWord (time_text seconds)
time_word seconds = is_word (bare_time_word seconds)

-- The text of labels is a word.
pub labels_word : (name : Labels) → BeginsLabel name → IsWord (zone_name_text name)
labels_word name first = is_word (bare_labels_word name first)

-- The text of a name is a word.
pub name_word : (name : Labels) → IsName name → IsWord (zone_name_text name)
name_word name first = is_word (bare_name_word name first)

-- The text of an IPv4 address is a word.
pub ipv4_word : (octets : List ℕ) → IsBytes octets → IsWord (ipv4_text octets)
ipv4_word octets first = is_word (bare_ipv4_word octets first)

-- The word of a class is a word.
pub class_is_word : (n : ℕ) → n < 2 ^ 16 → IsWord (class_word n)
class_is_word n first = is_word (bare_class_is_word n first)

-- The word of a type is a word.
pub type_is_word : (n : ℕ) → n < 2 ^ 16 → IsWord (type_word n)
type_is_word n first = is_word (bare_type_is_word n first)

-- The text of an IPv6 address is a word.
pub ipv6_word : (octets : List ℕ) → IsBytes octets → length octets ≡ 16 → IsWord (ipv6_text (segments_of octets))
ipv6_word octets first second = is_word (bare_ipv6_word octets first second)

-- The text of a hash is a word.
pub hash_word : (octets : List ℕ) → 0 < length octets → IsWord (base32_text octets)
hash_word octets first = is_word (bare_hash_word octets first)
