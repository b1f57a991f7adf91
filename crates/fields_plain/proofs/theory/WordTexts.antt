-- What is printed of a plain value is a word that doesn't begin with a quote.
use Rattle.std.proofs.Common.{ℕ, zero, suc, ◌/◌, ◌%◌, ◌<◌, true, List, [], ◌∷◌, length, arith, length-append, ◌≡◌, ◌+◌, ◌^◌, ◌==◌, Bool, false, ◌++◌, decimal, refl, sym, subst, append_assoc}
use Rattle.std.specs.Fmt.{digit_glyph}
use Rattle.fields_text.specs.Base32.{base32_digits, base32_text}
use Rattle.fields_text.proofs.theory.WordTexts.IsBare.{nothing, plain, escaped}
use Rattle.fields_text.proofs.theory.WordTexts.{IsBare, IsBareWord, bare_append, base32_plain, word_append, digit_plain, decimal_rest, decimal_word, glyph_plain, hex_word, is_plain_word, plain_word}
use Rattle.std.specs.Prelude.{if◌then◌else◌, codes, find, slice_index, option_map, unwrap_or, Some}
use Rattle.std.specs.List.{flat_map, list_all}
use Rattle.std.specs.Net.Text.{ipv4_text}
use Rattle.std.proofs.lemmas.Bool.{and_parts}
use Rattle.std.proofs.lemmas.Bool.Decides.{nat_tests}
use Rattle.std.proofs.lemmas.List.Elements.{All-head}
use Rattle.hex.specs.Hex.{IsBytes}
use Rattle.dns_name.specs.Names.{IsLabel, IsName, Labels, with_root}
use Rattle.dns_name.specs.NameTexts.{is_graphic}
use Rattle.dns_iana.specs.Mnemonics.{Mnemonics, mnemonic}
use Rattle.dns_iana.specs.Registry.{registered_classes, registered_types}
use Rattle.fields_plain.specs.EuiTexts.{eui_text, hyphen_pair}
use Rattle.fields_plain.specs.LocatorWords.{locator_text}
use Rattle.fields_text.specs.String.{backslash, decimal_text}
use Rattle.fields_plain.specs.Time.{DayOf, clock_text, date_text, day_text, month_of, month_sizes, month_text, time_text, two_digits, year_of}
use Rattle.fields_plain.specs.Salts.{salt_text}
use Rattle.fields_plain.specs.TypeNames.{class_word, type_word}
use Rattle.fields_plain.specs.ZoneNames.{dotted_label, means_something, zone_label_text, zone_name_text, zone_octet_text}
use Rattle.fields_text.specs.LineWords.{is_plain}

-- digits of base32
digits_rest : (count number : ℕ) → IsBare (base32_digits count number)
unfolding base32_digits
digits_rest zero number = nothing
digits_rest (suc count) number =
    bare_append (base32_digits count (number / 32)) (digit_glyph true (number % 32) ∷ []) (digits_rest count (number / 32)) (plain (base32_plain (number % 32) (omega arith)) nothing)

hash_rest : (octets : List ℕ) → IsBare (base32_text octets)
hash_rest [] = nothing
hash_rest (a ∷ []) = digits_rest 2 _
hash_rest (a ∷ b ∷ []) = digits_rest 4 _
hash_rest (a ∷ b ∷ c ∷ []) = digits_rest 5 _
hash_rest (a ∷ b ∷ c ∷ d ∷ []) = digits_rest 7 _
hash_rest (a ∷ b ∷ c ∷ d ∷ e ∷ octets) = bare_append _ _ (digits_rest 8 _) (hash_rest octets)

digits_size : (count number : ℕ) → 0 < count → 0 < length (base32_digits count number)
unfolding base32_digits
digits_size zero number some = absurd (omega arith)
digits_size (suc count) number some = omega (arith, length-append (base32_digits count (number / 32)) (digit_glyph true (number % 32) ∷ []))

-- a hash
pub hash_word : (octets : List ℕ) → 0 < length octets → IsBareWord (base32_text octets)
hash_word [] some = absurd (omega arith)
hash_word (a ∷ []) some = (digits_size 2 _ (omega arith), digits_rest 2 _)
hash_word (a ∷ b ∷ []) some = (digits_size 4 _ (omega arith), digits_rest 4 _)
hash_word (a ∷ b ∷ c ∷ []) some = (digits_size 5 _ (omega arith), digits_rest 5 _)
hash_word (a ∷ b ∷ c ∷ d ∷ []) some = (digits_size 7 _ (omega arith), digits_rest 7 _)
hash_word (a ∷ b ∷ c ∷ d ∷ e ∷ octets) some = word_append _ _ (digits_size 8 _ (omega arith), digits_rest 8 _) (hash_rest octets)

-- a salt
pub salt_word : (octets : List ℕ) → IsBytes octets → IsBareWord (salt_text octets)
salt_word [] bytes = (omega arith, plain refl nothing)
salt_word (o ∷ octets) bytes = hex_word (o ∷ octets) bytes (omega arith)

-- EUI-48 and EUI-64 addresses
pair_rest : (o : ℕ) (rest : List ℕ) → o < 256 → IsBare rest → IsBare (digit_glyph false (o / 16) ∷ digit_glyph false (o % 16) ∷ rest)
pair_rest o rest small h = plain (glyph_plain false (o / 16) (omega arith)) (plain (glyph_plain false (o % 16) (omega arith)) h)

hyphens_rest : (octets : List ℕ) → IsBytes octets → IsBare (flat_map hyphen_pair octets)
hyphens_rest [] bytes = nothing
hyphens_rest (o ∷ octets) bytes = plain refl (pair_rest o (flat_map hyphen_pair octets) (bytes 0) (hyphens_rest octets (λ i. bytes (suc i))))

-- The text of an EUI is a bare word.
pub eui_word : (octets : List ℕ) → IsBytes octets → 0 < length octets → IsBareWord (eui_text octets)
eui_word [] bytes some = absurd (omega arith)
eui_word (o ∷ octets) bytes some = (omega arith, pair_rest o (flat_map hyphen_pair octets) (bytes 0) (hyphens_rest octets (λ i. bytes (suc i))))

-- locators
pub locator_word : (octets : List ℕ) → IsBytes octets → length octets ≡ 8 → IsBareWord (locator_text octets)
locator_word [] bytes size = absurd (omega arith)
locator_word (a ∷ []) bytes size = absurd (omega arith)
locator_word (a ∷ b ∷ []) bytes size = absurd (omega arith)
locator_word (a ∷ b ∷ c ∷ []) bytes size = absurd (omega arith)
locator_word (a ∷ b ∷ c ∷ d ∷ []) bytes size = absurd (omega arith)
locator_word (a ∷ b ∷ c ∷ d ∷ e ∷ []) bytes size = absurd (omega arith)
locator_word (a ∷ b ∷ c ∷ d ∷ e ∷ f ∷ []) bytes size = absurd (omega arith)
locator_word (a ∷ b ∷ c ∷ d ∷ e ∷ f ∷ g ∷ []) bytes size = absurd (omega arith)
locator_word (a ∷ b ∷ c ∷ d ∷ e ∷ f ∷ g ∷ h ∷ []) bytes size = (
  omega arith,
  pair_rest a _ (bytes 0) (pair_rest b _ (bytes 1)
      (plain refl (pair_rest c _ (bytes 2) (pair_rest d _ (bytes 3)
      (plain refl (pair_rest e _ (bytes 4) (pair_rest f _ (bytes 5)
      (plain refl (pair_rest g _ (bytes 6) (pair_rest h _ (bytes 7) nothing)))))))))),
)
locator_word (a ∷ b ∷ c ∷ d ∷ e ∷ f ∷ g ∷ h ∷ i ∷ octets) bytes size = absurd (omega arith)

-- times
pub two_rest : (n : ℕ) (rest : List ℕ) → IsBare rest → IsBare (two_digits n ++ rest)
two_rest n rest h = plain (digit_plain (n / 10 % 10) (omega arith)) (plain (digit_plain (n % 10) (omega arith)) h)

date_rest : (year month day : ℕ) → IsBare (date_text year month day)
date_rest year month day = two_rest (year / 100) _ (two_rest (year % 100) _ (two_rest month _ (two_rest day [] nothing)))

clock_rest : (seconds : ℕ) → IsBare (clock_text seconds)
clock_rest seconds = two_rest (seconds / 3600 % 24) _ (two_rest (seconds / 60 % 60) _ (two_rest (seconds % 60) [] nothing))

month_word : (year seconds : ℕ) (in_month : DayOf) → IsBareWord (month_text year in_month ++ clock_text seconds)
month_word year seconds in_month =
    (omega arith, bare_append (month_text year in_month) (clock_text seconds) (date_rest year in_month.period (in_month.day + 1)) (clock_rest seconds))

day_word : (seconds : ℕ) (in_year : DayOf) → IsBareWord (day_text in_year ++ clock_text seconds)
day_word seconds in_year = month_word in_year.period seconds (month_of (month_sizes in_year.period) 1 in_year.day)

-- The text of a time is a bare word.
pub time_word : (seconds : ℕ) → IsBareWord (time_text seconds)
time_word seconds = day_word seconds (year_of 137 1970 (seconds / 86400))

-- names
name_plain : (o : ℕ) → means_something o ≡ false → is_graphic o ≡ true → is_plain false o ≡ true
name_plain o s g = grind (arith, nat_tests)

name_octet : (o : ℕ) (rest : List ℕ) → IsBare rest → (s g : Bool) → means_something o ≡ s → is_graphic o ≡ g
    → IsBare ((if s then backslash ∷ o ∷ [] else if g then o ∷ [] else decimal_text o) ++ rest)
name_octet o rest h true g es eg = escaped h
name_octet o rest h false true es eg = plain (name_plain o es eg) h
name_octet o rest h false false es eg =
    escaped (plain (digit_plain (o / 10 % 10) (omega arith)) (plain (digit_plain (o % 10) (omega arith)) h))

label_rest : (label rest : List ℕ) → IsBare rest → IsBare (zone_label_text label ++ rest)
label_rest [] rest h = h
label_rest (o ∷ label) rest h =
    subst (λ (text : List ℕ). IsBare text) (sym (append_assoc (zone_octet_text o) (zone_label_text label) rest))
    (name_octet o (zone_label_text label ++ rest) (label_rest label rest h) _ _ refl refl)

dotted_rest : (label : List ℕ) → IsBare (dotted_label label)
dotted_rest [] = nothing
dotted_rest (o ∷ label) = label_rest (o ∷ label) (codes ".") (plain refl nothing)

labels_rest : (name : Labels) → IsBare (flat_map dotted_label name)
labels_rest [] = nothing
labels_rest (label ∷ name) = bare_append (dotted_label label) (flat_map dotted_label name) (dotted_rest label) (labels_rest name)

dotted_size : (label : List ℕ) → 0 < length label → 0 < length (dotted_label label)
dotted_size [] some = absurd (omega arith)
dotted_size (o ∷ label) some = omega (arith, length-append (zone_label_text (o ∷ label)) (codes "."))

-- the first label, if there is one, has an octet
abbrev pub BeginsLabel : Labels → Type 0
BeginsLabel [] = Unit {0}
BeginsLabel (label ∷ name) = 0 < length label

-- The text of labels is a bare word.
pub labels_word : (name : Labels) → BeginsLabel name → IsBareWord (zone_name_text name)
labels_word [] some = (omega arith, plain refl nothing)
labels_word (label ∷ name) some =
    let size = dotted_size label some in
    (omega (arith, size, length-append (dotted_label label) (flat_map dotted_label (with_root name))), labels_rest (with_root (label ∷ name)))

-- The text of a name is a bare word.
pub name_word : (name : Labels) → IsName name → IsBareWord (zone_name_text name)
name_word [] is = labels_word [] tt
name_word (label ∷ name) is = labels_word (label ∷ name) (All-head IsLabel label name is.labels).some

-- addresses of IPv4
dot_rest : IsBare (codes ".")
dot_rest = plain refl nothing

-- The text of an IPv4 address is a bare word.
pub ipv4_word : (octets : List ℕ) → IsBytes octets → IsBareWord (ipv4_text octets)
ipv4_word octets bytes =
    let small = λ (i : ℕ). let byte = bytes i in let fits : slice_index octets i < 2 ^ 64 = omega arith in fits in
    let first = decimal_word (slice_index octets 0) (small 0) in
    let second = word_append _ _ (word_append _ _ first dot_rest) (decimal_rest (slice_index octets 1) (small 1)) in
    let third = word_append _ _ (word_append _ _ second dot_rest) (decimal_rest (slice_index octets 2) (small 2)) in
    word_append _ _ (word_append _ _ third dot_rest) (decimal_rest (slice_index octets 3) (small 3))

mnemonic_word : (names : Mnemonics) (n : ℕ) (other : List ℕ) → list_all (λ entry. is_plain_word entry.1) names ≡ true → IsBareWord other → IsBareWord (unwrap_or (mnemonic names n) other)
mnemonic_word [] n other all h = h
mnemonic_word (entry ∷ names) n other all h = by_test (entry.0 == n) parts.0 (mnemonic_word names n other parts.1 h) where
  parts : (is_plain_word entry.1 ≡ true) × (list_all (λ entry. is_plain_word entry.1) names ≡ true)
  parts = and_parts (is_plain_word entry.1) (list_all (λ (entry : ℕ × List ℕ). is_plain_word entry.1) names) all

  by_test : (b : Bool) → is_plain_word entry.1 ≡ true → IsBareWord (unwrap_or (mnemonic names n) other)
      → IsBareWord (unwrap_or (option_map (λ (entry : ℕ × List ℕ). entry.1) (if b then Some entry else find (λ entry. entry.0 == n) names)) other)
  by_test true here later = plain_word entry.1 here
  by_test false here later = later

numbered_word : (n : ℕ) → n < 2 ^ 16 → (word : List ℕ) → IsBareWord word → IsBareWord (word ++ decimal n)
numbered_word n small word h = word_append word (decimal n) h (decimal_rest n (omega arith))

-- The word of a class is a bare word.
pub class_is_word : (n : ℕ) → n < 2 ^ 16 → IsBareWord (class_word n)
unfolding registered_classes
class_is_word n small = mnemonic_word registered_classes n _ refl (numbered_word n small (codes "CLASS") (plain_word (codes "CLASS") refl))

-- The word of a type is a bare word.
pub type_is_word : (n : ℕ) → n < 2 ^ 16 → IsBareWord (type_word n)
unfolding registered_types
type_is_word n small = mnemonic_word registered_types n _ refl (numbered_word n small (codes "TYPE") (plain_word (codes "TYPE") refl))
