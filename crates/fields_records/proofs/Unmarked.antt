-- Printed texts that aren't `\#`. RFC 3597 section 5.
use Rattle.std.proofs.Common.{◌≡◌, ◌≢◌, ◌∙◌, ℕ, ◌/◌, ◌%◌, ◌<◌, ◌≤◌, ◌^◌, Bool, true, false, List, [], ◌∷◌, ◌++◌, length, decimal, refl, sym, ap, subst, arith, inl, inr}
use Rattle.std.specs.Prelude.{codes}
use Rattle.std.specs.Char.{digit_value}
use Rattle.std.specs.Fmt.{digit_glyph}
use Rattle.std.specs.List.{flat_map}
use Rattle.std.specs.Net.Grammar.{IsColonHex, IsDotted, IsGroupsAfter}
use Rattle.std.specs.Str.Parse.{IsNumeral}
use Rattle.std.proofs.lemmas.Bool.{false≢true}
use Rattle.std.proofs.lemmas.Bool.Decides.{nat_tests}
use Rattle.std.proofs.lemmas.Fmt.{decimal_is_IsNumeral}
use Rattle.std.proofs.lemmas.List.Elements.{All-head}
use Rattle.base64.specs.Engines.{standard}
use Rattle.base64.specs.GeneralPurpose.{encode_of}
use Rattle.base64.specs.Rfc4648.{encode_symbols}
use Rattle.hex.specs.Hex.{IsBytes}
use Rattle.dns_name.specs.Names.{IsLabel, IsName, Labels, with_root}
use Rattle.fields_plain.specs.EuiTexts.{eui_text}
use Rattle.fields_plain.specs.LocatorWords.{locator_text}
use Rattle.fields_text.specs.Base32.{base32_digits, base32_text}
use Rattle.fields_text.specs.Hex.{hex_text}
use Rattle.fields_text.specs.String.{is_tag, quote, quoted, string_octet}
use Rattle.fields_plain.specs.Time.{time_text}
use Rattle.fields_plain.specs.Salts.{salt_text}
use Rattle.fields_records.specs.FieldTexts.{base64_or_hyphen}
use Rattle.fields_plain.specs.ZoneNames.{dotted_label, zone_label_text, zone_name_text}

-- A word other than `\#`.
abbrev pub Unmarked : List ℕ → Type 0
Unmarked text = text ≢ codes "\\#"

first_same : (x y : ℕ) (xs ys : List ℕ) → x ∷ xs ≡ y ∷ ys → x ≡ y
first_same x y xs ys e = cc

-- a text that begins with another character than a backslash
record Begins (text : List ℕ) : Type 0 where
  first : ℕ
  rest : List ℕ
  whole : text ≡ first ∷ rest
  other : first ≢ 92

begins_unmarked : (text : List ℕ) → Begins text → Unmarked text
begins_unmarked text begins e = begins.other (first_same begins.first 92 begins.rest (35 ∷ []) (sym begins.whole ∙ e))

begins_append : (text after : List ℕ) → Begins text → Begins (text ++ after)
begins_append text after begins = record {
  first = begins.first;
  rest = begins.rest ++ after;
  whole = ap (λ (xs : List ℕ). xs ++ after) begins.whole;
  other = begins.other;
}

-- a text of more characters
longer : (x y z : ℕ) (text : List ℕ) → Unmarked (x ∷ y ∷ z ∷ text)
longer x y z text e = cc e

-- numbers
numeral_begins : (radix : ℕ) (digits : List ℕ) → radix ≤ 36 → IsNumeral radix digits → Begins digits
numeral_begins radix [] small is = let some = is.0 in absurd (omega arith)
numeral_begins radix (d ∷ digits) small is = record {
  first = d;
  rest = digits;
  whole = refl;
  other = λ same.
      let digit = is.1.0 in
      let value : digit_value d ≡ 36 = ap digit_value same in
      omega (arith, digit, value);
}

decimal_begins : (n : ℕ) → n < 2 ^ 64 → Begins (decimal n)
decimal_begins n small = numeral_begins 10 (decimal n) (omega arith) (decimal_is_IsNumeral n small).0

-- addresses
dotted_begins : (text octets : List ℕ) → IsDotted text octets → Begins text
dotted_begins text octets is =
    subst Begins (sym is.spelled)
    (begins_append (decimal is.a ++ codes "." ++ decimal is.b ++ codes "." ++ decimal is.c ++ codes ".") (decimal is.d)
    (begins_append (decimal is.a ++ codes "." ++ decimal is.b ++ codes "." ++ decimal is.c) (codes ".")
    (begins_append (decimal is.a ++ codes "." ++ decimal is.b ++ codes ".") (decimal is.c)
    (begins_append (decimal is.a ++ codes "." ++ decimal is.b) (codes ".")
    (begins_append (decimal is.a ++ codes ".") (decimal is.b)
    (begins_append (decimal is.a) (codes ".") (decimal_begins is.a (omega (arith, is.fit.0)))))))))

-- The text of an IPv4 address is not `\#`.
pub dotted_unmarked : (text octets : List ℕ) → IsDotted text octets → Unmarked text
dotted_unmarked text octets is = begins_unmarked text (dotted_begins text octets is)

groups_begin : (ipv4 : Bool) (text : List ℕ) (s : ℕ) (segments : List ℕ) → IsGroupsAfter ipv4 [] text (s ∷ segments) → Begins text
groups_begin ipv4 text s segments (inl (group, rest, e, is, others)) =
    subst Begins (sym e) (begins_append group rest (numeral_begins 16 group (omega arith) is.0.0))
groups_begin ipv4 text s segments (inr (last, octets, t, e, is, same)) = subst Begins (sym e) (dotted_begins last octets is)

-- groups, or none, before two colons
elided_begins : (head_text head after : List ℕ) → IsGroupsAfter false [] head_text head → Begins (head_text ++ codes "::" ++ after)
elided_begins head_text [] after groups =
    subst (λ (text : List ℕ). Begins (text ++ codes "::" ++ after)) (sym groups) (record { first = 58; rest = 58 ∷ after; whole = refl; other = λ e. omega arith })
elided_begins head_text (s ∷ segments) after groups =
    begins_append (head_text ++ codes "::") after (begins_append head_text (codes "::") (groups_begin false head_text s segments groups))

eight_begin : (text segments : List ℕ) → IsGroupsAfter true [] text segments → length segments ≡ 8 → Begins text
eight_begin text [] groups count = absurd (omega arith)
eight_begin text (s ∷ segments) groups count = groups_begin true text s segments groups

-- The text of an IPv6 address is not `\#`.
pub colon_hex_unmarked : (text segments : List ℕ) → IsColonHex text segments → Unmarked text
colon_hex_unmarked text segments (inl is) = begins_unmarked text (eight_begin text segments is.0 is.1)
colon_hex_unmarked text segments (inr is) =
    begins_unmarked text (subst Begins (sym is.spelled) (elided_begins is.head_text is.head is.tail_text is.head_groups))

-- The text of an EUI is not `\#`.
pub eui_unmarked : (octets : List ℕ) → 2 ≤ length octets → Unmarked (eui_text octets)
eui_unmarked [] some = absurd (omega arith)
eui_unmarked (a ∷ []) some = absurd (omega arith)
eui_unmarked (a ∷ b ∷ octets) some = longer _ _ _ _

-- The text of a locator is not `\#`.
pub locator_unmarked : (octets : List ℕ) → length octets ≡ 8 → Unmarked (locator_text octets)
locator_unmarked [] size = absurd (omega arith)
locator_unmarked (a ∷ []) size = absurd (omega arith)
locator_unmarked (a ∷ b ∷ []) size = absurd (omega arith)
locator_unmarked (a ∷ b ∷ c ∷ octets) size = longer _ _ _ _

-- times have fourteen digits
pub time_unmarked : (seconds : ℕ) → Unmarked (time_text seconds)
time_unmarked seconds = longer _ _ _ _

-- names have a dot
dot_inside : (front back : List ℕ) → Unmarked (front ++ codes "." ++ back)
dot_inside [] back e = let same = first_same 46 92 back (35 ∷ []) e in omega (arith, same)
dot_inside (x ∷ []) back e = let same : 46 ∷ back ≡ 35 ∷ [] = cc in let dot = first_same 46 35 back [] same in omega (arith, dot)
dot_inside (x ∷ y ∷ []) back e = longer x y 46 back e
dot_inside (x ∷ y ∷ z ∷ front) back e = longer x y z (front ++ codes "." ++ back) e

label_unmarked : (label after : List ℕ) → IsLabel label → Unmarked (dotted_label label ++ after)
label_unmarked [] after is = let some = is.some in absurd (omega arith)
label_unmarked (o ∷ label) after is = dot_inside (zone_label_text (o ∷ label)) after

-- The text of a name is not `\#`.
pub name_unmarked : (name : Labels) → IsName name → Unmarked (zone_name_text name)
name_unmarked [] is e = let same = first_same 46 92 [] (35 ∷ []) e in omega (arith, same)
name_unmarked (label ∷ name) is e = label_unmarked label (flat_map dotted_label (with_root name)) (All-head IsLabel label name is.labels) e

-- character strings and tags
pub quoted_unmarked : (octets : List ℕ) → Unmarked (quoted octets)
quoted_unmarked octets e = let same = first_same quote 92 (flat_map string_octet octets ++ quote ∷ []) (35 ∷ []) e in omega (arith, same)

-- A tag is not `\#`.
pub tag_unmarked : (octets : List ℕ) → is_tag octets ≡ true → Unmarked octets
tag_unmarked octets is e = false≢true (sym (ap is_tag e) ∙ is)

-- octets
glyph_other : (d : ℕ) → d < 32 → digit_glyph true d ≢ 92
glyph_other d small = grind (arith, nat_tests)

-- Hexadecimal digits are not `\#`.
pub hex_unmarked : (octets : List ℕ) → IsBytes octets → 0 < length octets → Unmarked (hex_text octets)
hex_unmarked [] bytes some e = absurd (omega arith)
hex_unmarked (o ∷ octets) bytes some e =
    let small : o < 256 = bytes 0 in
    glyph_other (o / 16) (omega arith) (first_same (digit_glyph true (o / 16)) 92 (digit_glyph true (o % 16) ∷ hex_text octets) (35 ∷ []) e)

-- The text of a salt is not `\#`.
pub salt_unmarked : (octets : List ℕ) → IsBytes octets → Unmarked (salt_text octets)
salt_unmarked [] bytes e = let same = first_same 45 92 [] (35 ∷ []) e in omega (arith, same)
salt_unmarked (o ∷ octets) bytes e = hex_unmarked (o ∷ octets) bytes (omega arith) e

-- the first of two digits
two_unmarked : (n : ℕ) → Unmarked (base32_digits 2 n)
unfolding base32_digits
two_unmarked n e = glyph_other (n / 32 % 32) (omega arith) (first_same (digit_glyph true (n / 32 % 32)) 92 (digit_glyph true (n % 32) ∷ []) (35 ∷ []) e)

four_unmarked : (n : ℕ) → Unmarked (base32_digits 4 n)
unfolding base32_digits
four_unmarked n = longer _ _ _ _

five_unmarked : (n : ℕ) → Unmarked (base32_digits 5 n)
unfolding base32_digits
five_unmarked n = longer _ _ _ _

seven_unmarked : (n : ℕ) → Unmarked (base32_digits 7 n)
unfolding base32_digits
seven_unmarked n = longer _ _ _ _

eight_unmarked : (n : ℕ) (after : List ℕ) → Unmarked (base32_digits 8 n ++ after)
unfolding base32_digits
eight_unmarked n after = longer _ _ _ _

-- The text of a hash is not `\#`.
pub hash_unmarked : (octets : List ℕ) → 0 < length octets → Unmarked (base32_text octets)
hash_unmarked [] some = absurd (omega arith)
hash_unmarked (a ∷ []) some = two_unmarked _
hash_unmarked (a ∷ b ∷ []) some = four_unmarked _
hash_unmarked (a ∷ b ∷ c ∷ []) some = five_unmarked _
hash_unmarked (a ∷ b ∷ c ∷ d ∷ []) some = seven_unmarked _
hash_unmarked (a ∷ b ∷ c ∷ d ∷ e ∷ octets) some = eight_unmarked _ (base32_text octets)

-- Base64 is not `\#`.
pub base64_unmarked : (octets : List ℕ) → 0 < length octets → Unmarked (encode_of standard octets)
unfolding encode_symbols
base64_unmarked [] some = absurd (omega arith)
base64_unmarked (a ∷ []) some = longer _ _ _ _
base64_unmarked (a ∷ b ∷ []) some = longer _ _ _ _
base64_unmarked (a ∷ b ∷ c ∷ octets) some = longer _ _ _ _

-- Base64 or a hyphen is not `\#`.
pub base64_or_hyphen_unmarked : (octets : List ℕ) → Unmarked (base64_or_hyphen octets)
base64_or_hyphen_unmarked [] e = let same = first_same 45 92 [] (35 ∷ []) e in omega (arith, same)
base64_or_hyphen_unmarked (o ∷ octets) e = base64_unmarked (o ∷ octets) (omega arith) e
