-- Texts that are words.
use Rattle.std.proofs.Common.{◌≡◌, ℕ, zero, suc, ◌+◌, ◌/◌, ◌%◌, ◌^◌, ◌<◌, ◌==◌, ◌&&◌, Bool, true, false, List, [], ◌∷◌, ◌++◌, length, replicate, decimal, refl, sym, subst, arith, append_assoc, length-append}
use Rattle.std.specs.Prelude.{not, ◌||◌, if◌then◌else◌, slice_index}
use Rattle.std.specs.Char.{is_ascii_alphanumeric}
use Rattle.std.specs.Fmt.{digit_glyph}
use Rattle.std.specs.Int.{is_in_range}
use Rattle.std.specs.List.{flat_map, list_all}
use Rattle.std.proofs.lemmas.Bool.{and_parts}
use Rattle.std.proofs.lemmas.Bool.Decides.{nat_tests}
use Rattle.std.proofs.lemmas.Fmt.{decimal_by_steps, decimal_nonempty}
use Rattle.base64.specs.Engines.{standard}
use Rattle.base64.specs.GeneralPurpose.{encode_of}
use Rattle.base64.specs.Rfc4648.{encode_symbols, padding_len}
use Rattle.hex.specs.Hex.{IsBytes}
use Rattle.fields_text.specs.Hex.{hex_text}
use Rattle.fields_text.specs.String.{quote, backslash, decimal_text, string_octet, quoted, is_tag}
use Rattle.fields_text.specs.LineWords.{IsRest, IsString, IsWord, begins_string, is_plain}
use Rattle.fields_text.specs.LineWords.IsRest.{nothing as rest_nothing, plain as rest_plain, escaped as rest_escaped, turned as rest_turned}
use Rattle.fields_text.specs.LineWords.IsString.{closed, plain as string_plain, escaped as string_escaped}
use Rattle.fields_text.specs.LineWords.IsWord.{string, bare}

-- a rest, and more of the word after it
pub rest_append : (inside : Bool) (first second : List ℕ) → IsRest inside first → IsRest false second → IsRest inside (first ++ second)
rest_append inside first second rest_nothing h = h
rest_append inside first second (rest_plain {rest = rest} is g) h = rest_plain is (rest_append inside rest second g h)
rest_append inside first second (rest_escaped {rest = rest} g) h = rest_escaped (rest_append inside rest second g h)
rest_append inside first second (rest_turned {rest = rest} g) h = rest_turned (rest_append (not inside) rest second g h)

-- a text without quotes, unless a backslash stands before them
pub data IsBare : List ℕ → Type 0 where
  nothing : IsBare []
  plain : {c : ℕ} {rest : List ℕ} → is_plain false c ≡ true → IsBare rest → IsBare (c ∷ rest)
  escaped : {c : ℕ} {rest : List ℕ} → IsBare rest → IsBare (backslash ∷ c ∷ rest)

-- Two bare texts are bare together.
pub bare_append : (first second : List ℕ) → IsBare first → IsBare second → IsBare (first ++ second)
bare_append first second nothing h = h
bare_append first second (plain {rest = rest} is g) h = plain is (bare_append rest second g h)
bare_append first second (escaped {rest = rest} g) h = escaped (bare_append rest second g h)

-- A bare text is the rest of a word.
pub bare_rest : (text : List ℕ) → IsBare text → IsRest false text
bare_rest text nothing = rest_nothing
bare_rest text (plain {rest = rest} is h) = rest_plain is (bare_rest rest h)
bare_rest text (escaped {rest = rest} h) = rest_escaped (bare_rest rest h)

plain_begins : (c : ℕ) → is_plain false c ≡ true → (c == quote) ≡ false
plain_begins c h = grind (arith, nat_tests)

bare_begins : (text : List ℕ) → IsBare text → begins_string text ≡ false
bare_begins text nothing = refl
bare_begins text (plain {c = c} is h) = plain_begins c is
bare_begins text (escaped h) = refl

-- such a word
abbrev pub IsBareWord : List ℕ → Type 0
IsBareWord text = (0 < length text) × IsBare text

-- A bare word is a word.
pub is_word : {text : List ℕ} → IsBareWord text → IsWord text
is_word {text} h = bare h.0 (bare_begins text h.1) (bare_rest text h.1)

-- such a word, and the rest of a word after it
pub word_then : (first second : List ℕ) → IsBareWord first → IsRest false second → IsWord (first ++ second)
word_then [] second h rest = let some = h.0 in absurd (omega arith)
word_then (c ∷ first) second h rest = bare (omega arith) (bare_begins (c ∷ first) h.1) (rest_append false (c ∷ first) second (bare_rest (c ∷ first) h.1) rest)

-- plain characters
pub plain_rest : (text : List ℕ) → list_all (is_plain false) text ≡ true → IsBare text
plain_rest [] all = nothing
plain_rest (c ∷ text) all = let parts = and_parts (is_plain false c) (list_all (is_plain false) text) all in plain parts.0 (plain_rest text parts.1)

-- a word, and more of it
pub word_append : (first second : List ℕ) → IsBareWord first → IsBare second → IsBareWord (first ++ second)
word_append first second w h = let some = w.0 in (omega (arith, length-append first second), bare_append first second w.1 h)

-- a decimal digit
pub digit_plain : (d : ℕ) → d < 10 → is_plain false (48 + d) ≡ true
digit_plain d h = grind (arith, nat_tests)

one_digit : (d : ℕ) → d < 10 → IsBare ((48 + d) ∷ [])
one_digit d h = plain (digit_plain d h) nothing

-- a number
pub decimal_rest : (n : ℕ) → n < 2 ^ 64 → IsBare (decimal n)
decimal_rest n small =
    decimal_by_steps (λ n digits. IsBare digits) (λ n h. one_digit n h) (λ n digits h g. bare_append digits ((48 + n % 10) ∷ []) g (one_digit (n % 10) (omega arith))) n small

-- A decimal number is a bare word.
pub decimal_word : (n : ℕ) → n < 2 ^ 64 → IsBareWord (decimal n)
decimal_word n small = (decimal_nonempty n small, decimal_rest n small)

-- a string in quotes
digit_inside : (d : ℕ) → d < 10 → is_plain true (48 + d) ≡ true
digit_inside d h = grind (arith, nat_tests)

inside_plain : (o : ℕ) → (o == quote) ≡ false → (o == backslash) ≡ false → is_plain true o ≡ true
inside_plain o q b = grind (arith, nat_tests)

octet_inside : (o : ℕ) (rest : List ℕ) → IsString rest → (q b r : Bool) → (o == quote) ≡ q → (o == backslash) ≡ b → is_in_range 0x20 0x7e o ≡ r
    → IsString ((if q || b then backslash ∷ o ∷ [] else if r then o ∷ [] else decimal_text o) ++ rest)
octet_inside o rest h true b r eq eb er = string_escaped h
octet_inside o rest h false true r eq eb er = string_escaped h
octet_inside o rest h false false true eq eb er = string_plain (inside_plain o eq eb) h
octet_inside o rest h false false false eq eb er =
    string_escaped (string_plain (digit_inside (o / 10 % 10) (omega arith)) (string_plain (digit_inside (o % 10) (omega arith)) h))

string_inside : (octets rest : List ℕ) → IsString rest → IsString (flat_map string_octet octets ++ rest)
string_inside [] rest h = h
string_inside (o ∷ octets) rest h =
    subst (λ (text : List ℕ). IsString text) (sym (append_assoc (string_octet o) (flat_map string_octet octets) rest))
    (octet_inside o (flat_map string_octet octets ++ rest) (string_inside octets rest h) _ _ _ refl refl refl)

-- A text in quotes is a word.
pub quoted_word : (octets : List ℕ) → IsWord (quoted octets)
quoted_word octets = string (string_inside octets (quote ∷ []) closed)

-- a string in quotes within a word
string_rest : (rest : List ℕ) → IsString rest → IsRest true rest
string_rest rest closed = rest_turned rest_nothing
string_rest rest (string_plain {rest = left} is h) = rest_plain is (string_rest left h)
string_rest rest (string_escaped {rest = left} h) = rest_escaped (string_rest left h)

-- A text in quotes is the rest of a word.
pub quoted_rest : (octets : List ℕ) → IsRest false (quoted octets)
quoted_rest octets = rest_turned (string_rest _ (string_inside octets (quote ∷ []) closed))

-- a tag
tag_plain : (o : ℕ) → is_ascii_alphanumeric o ≡ true → is_plain false o ≡ true
tag_plain o h = grind (arith, nat_tests)

tag_rest : (octets : List ℕ) → list_all is_ascii_alphanumeric octets ≡ true → IsBare octets
tag_rest [] all = nothing
tag_rest (o ∷ octets) all =
    let parts = and_parts (is_ascii_alphanumeric o) (list_all is_ascii_alphanumeric octets) all in plain (tag_plain o parts.0) (tag_rest octets parts.1)

-- A tag is a bare word.
pub tag_word : (octets : List ℕ) → is_tag octets ≡ true → IsBareWord octets
tag_word [] is = absurd (cc is)
tag_word (o ∷ octets) is =
    (omega arith, tag_rest (o ∷ octets) (and_parts (not (length (o ∷ octets) == 0)) (list_all is_ascii_alphanumeric (o ∷ octets)) is).1)

-- hexadecimal digits
pub glyph_plain : (upper : Bool) (d : ℕ) → d < 16 → is_plain false (digit_glyph upper d) ≡ true
glyph_plain true d h = grind (arith, nat_tests)
glyph_plain false d h = grind (arith, nat_tests)

-- digits of base32
pub base32_plain : (d : ℕ) → d < 32 → is_plain false (digit_glyph true d) ≡ true
base32_plain d h = grind (arith, nat_tests)

-- octets in hexadecimal
pub hex_rest : (octets : List ℕ) → IsBytes octets → IsBare (hex_text octets)
hex_rest [] bytes = nothing
hex_rest (o ∷ octets) bytes =
    let small : o < 256 = bytes 0 in
    plain (glyph_plain true (o / 16) (omega arith)) (plain (glyph_plain true (o % 16) (omega arith)) (hex_rest octets (λ i. bytes (suc i))))

-- Hexadecimal digits are a bare word.
pub hex_word : (octets : List ℕ) → IsBytes octets → 0 < length octets → IsBareWord (hex_text octets)
hex_word [] bytes some = absurd (omega arith)
hex_word (o ∷ octets) bytes some = (omega arith, hex_rest (o ∷ octets) bytes)

-- octets in base64
slice_plain : (table : List ℕ) (i : ℕ) → list_all (is_plain false) table ≡ true → is_plain false (slice_index table i) ≡ true
slice_plain [] i all = refl
slice_plain (c ∷ table) zero all = (and_parts (is_plain false c) (list_all (is_plain false) table) all).0
slice_plain (c ∷ table) (suc i) all = slice_plain table i (and_parts (is_plain false c) (list_all (is_plain false) table) all).1

symbols_rest : (table octets : List ℕ) → list_all (is_plain false) table ≡ true → IsBare (encode_symbols table octets)
unfolding encode_symbols
symbols_rest table [] all = nothing
symbols_rest table (a ∷ []) all = plain (slice_plain table _ all) (plain (slice_plain table _ all) nothing)
symbols_rest table (a ∷ b ∷ []) all = plain (slice_plain table _ all) (plain (slice_plain table _ all) (plain (slice_plain table _ all) nothing))
symbols_rest table (a ∷ b ∷ c ∷ octets) all =
    plain (slice_plain table _ all) (plain (slice_plain table _ all) (plain (slice_plain table _ all) (plain (slice_plain table _ all) (symbols_rest table octets all))))

padding_rest : (n : ℕ) → IsBare (replicate n 61)
padding_rest zero = nothing
padding_rest (suc n) = plain refl (padding_rest n)

-- Base64 is bare.
pub base64_rest : (octets : List ℕ) → IsBare (encode_of standard octets)
base64_rest octets = bare_append _ _ (symbols_rest (standard.encode_table) octets refl) (padding_rest (padding_len (length octets)))

symbols_size : (table : List ℕ) (octets : List ℕ) → 0 < length octets → 0 < length (encode_symbols table octets)
unfolding encode_symbols
symbols_size table [] some = absurd (omega arith)
symbols_size table (a ∷ []) some = omega arith
symbols_size table (a ∷ b ∷ []) some = omega arith
symbols_size table (a ∷ b ∷ c ∷ octets) some = omega arith

-- Base64 is a bare word.
pub base64_word : (octets : List ℕ) → 0 < length octets → IsBareWord (encode_of standard octets)
base64_word octets some =
    word_append _ _ (symbols_size standard.encode_table octets some, symbols_rest (standard.encode_table) octets refl) (padding_rest (padding_len (length octets)))

-- record types and classes
abbrev pub is_plain_word : List ℕ → Bool
is_plain_word text = not (length text == 0) && list_all (is_plain false) text

-- A plain text is a bare word.
pub plain_word : (text : List ℕ) → is_plain_word text ≡ true → IsBareWord text
plain_word [] all = absurd (cc all)
plain_word (c ∷ text) all =
    (omega arith, plain_rest (c ∷ text) (and_parts (not (length (c ∷ text) == 0)) (list_all (is_plain false) (c ∷ text)) all).1)
