-- No control character stands in the text of a value, if none does in its numbers.
use Rattle.std.proofs.Common.{◌≡◌, ℕ, zero, suc, ◌+◌, ◌<◌, ◌≤◌, Bool, true, false, ◌&&◌, ◌==◌, nat_le, nat_lt, ◌/◌, ◌%◌, List, [], ◌∷◌, ◌++◌, arith, codes, decimal, inl, inr, refl, subst, sym}
use Rattle.std.proofs.lemmas.Bool.{and_from, and_parts, cases_eq, cases_lt, le-leb}
use Rattle.std.specs.Fmt.{digit_glyph, digits, digits_onto}
use Rattle.std.specs.List.{list_all}
use Rattle.std.specs.Prelude.{◌⊎◌, if◌then◌else◌}
use Rattle.json.specs.Json.{Json, boolean, number, string}
use Rattle.json.specs.Print.{escape, escape_byte, quoted}
use Rattle.json.proofs.Printed.Strings.{escape_byte_plain}
use Rattle.json_print.specs.Texts.{boolean_word, comma_if, items_text, json_text, member_text, members_text, name_text, object_front}
use Rattle.json_print.specs.Values.{Member, array_of, numeral, object_of}
use Rattle.json_print.proofs.theory.JsonTexts.{array_text, boolean_text, number_text, object_text, string_text}
use Rattle.json_print.proofs.theory.Shapes.{EachItem, EachValue}

-- no octet is a control character
abbrev pub is_line : List ℕ → Bool
is_line text = list_all (nat_le 32) text

-- Two texts without control characters have none together.
pub line_append : (xs ys : List ℕ) → is_line xs ≡ true → is_line ys ≡ true → is_line (xs ++ ys) ≡ true
line_append [] ys h k = k
line_append (x ∷ xs) ys h k = let both = and_parts (nat_le 32 x) (is_line xs) h in and_from _ _ both.0 (line_append xs ys both.1 k)

-- the escapes of the octets below n have none
abbrev escapes_below : ℕ → Bool
escapes_below zero = true
escapes_below (suc n) = is_line (escape_byte n) && escapes_below n

escape_below : (n : ℕ) → escapes_below n ≡ true → (x : ℕ) → x < n → is_line (escape_byte x) ≡ true
escape_below zero all x below = absurd (omega arith)
escape_below (suc n) all x below =
    let both = and_parts (is_line (escape_byte n)) (escapes_below n) all in
    elim (cases_eq x n) [ inl same ↦ subst (λ (k : ℕ). is_line (escape_byte k) ≡ true) (sym same) both.0 | inr other ↦ escape_below n both.1 x (omega arith) ]

controls : escapes_below 32 ≡ true
unfolding escape_byte
controls = refl

two_escapes : (is_line (escape_byte 34) ≡ true) × (is_line (escape_byte 92) ≡ true)
unfolding escape_byte
two_escapes = (refl, refl)

other_octet : (x : ℕ) → 32 ≤ x → (x ≡ 34) ⊎ (x ≡ 34 → ⊥) → (x ≡ 92) ⊎ (x ≡ 92 → ⊥) → is_line (escape_byte x) ≡ true
other_octet x printable (inl quote) slash = subst (λ (k : ℕ). is_line (escape_byte k) ≡ true) (sym quote) two_escapes.0
other_octet x printable (inr quote) (inl slash) = subst (λ (k : ℕ). is_line (escape_byte k) ≡ true) (sym slash) two_escapes.1
other_octet x printable (inr quote) (inr slash) = rw (escape_byte_plain x quote slash printable) (and_from _ _ (le-leb 32 x printable) refl)

octet_line : (x : ℕ) → is_line (escape_byte x) ≡ true
octet_line x = elim (cases_lt x 32) [ inl control ↦ escape_below 32 controls x control | inr printable ↦ other_octet x printable (cases_eq x 34) (cases_eq x 92) ]

escape_line : (s : List ℕ) → is_line (escape s) ≡ true
escape_line [] = refl
escape_line (x ∷ s) = line_append (escape_byte x) (escape s) (octet_line x) (escape_line s)

quoted_line : (s : List ℕ) → is_line (quoted s) ≡ true
quoted_line s = line_append (escape s) (34 ∷ []) (escape_line s) refl

glyph_line : (b : Bool) (d : ℕ) → nat_le 32 (if b then 48 + d else 87 + d) ≡ true
glyph_line true d = le-leb 32 (48 + d) (omega arith)
glyph_line false d = le-leb 32 (87 + d) (omega arith)

-- A text that is one of two has none if neither has.
pub either_line : (b : Bool) (xs ys : List ℕ) → is_line xs ≡ true → is_line ys ≡ true → is_line (if b then xs else ys) ≡ true
either_line true xs ys h k = h
either_line false xs ys h k = k

digits_line : (k n : ℕ) (acc : List ℕ) → is_line acc ≡ true → is_line (digits_onto k 10 false n acc) ≡ true
digits_line zero n acc h = h
digits_line (suc k) n acc h =
    let d = digit_glyph false (n % 10) in
    let more : is_line (d ∷ acc) ≡ true = and_from _ _ (glyph_line (nat_lt (n % 10) 10) (n % 10)) h in
    either_line (n / 10 == 0) (d ∷ acc) _ more (digits_line k (n / 10) (d ∷ acc) more)

-- Decimal digits have no control character.
pub decimal_line : (n : ℕ) → is_line (decimal n) ≡ true
unfolding digits
decimal_line n = digits_line 64 n [] refl

-- the text of the value has no control character
abbrev pub IsLine : Json → Type 0
IsLine j = is_line (json_text j) ≡ true

-- A string has none, whatever its octets are.
pub string_line : (s : List ℕ) → IsLine (string s)
string_line s = rw (string_text s) (quoted_line s)

-- A number has none if its digits have none.
pub number_line : (s : List ℕ) → is_line s ≡ true → IsLine (number s)
number_line s h = rw (number_text s) h

-- Nor has a numeral.
pub numeral_line : (n : ℕ) → IsLine (numeral n)
numeral_line n = number_line (decimal n) (decimal_line n)

word_line : (b : Bool) → is_line (boolean_word b) ≡ true
word_line true = refl
word_line false = refl

-- Nor have true and false.
pub boolean_line : (b : Bool) → IsLine (boolean b)
boolean_line b = rw (boolean_text b) (word_line b)

named_line : (before : List ℕ) (m : Member) → is_line before ≡ true → IsLine m.1 → is_line (before ++ name_text m.0 ++ json_text m.1) ≡ true
named_line before m b h = line_append (before ++ name_text m.0) (json_text m.1) (line_append before (name_text m.0) b (line_append (quoted m.0) (codes ":") (quoted_line m.0) refl)) h

members_line : (ms : List Member) → EachValue IsLine ms → is_line (members_text ms) ≡ true
members_line [] h = refl
members_line (m ∷ ms) h = line_append (member_text m) (members_text ms) (named_line (codes ",") m refl h.0) (members_line ms h.1)

front_line : (ms : List Member) → EachValue IsLine ms → is_line (object_front ms) ≡ true
front_line [] h = refl
front_line (m ∷ ms) h = line_append (codes "{" ++ name_text m.0 ++ json_text m.1) (members_text ms) (named_line (codes "{") m refl h.0) (members_line ms h.1)

-- An object has none if no value of its members has.
pub object_line : (ms : List Member) → EachValue IsLine ms → IsLine (object_of ms)
object_line ms h = rw (object_text ms) (line_append (object_front ms) (codes "}") (front_line ms h) refl)

comma_line : (later : Bool) → is_line (comma_if later) ≡ true
comma_line true = refl
comma_line false = refl

items_line : (later : Bool) (js : List Json) → EachItem IsLine js → is_line (items_text later js) ≡ true
items_line later [] h = refl
items_line later (j ∷ js) h =
    line_append (comma_if later ++ json_text j) (items_text true js) (line_append (comma_if later) (json_text j) (comma_line later) h.0) (items_line true js h.1)

-- An array has none if no item has.
pub array_line : (js : List Json) → EachItem IsLine js → IsLine (array_of js)
array_line js h = rw (array_text js) (line_append (codes "[" ++ items_text false js) (codes "]") (line_append (codes "[") (items_text false js) refl (items_line false js h)) refl)
