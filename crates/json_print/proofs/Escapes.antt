-- Texts that are escaped and written to another writer.
use Rattle.std.proofs.Common.{◌≡◌, ◌≤◌, ◌<◌, ◌∙◌, ℕ, suc, ◌||◌, ◌==◌, true, false, List, [], ◌∷◌, ◌++◌, length, get_or, codes, IsUtf8, flat_map, refl, ap, sym, subst, inl, inr, arith, append-nil, lit<}
use Rattle.std.proofs.lemmas.Bool.{cases_lt, and_parts, or_parts, not-true, eqb-false, lt-ltb, ltb-false, ne_eqb}
use Rattle.std.proofs.lemmas.Grind.{flat_map-append}
use Rattle.std.proofs.lemmas.Str.{encode_ascii, encodes-chars, inside_one}
use Rattle.std.specs.Fmt.{WritesInCalls}
use Rattle.std.specs.List.{FoldsTo, concat, list_all}
use Rattle.std.specs.Prelude.{Result, encode_utf8, encode_utf8_all}
use Rattle.std.specs.Str.{chars}
use Rattle.std.specs.declared.fmt.Error.{Error}
use Rattle.json.specs.Print.{escape, escape_byte, escape_letter}
use Rattle.json.specs.Run.{is_plain}
use Rattle.json.proofs.Printed.Strings.{escape_byte_plain}
use Rattle.dns_print.specs.Digits.{hex_digits}
use Rattle.dns_print.specs.Printing.{PrintsOnOk}
use Rattle.dns_print.proofs.theory.Prints.{print_none, print_append}
use Rattle.json_print.specs.declared.escaped.Escaped.{Escaped}

-- Two texts are escaped one after the other.
pub escape-append : (xs ys : List ℕ) → escape (xs ++ ys) ≡ escape xs ++ escape ys
escape-append xs ys = flat_map-append escape_byte xs ys

plain_octet : (x : ℕ) → is_plain x ≡ true → escape_byte x ≡ x ∷ []
plain_octet x is =
    let none = or_parts ((x == 34) || (x == 92)) _ (not-true _ is) in
    let tests = or_parts (x == 34) _ none.0 in
    escape_byte_plain x (eqb-false x 34 tests.0) (eqb-false x 92 tests.1) (ltb-false x 32 none.1)

-- A text that needs no escape is its own content.
pub escape-plain : (xs : List ℕ) → list_all is_plain xs ≡ true → escape xs ≡ xs
escape-plain [] is = refl
escape-plain (x ∷ xs) is =
    let both = and_parts _ _ is in
    (λ i. plain_octet x both.0 i ++ escape-plain xs both.1 i)

high_octets : (xs : List ℕ) → ((k : ℕ) → k < length xs → 128 ≤ get_or xs k 0) → escape xs ≡ xs
high_octets [] high = refl
high_octets (x ∷ xs) high =
    let first : 128 ≤ x = high 0 (omega arith) in
    (λ i. escape_byte_plain x (λ e. omega arith) (λ e. omega arith) (omega arith) i ++ high_octets xs (λ k below. high (suc k) (omega arith)) i)

-- A character without a short escape is no quotation mark and no backslash.
no_quote : (c k : ℕ) → escape_letter c ≡ 0 → c ≡ k → (escape_letter k ≡ 0 → ⊥) → ⊥
no_quote c k none is some = some (subst (λ (n : ℕ). escape_letter n ≡ 0) is none)

-- A character from a space on that has no short escape is its own content.
pub character_plain : (c : ℕ) → escape_letter c ≡ 0 → 32 ≤ c → escape (encode_utf8 c) ≡ encode_utf8 c
character_plain c none printable =
    let quote : c ≡ 34 → ⊥ = λ is. no_quote c 34 none is (λ e. omega (arith, e)) in
    let slash : c ≡ 92 → ⊥ = λ is. no_quote c 92 none is (λ e. omega (arith, e)) in
    elim (cases_lt c 128) [
      | inl small ↦ rw (encode_ascii c small) (ap (λ (l : List ℕ). l ++ []) (escape_byte_plain c quote slash printable))
      | inr big ↦
          high_octets (encode_utf8 c) (λ k below. elim (cases_lt (get_or (encode_utf8 c) k 0) 128) [
            | inl low ↦ absurd (omega (arith, inside_one c [] (encode_utf8 c) k (sym (append-nil _)) below low))
            | inr high ↦ high
          ])
    ]

-- A character below 128 is escaped as its octet.
ascii_escaped : (c : ℕ) → c < 128 → escape (encode_utf8 c) ≡ escape_byte c
ascii_escaped c small = rw (encode_ascii c small) (append-nil (escape_byte c))

-- a control character without a short escape has its code
by_code : (c : ℕ) → c < 32 → escape_letter c ≡ 0 → escape_byte c ≡ codes "\\u00" ++ hex_digits false c
unfolding escape_byte
by_code c control none = rw (none, lt-ltb c 32 control)

-- So its content is that code.
pub control_escaped : (c : ℕ) → c < 32 → escape_letter c ≡ 0 → escape (encode_utf8 c) ≡ codes "\\u00" ++ hex_digits false c
control_escaped c control none = ascii_escaped c (omega arith) ∙ by_code c control none

-- A character that is a known one has its short escape.
pub short_of : (c k letter : ℕ) → c ≡ k → escape (encode_utf8 k) ≡ 92 ∷ letter ∷ [] → escape (encode_utf8 c) ≡ 92 ∷ letter ∷ []
short_of c k letter is e = subst (λ (n : ℕ). escape (encode_utf8 n) ≡ 92 ∷ letter ∷ []) (sym is) e

-- A quotation mark has a short escape.
pub short_quote : escape (encode_utf8 34) ≡ 92 ∷ 34 ∷ []
unfolding escape_byte
short_quote = ascii_escaped 34 (lit< tt)

-- That of a backslash.
pub short_backslash : escape (encode_utf8 92) ≡ 92 ∷ 92 ∷ []
unfolding escape_byte
short_backslash = ascii_escaped 92 (lit< tt)

-- That of a backspace.
pub short_b : escape (encode_utf8 8) ≡ 92 ∷ 98 ∷ []
unfolding escape_byte
short_b = ascii_escaped 8 (lit< tt)

-- That of a form feed.
pub short_f : escape (encode_utf8 12) ≡ 92 ∷ 102 ∷ []
unfolding escape_byte
short_f = ascii_escaped 12 (lit< tt)

-- That of a line feed.
pub short_n : escape (encode_utf8 10) ≡ 92 ∷ 110 ∷ []
unfolding escape_byte
short_n = ascii_escaped 10 (lit< tt)

-- That of a carriage return.
pub short_r : escape (encode_utf8 13) ≡ 92 ∷ 114 ∷ []
unfolding escape_byte
short_r = ascii_escaped 13 (lit< tt)

-- That of a tab.
pub short_t : escape (encode_utf8 9) ≡ 92 ∷ 116 ∷ []
unfolding escape_byte
short_t = ascii_escaped 9 (lit< tt)

-- No other character has one.
pub no_letter : (c : ℕ) → (c ≡ 34 → ⊥) → (c ≡ 92 → ⊥) → (c ≡ 8 → ⊥) → (c ≡ 12 → ⊥) → (c ≡ 10 → ⊥) → (c ≡ 13 → ⊥) → (c ≡ 9 → ⊥) → escape_letter c ≡ 0
no_letter c quote slash b f n r t = rw (ne_eqb c 34 quote, ne_eqb c 92 slash, ne_eqb c 8 b, ne_eqb c 12 f, ne_eqb c 10 n, ne_eqb c 13 r, ne_eqb c 9 t)

-- the content of characters in a string
abbrev pub content_of : List ℕ → List ℕ
content_of cs = flat_map (λ c. escape (encode_utf8 c)) cs

-- A character more.
pub content_more : (cs : List ℕ) (c : ℕ) → content_of (cs ++ c ∷ []) ≡ content_of cs ++ escape (encode_utf8 c)
content_more cs c =
    flat_map-append (λ (x : ℕ). escape (encode_utf8 x)) cs (c ∷ []) ∙ ap (λ (l : List ℕ). content_of cs ++ l) (append-nil (escape (encode_utf8 c)))

content_encoded : (cs : List ℕ) → content_of cs ≡ escape (encode_utf8_all cs)
content_encoded [] = refl
content_encoded (c ∷ cs) = ap (λ (l : List ℕ). escape (encode_utf8 c) ++ l) (content_encoded cs) ∙ sym (escape-append (encode_utf8 c) (encode_utf8_all cs))

-- The content of all characters of a text is its content.
pub content_of-chars : (text : List ℕ) → IsUtf8 text → content_of (chars text) ≡ escape text
content_of-chars text utf8 = content_encoded (chars text) ∙ ap escape (encodes-chars text utf8)

module _ {T : Type 0} (takes : T → List ℕ → T → Type 0) where
  -- what the writer takes
  abbrev pub EscapedTakes : Escaped T → List ℕ → Escaped T → Type 0
  EscapedTakes old text new = WritesInCalls takes old.0.now (escape text) new.0.now × (new.0.ghost_name ≡ old.0.ghost_name)

  escaped_calls : (old : Escaped T) (texts : List (List ℕ)) (new : Escaped T) → FoldsTo EscapedTakes old texts new → EscapedTakes old (concat texts) new
  escaped_calls old [] new same = (
    subst (λ (x : Escaped T). WritesInCalls takes old.0.now [] x.0.now) same (print_none takes old.0.now),
    ap (λ (x : Escaped T). x.0.ghost_name) (sym same),
  )
  escaped_calls old (text ∷ texts) new calls =
      let others = escaped_calls calls.0 texts new calls.2 in
      let both = print_append takes old.0.now calls.0.0.now new.0.now (escape text) (escape (concat texts)) calls.1.0 others.0 in (
        subst (λ (l : List ℕ). WritesInCalls takes old.0.now l new.0.now) (sym (escape-append text (concat texts))) both,
        others.1 ∙ calls.1.1,
      )

  -- What is printed to the writer is escaped and printed to the other. `last` is what that writer, named `name`, is in the end.
  pub content_printed : (old new : Escaped T) (r : Result (Unit {0}) Error) (text : List ℕ) (name : ℕ) (last : T) → (name ≡ new.0.ghost_name → last ≡ new.0.now) → name ≡ old.0.ghost_name
      → PrintsOnOk EscapedTakes old r text new → PrintsOnOk takes old.0.now r (escape text) last
  content_printed old new r text name last tie same prints = λ ok.
      let lent = escaped_calls old (prints ok).parts new (prints ok).calls in
      subst (λ (v : T). WritesInCalls takes old.0.now (escape text) v) (sym (tie (same ∙ sym lent.1)))
      (subst (λ (l : List ℕ). WritesInCalls takes old.0.now (escape l) new.0.now) (prints ok).whole lent.0)
