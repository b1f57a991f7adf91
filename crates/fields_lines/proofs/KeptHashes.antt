-- The printed text of a hash has no padding, and that of a tag no quote.
use Rattle.std.proofs.Common.{◌≡◌, ◌≢◌, ℕ, zero, suc, ◌*◌, ◌/◌, ◌%◌, ◌<◌, Bool, true, false, not, List, [], ◌∷◌, ◌++◌, length, refl, sym, subst, arith}
use Rattle.std.specs.Prelude.{◌==◌, if◌then◌else◌}
use Rattle.std.specs.Char.{is_ascii_alphanumeric}
use Rattle.std.specs.Fmt.{digit_glyph}
use Rattle.std.specs.List.{list_all}
use Rattle.std.proofs.lemmas.Bool.{and_parts}
use Rattle.std.proofs.lemmas.Bool.Decides.{nat_tests}
use Rattle.fields_text.specs.Base32.{base32_digits, base32_text}
use Rattle.fields_text.specs.Number.{number_of}
use Rattle.fields_text.specs.String.{is_tag}
use Rattle.fields_lines.specs.WordTexts.{opened, unpadded, without_padding}
use Rattle.fields_lines.proofs.WordLemmas.{no_first_quote, padding_end}

-- a text without an equals sign
abbrev HasNoPadding : List ℕ → Type 0
HasNoPadding [] = Unit {0}
HasNoPadding (c ∷ text) = (c ≢ 61) × HasNoPadding text

both_unpadded : (first second : List ℕ) → HasNoPadding first → HasNoPadding second → HasNoPadding (first ++ second)
both_unpadded [] second h g = g
both_unpadded (c ∷ first) second h g = (h.0, both_unpadded first second h.1 g)

glyph_unpadded : (d : ℕ) → d < 32 → digit_glyph true d ≢ 61
glyph_unpadded d small e = grind (arith, nat_tests)

digits_unpadded : (count number : ℕ) → HasNoPadding (base32_digits count number)
unfolding base32_digits
digits_unpadded zero number = tt
digits_unpadded (suc count) number =
    both_unpadded (base32_digits count (number / 32)) (digit_glyph true (number % 32) ∷ []) (digits_unpadded count (number / 32)) (glyph_unpadded (number % 32) (omega arith), tt)

text_unpadded : (octets : List ℕ) → HasNoPadding (base32_text octets)
text_unpadded [] = tt
text_unpadded (a ∷ []) = digits_unpadded 2 (number_of (a ∷ []) * 4)
text_unpadded (a ∷ b ∷ []) = digits_unpadded 4 (number_of (a ∷ b ∷ []) * 16)
text_unpadded (a ∷ b ∷ c ∷ []) = digits_unpadded 5 (number_of (a ∷ b ∷ c ∷ []) * 2)
text_unpadded (a ∷ b ∷ c ∷ d ∷ []) = digits_unpadded 7 (number_of (a ∷ b ∷ c ∷ d ∷ []) * 8)
text_unpadded (a ∷ b ∷ c ∷ d ∷ e ∷ octets) =
    both_unpadded (base32_digits 8 (number_of (a ∷ b ∷ c ∷ d ∷ e ∷ []))) (base32_text octets) (digits_unpadded 8 (number_of (a ∷ b ∷ c ∷ d ∷ e ∷ []))) (text_unpadded octets)

not_padded : (text front : List ℕ) → HasNoPadding text → text ≢ front ++ 61 ∷ []
not_padded [] [] h e = absurd (cc e)
not_padded [] (d ∷ front) h e = absurd (cc e)
not_padded (c ∷ text) [] h e = let first : c ≡ 61 = cc e in h.0 first
not_padded (c ∷ text) (d ∷ front) h e = let rest : text ≡ front ++ 61 ∷ [] = cc e in not_padded text front h.1 rest

either_same : (b : Bool) (x y : List ℕ) → x ≡ y → (if b then x else y) ≡ y
either_same true x y e = e
either_same false x y e = refl

-- The text of a hash stays as it is.
pub hash_complete : (octets : List ℕ) → unpadded (base32_text octets) ≡ base32_text octets
hash_complete octets =
    let text = base32_text octets in
    either_same (length text % 8 == 0) (without_padding text) text (sym (padding_end text (λ front. not_padded text front (text_unpadded octets))))

-- A tag stays as it is.
pub tag_complete : (tag : List ℕ) → is_tag tag ≡ true → opened tag ≡ tag
tag_complete tag is = sym (no_first_quote tag unquoted) where
  unquoted : (rest : List ℕ) → tag ≢ 34 ∷ rest
  unquoted rest e =
      let quoted : is_tag (34 ∷ rest) ≡ true = subst (λ (text : List ℕ). is_tag text ≡ true) e is in
      let first : false ≡ true = (and_parts (not (length (34 ∷ rest) == 0)) (list_all is_ascii_alphanumeric (34 ∷ rest)) quoted).1 in
      absurd (cc first)
