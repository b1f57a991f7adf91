-- Texts of words without spaces, each after a space.
use Rattle.std.proofs.Common.{◌≡◌, ◌∙◌, ◌≢◌, ℕ, zero, suc, ◌+◌, ◌*◌, ◌/◌, ◌%◌, ◌<◌, ◌^◌, ◌≤◌, ◌==◌, Bool, true, false, List, [], ◌∷◌, ◌++◌, length, replicate, decimal, refl, sym, ap, subst, arith, inl, inr, eq-eqb}
use Rattle.std.specs.Prelude.{All, codes, slice_index, not, ◌&&◌}
use Rattle.std.specs.Borrow.{Bor}
use Rattle.std.specs.Char.{digit_value}
use Rattle.std.specs.Fmt.{digit_glyph}
use Rattle.std.specs.List.{flat_map}
use Rattle.std.specs.Net.Grammar.{IsColonHex, IsDotted, IsGroupsAfter}
use Rattle.std.specs.Str.Parse.{AllDigits}
use Rattle.std.proofs.lemmas.Bool.{and_parts, false≢true}
use Rattle.std.proofs.lemmas.Bool.Decides.{nat_tests}
use Rattle.std.proofs.lemmas.Fmt.{decimal_is_IsNumeral}
use Rattle.std.proofs.lemmas.List.Elements.{All-append, All-cons, All-head, All-nil, All-replicate, All-tail}
use Rattle.base64.specs.Engines.{standard}
use Rattle.base64.specs.GeneralPurpose.{encode_of}
use Rattle.base64.specs.Rfc4648.{encode, encode_group, encode_symbols, padding_len}
use Rattle.dns_name.specs.NameTexts.{backslash, decimal_text, is_graphic}
use Rattle.fields_text.specs.Hex.{hex_pair, hex_text}
use Rattle.fields_text.specs.PrintedWords.{HasNoSpace}

-- A character that is no space.
abbrev pub NotSpace : ℕ → Type 0
NotSpace octet = octet ≢ 32

-- one octet, and others after it
pub one_clear : (x : ℕ) → NotSpace x → HasNoSpace (x ∷ [])
one_clear x h = All-cons NotSpace x [] h (All-nil NotSpace)

-- Two texts without a space have none together.
pub both_clear : (xs ys : List ℕ) → HasNoSpace xs → HasNoSpace ys → HasNoSpace (xs ++ ys)
both_clear xs ys a b = All-append NotSpace xs ys a b

-- digits
pub digits_clear : (radix : ℕ) (digits : List ℕ) → radix ≤ 36 → AllDigits radix digits → HasNoSpace digits
digits_clear radix [] small all = All-nil NotSpace
digits_clear radix (d ∷ digits) small all =
    All-cons NotSpace d digits
    (λ space.
    let first = all.0 in
    let value : digit_value d ≡ 36 = ap digit_value space in
    omega (arith, first, value))
    (digits_clear radix digits small all.1)

-- A decimal number has no space.
pub decimal_clear : (n : ℕ) → n < 2 ^ 64 → HasNoSpace (decimal n)
decimal_clear n small = digits_clear 10 (decimal n) (omega arith) (decimal_is_IsNumeral n small).0.1

-- addresses
pub dot_clear : HasNoSpace (codes ".")
dot_clear = one_clear 46 (λ e. omega arith)

colon_clear : HasNoSpace (codes ":")
colon_clear = one_clear 58 (λ e. omega arith)

-- The text of an IPv4 address has no space.
pub dotted_clear : (text octets : List ℕ) → IsDotted text octets → HasNoSpace text
dotted_clear text octets is =
    subst HasNoSpace (sym is.spelled)
    (both_clear (decimal is.a ++ codes "." ++ decimal is.b ++ codes "." ++ decimal is.c ++ codes ".") (decimal is.d)
    (both_clear (decimal is.a ++ codes "." ++ decimal is.b ++ codes "." ++ decimal is.c) (codes ".")
    (both_clear (decimal is.a ++ codes "." ++ decimal is.b ++ codes ".") (decimal is.c)
    (both_clear (decimal is.a ++ codes "." ++ decimal is.b) (codes ".")
    (both_clear (decimal is.a ++ codes ".") (decimal is.b)
    (both_clear (decimal is.a) (codes ".") (decimal_clear is.a (omega (arith, is.fit.0))) dot_clear)
    (decimal_clear is.b (omega (arith, is.fit.1)))) dot_clear)
    (decimal_clear is.c (omega (arith, is.fit.2)))) dot_clear)
    (decimal_clear is.d (omega (arith, is.fit.3))))

groups_clear : (ipv4 : Bool) (lead text segments : List ℕ) → HasNoSpace lead → IsGroupsAfter ipv4 lead text segments → HasNoSpace text
groups_clear ipv4 lead text [] clear is = subst HasNoSpace (sym is) (All-nil NotSpace)
groups_clear ipv4 lead text (s ∷ segments) clear (inl (group, rest, e, is, others)) =
    subst HasNoSpace (sym e)
    (both_clear (lead ++ group) rest (both_clear lead group clear (digits_clear 16 group (omega arith) is.0.0.1)) (groups_clear ipv4 (codes ":") rest segments colon_clear others))
groups_clear ipv4 lead text (s ∷ segments) clear (inr (last, octets, t, e, is, same)) =
    subst HasNoSpace (sym e) (both_clear lead last clear (dotted_clear last octets is))

-- The text of an IPv6 address has no space.
pub colon_hex_clear : (text segments : List ℕ) → IsColonHex text segments → HasNoSpace text
colon_hex_clear text segments (inl is) = groups_clear true [] text segments (All-nil NotSpace) is.0
colon_hex_clear text segments (inr is) =
    subst HasNoSpace (sym is.spelled)
    (both_clear (is.head_text ++ codes "::") is.tail_text
    (both_clear is.head_text (codes "::") (groups_clear false [] is.head_text is.head (All-nil NotSpace) is.head_groups) (both_clear (codes ":") (codes ":") colon_clear colon_clear))
    (groups_clear true [] is.tail_text is.tail (All-nil NotSpace) is.tail_groups))

-- A graphic character is no space.
pub graphic_clear : (o : ℕ) → is_graphic o ≡ true → NotSpace o
graphic_clear o h = grind (arith, nat_tests)

-- Three digits have no space.
pub decimal_text_clear : (o : ℕ) → HasNoSpace (decimal_text o)
decimal_text_clear o =
    All-cons NotSpace backslash ((48 + o / 100) ∷ (48 + o / 10 % 10) ∷ (48 + o % 10) ∷ []) (λ e. omega arith)
    (All-cons NotSpace (48 + o / 100) ((48 + o / 10 % 10) ∷ (48 + o % 10) ∷ []) (λ e. omega (arith, e))
    (All-cons NotSpace (48 + o / 10 % 10) ((48 + o % 10) ∷ []) (λ e. omega (arith, e)) (one_clear (48 + o % 10) (λ e. omega (arith, e)))))

-- digits of octets
glyph_clear : (d : ℕ) → NotSpace (digit_glyph true d)
glyph_clear d = λ e. grind (arith, nat_tests)

-- Hexadecimal digits have no space.
pub hex_clear : (octets : List ℕ) → HasNoSpace (hex_text octets)
hex_clear [] = All-nil NotSpace
hex_clear (o ∷ octets) =
    both_clear (hex_pair o) (hex_text octets)
    (All-cons NotSpace (digit_glyph true (o / 16)) (digit_glyph true (o % 16) ∷ []) (glyph_clear (o / 16)) (one_clear (digit_glyph true (o % 16)) (glyph_clear (o % 16)))) (hex_clear octets)

-- base64
abbrev Alphabet : List ℕ → Type 0
Alphabet t = (i : ℕ) → NotSpace (slice_index t i)

two_clear : (t : List ℕ) (i j : ℕ) → Alphabet t → HasNoSpace (slice_index t i ∷ slice_index t j ∷ [])
two_clear t i j h = All-cons NotSpace (slice_index t i) (slice_index t j ∷ []) (h i) (one_clear (slice_index t j) (h j))

symbols_clear : (t octets : List ℕ) → Alphabet t → HasNoSpace (encode_symbols t octets)
unfolding encode_symbols
symbols_clear t [] h = All-nil NotSpace
symbols_clear t (a ∷ []) h = two_clear t (a / 4) (a % 4 * 16) h
symbols_clear t (a ∷ b ∷ []) h =
    All-cons NotSpace (slice_index t (a / 4)) (slice_index t (a % 4 * 16 + b / 16) ∷ slice_index t (b % 16 * 4) ∷ []) (h (a / 4)) (two_clear t (a % 4 * 16 + b / 16) (b % 16 * 4) h)
symbols_clear t (a ∷ b ∷ c ∷ rest) h =
    both_clear (encode_group t a b c) (encode_symbols t rest)
    (both_clear (slice_index t (a / 4) ∷ slice_index t (a % 4 * 16 + b / 16) ∷ []) (slice_index t (b % 16 * 4 + c / 64) ∷ slice_index t (c % 64) ∷ [])
    (two_clear t (a / 4) (a % 4 * 16 + b / 16) h) (two_clear t (b % 16 * 4 + c / 64) (c % 64) h))
    (symbols_clear t rest h)

is_clear : List ℕ → Bool
is_clear [] = true
is_clear (x ∷ xs) = not (x == 32) && is_clear xs

not_space : (x : ℕ) → not (x == 32) ≡ true → NotSpace x
not_space x h = λ e. false≢true (sym (ap not (eq-eqb x 32 e)) ∙ h)

by_test : (t : List ℕ) → is_clear t ≡ true → Alphabet t
unfolding is_clear
by_test [] h i = λ e. omega arith
by_test (x ∷ t) h zero = not_space x (and_parts (not (x == 32)) (is_clear t) h).0
by_test (x ∷ t) h (suc i) = by_test t (and_parts (not (x == 32)) (is_clear t) h).1 i

standard_clear : Alphabet standard.encode_table
unfolding is_clear
standard_clear = by_test standard.encode_table refl

encode_clear : (t : List ℕ) (pad : ℕ) (padding : Bool) (octets : List ℕ) → Alphabet t → NotSpace pad → HasNoSpace (encode t pad padding octets)
encode_clear t pad true octets h p =
    both_clear (encode_symbols t octets) (replicate (padding_len (length octets)) pad) (symbols_clear t octets h) (All-replicate NotSpace (padding_len (length octets)) pad p)
encode_clear t pad false octets h p = both_clear (encode_symbols t octets) [] (symbols_clear t octets h) (All-nil NotSpace)

-- Base64 has no space.
pub base64_clear : (octets : List ℕ) → HasNoSpace (encode_of standard octets)
base64_clear octets = encode_clear standard.encode_table standard.padding.value standard.config.encode_padding octets standard_clear (λ e. omega arith)

-- A text that is empty or begins with a space.
abbrev pub BeginsWithSpace : List ℕ → Type 0
BeginsWithSpace [] = Unit {0}
BeginsWithSpace (x ∷ xs) = x ≡ 32

-- the text before the first space
same_words : (x y u v : List ℕ) → HasNoSpace x → HasNoSpace y → BeginsWithSpace u → BeginsWithSpace v → x ++ u ≡ y ++ v → (x ≡ y) × (u ≡ v)
same_words [] [] u v a b c d e = (refl, e)
same_words [] (q ∷ y) [] v a b c d e = absurd (cc)
same_words [] (q ∷ y) (p ∷ u) v a b c d e = let same : q ≡ p = cc in absurd (All-head NotSpace q y b (same ∙ c))
same_words (p ∷ x) [] u [] a b c d e = absurd (cc)
same_words (p ∷ x) [] u (q ∷ v) a b c d e = let same : p ≡ q = cc in absurd (All-head NotSpace p x a (same ∙ d))
same_words (p ∷ x) (q ∷ y) u v a b c d e =
    let first : p ≡ q = cc in
    let others : x ++ u ≡ y ++ v = cc in
    let rest = same_words x y u v (All-tail NotSpace p x a) (All-tail NotSpace q y b) c d others in
    let front = rest.0 in
    (cc (first, front), rest.1)

-- words, each after a space
abbrev pub texts : List (Bor (List ℕ)) → List ℕ
texts words = flat_map (λ word. codes " " ++ word.now) words

-- Words without a space.
abbrev pub Separate : List (Bor (List ℕ)) → Type 0
Separate words = All (λ word. HasNoSpace word.now) words

texts_begin : (words : List (Bor (List ℕ))) → BeginsWithSpace (texts words)
texts_begin [] = tt
texts_begin (word ∷ words) = refl

-- the first of the words, and the others
pub record Taken (word rest : List ℕ) (words : List (Bor (List ℕ))) : Type 0 where
  pub first : Bor (List ℕ)
  pub others : List (Bor (List ℕ))
  pub whole : words ≡ first ∷ others
  pub same : word ≡ first.now
  pub rest_is : rest ≡ texts others
  pub separate : Separate others

-- A text without a space, up to a space or the end, is the first word.
pub taken : (word rest : List ℕ) (words : List (Bor (List ℕ))) → HasNoSpace word → BeginsWithSpace rest → 32 ∷ (word ++ rest) ≡ texts words → Separate words → Taken word rest words
taken word rest [] a b e c = absurd (cc)
taken word rest (first ∷ others) a b e c =
    let own : word ++ rest ≡ first.now ++ texts others = cc in
    let same = same_words word first.now rest (texts others) a (All-head (λ w. HasNoSpace w.now) first others c) b (texts_begin others) own in
    record {
      first = first;
      others = others;
      whole = refl;
      same = same.0;
      rest_is = same.1;
      separate = All-tail (λ w. HasNoSpace w.now) first others c;
    }

-- no words
pub no_words : (words : List (Bor (List ℕ))) → [] ≡ texts words → words ≡ []
no_words [] e = refl
no_words (word ∷ words) e = absurd (cc)
