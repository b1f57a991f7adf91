-- Numbers of hexadecimal digits, separated by colons.
use Rattle.std.proofs.Common.{◌≡◌, ◌∙◌, ◌≢◌, ℕ, zero, suc, ◌+◌, ◌-◌, ◌*◌, ◌/◌, ◌%◌, ◌^◌, ◌<◌, ◌≤◌, false, cond, List, [], ◌∷◌, ◌++◌, length, get_or, drop, refl, sym, ap, subst, arith, inl, inr, append-nil, length-append, ne_eqb}
use Rattle.std.specs.Prelude.{Result, Ok, Err}
use Rattle.std.specs.Char.{digit_value}
use Rattle.std.specs.Fmt.{digit_glyph}
use Rattle.std.specs.Net.Addr.{segments_of}
use Rattle.std.specs.Net.Grammar.{IsGroup, IsGroups}
use Rattle.std.specs.Result.{OkIff, result_ok}
use Rattle.std.specs.Str.Parse.{AllDigits, IsNumeral, ParsesUnsigned, digits_value, without_leading_plus}
use Rattle.std.proofs.Math.Nat.{pow-le-pow_right}
use Rattle.std.proofs.Math.Seq.{get_or-append_seam}
use Rattle.std.proofs.lemmas.Bool.{false≢true}
use Rattle.std.proofs.lemmas.Bool.Decides.{nat_tests}
use Rattle.std.proofs.lemmas.Int.Digits.{digits_value-lt}
use Rattle.hex.specs.Hex.{IsBytes}
use Rattle.fields_plain.specs.LocatorWords.{locator_text, BeginsWithGroup, IsLocatorWord}
use Rattle.fields_plain.specs.EuiTexts.{low_pair}
use Rattle.fields_text.specs.Reading.{Reads}
use Rattle.fields_plain.proofs.theory.AddressLaws.{octets_again, segment_count}

-- the digits are a number of 16 bits
by_parsed : {E : Type 0} (word : List ℕ) (r : Result ℕ E) → length word ≤ 4
    → OkIff r (IsNumeral 16 word × (digits_value 16 word < 2 ^ 16)) (digits_value 16 word) → Reads (IsGroup word) (result_ok r)
by_parsed word (Ok n) few parsed = ((parsed.0.0, sym parsed.1), few)
by_parsed word (Err e) few parsed = λ n is.
    let small = digits_value-lt 16 word is.0.0.1 in
    let most : 16 ^ length word ≤ 16 ^ 4 = pow-le-pow_right (omega arith) few in
    parsed (is.0.0, omega (arith, small, most))

no_plus : (word : List ℕ) → get_or word 0 0 ≢ 43 → without_leading_plus word ≡ word
no_plus word other = ap (λ b. drop (cond b 1 0) word) (ne_eqb (get_or word 0 0) 43 other)

-- At most four hexadecimal digits are one group.
pub group_read : {E : Type 0} (word : List ℕ) (r : Result ℕ E) → length word ≤ 4 → get_or word 0 0 ≢ 43 → ParsesUnsigned 16 16 word r
    → Reads (IsGroup word) (result_ok r)
group_read word r few other parsed =
    by_parsed word r few
    (subst (λ (digits : List ℕ). OkIff r (IsNumeral 16 digits × (digits_value 16 digits < 2 ^ 16)) (digits_value 16 digits)) (no_plus word other) parsed)

-- a text has no colon
abbrev pub NoColon : List ℕ → Type 0
NoColon text = (i : ℕ) → i < length text → get_or text i 0 ≢ 58

-- Digits have no colon.
pub digits_no_colon : (digits : List ℕ) → AllDigits 16 digits → NoColon digits
digits_no_colon [] all i h = omega arith
digits_no_colon (d ∷ digits) all zero h = λ colon.
    let first = all.0 in
    let value : digit_value d ≡ 36 = ap digit_value colon in
    omega (arith, first, value)
digits_no_colon (d ∷ digits) all (suc i) h = digits_no_colon digits all.1 i (omega arith)

-- the texts before and after the first colon
pub same_parts : (g h x y : List ℕ) → NoColon g → NoColon h → g ++ 58 ∷ x ≡ h ++ 58 ∷ y → (g ≡ h) × (x ≡ y)
same_parts [] [] x y a b e = (refl, cc)
same_parts [] (d ∷ h) x y a b e = let colon : d ≡ 58 = cc in absurd (b 0 (omega arith) colon)
same_parts (c ∷ g) [] x y a b e = let colon : c ≡ 58 = cc in absurd (a 0 (omega arith) colon)
same_parts (c ∷ g) (d ∷ h) x y a b e =
    let first : c ≡ d = cc in
    let others : g ++ 58 ∷ x ≡ h ++ 58 ∷ y = cc in
    let rest = same_parts g h x y (λ i l. a (suc i) (omega arith)) (λ i l. b (suc i) (omega arith)) others in
    let front = rest.0 in
    (cc (first, front), rest.1)

-- a text without a colon begins with no group
pub no_split : (text : List ℕ) → NoColon text → (number : ℕ) (after : List ℕ) → ¬ (BeginsWithGroup text number after)
no_split text none number after begins =
    let group = begins.0 in
    let here : get_or text (length group) 0 ≡ 58 =
    ap (λ (xs : List ℕ). get_or xs (length group) 0) begins.1 ∙ get_or-append_seam group 58 after 0 in
    none (length group) (omega (arith, ap length begins.1, length-append group (58 ∷ after))) here

-- nor does a text before whose first colon there is none
pub no_group : (text front back : List ℕ) → text ≡ front ++ 58 ∷ back → NoColon front → ((n : ℕ) → ¬ (IsGroup front n))
    → (number : ℕ) (after : List ℕ) → ¬ (BeginsWithGroup text number after)
no_group text front back whole clear none number after begins =
    let parts = same_parts begins.0 front after back (digits_no_colon begins.0 begins.2.0.0.1) clear (sym begins.1 ∙ whole) in
    none number (subst (λ (digits : List ℕ). IsGroup digits number) parts.0 begins.2)

-- a group and others
pub begins_of : (text : List ℕ) (s t : ℕ) (segments : List ℕ) → IsGroups false text (s ∷ t ∷ segments)
    → (after : List ℕ) × BeginsWithGroup text s after × IsGroups false after (t ∷ segments)
begins_of text s t segments (inr dotted) = absurd (false≢true dotted.2)
begins_of text s t segments (inl (group, rest, whole, is, inr dotted)) = absurd (false≢true dotted.2)
begins_of text s t segments (inl (group, rest, whole, is, inl (next, others, colon, is_next, more))) = (
  next ++ others,
  (group, whole ∙ ap (λ (xs : List ℕ). group ++ xs) colon, is),
  inl (next, others, refl, is_next, more),
)

-- A group before groups is one more group.
pub join : (text : List ℕ) (s t : ℕ) (after segments : List ℕ) → BeginsWithGroup text s after → IsGroups false after (t ∷ segments) → IsGroups false text (s ∷ t ∷ segments)
join text s t after segments begins (inr dotted) = absurd (false≢true dotted.2)
join text s t after segments begins (inl (next, others, whole, is_next, more)) =
    inl (begins.0, 58 ∷ after, begins.1, begins.2, inl (next, others, ap (λ (xs : List ℕ). 58 ∷ xs) whole, is_next, more))

-- Groups of one number are a group.
pub one_group : (text : List ℕ) (s : ℕ) → IsGroups false text (s ∷ []) → IsGroup text s
one_group text s (inr dotted) = absurd (false≢true dotted.2)
one_group text s (inl (group, rest, whole, is, none)) =
    subst (λ (digits : List ℕ). IsGroup digits s) (sym (whole ∙ ap (λ (xs : List ℕ). group ++ xs) none ∙ append-nil group)) is

-- A group is groups of one number.
pub as_group : (text : List ℕ) (s : ℕ) → IsGroup text s → IsGroups false text (s ∷ [])
as_group text s is = inl (text, [], sym (append-nil text), is, refl)

-- a text of n groups
abbrev pub OfGroups : ℕ → List ℕ → Type 0
OfGroups n text = (segments : List ℕ) × IsGroups false text segments × (length segments ≡ n)

-- A locator has four groups.
pub groups_of : (word octets : List ℕ) → IsLocatorWord word octets → OfGroups 4 word
groups_of word octets is = (is.0, is.1, is.2)

-- without the first group
after_first : (text after segments : List ℕ) (m n a : ℕ) → n ≡ m + 1 → 1 ≤ m → BeginsWithGroup text a after → IsGroups false text segments → length segments ≡ n
    → OfGroups m after
after_first text after [] m n a one some begins is count = absurd (omega arith)
after_first text after (s ∷ []) m n a one some begins is count = absurd (omega arith)
after_first text after (s ∷ t ∷ segments) m n a one some begins is count =
    let split = begins_of text s t segments is in
    let parts = same_parts begins.0 split.1.0 after split.0 (digits_no_colon begins.0 begins.2.0.0.1) (digits_no_colon split.1.0 split.1.2.0.0.1) (sym begins.1 ∙ split.1.1) in
    (t ∷ segments, subst (λ (xs : List ℕ). IsGroups false xs (t ∷ segments)) (sym parts.1) split.2, omega arith)

-- After the first of some groups there is one group less.
pub groups_after : (text after : List ℕ) (m n a : ℕ) → n ≡ m + 1 → 1 ≤ m → BeginsWithGroup text a after → OfGroups n text → OfGroups m after
groups_after text after m n a one some begins groups = after_first text after groups.0 m n a one some begins groups.1 groups.2

-- no group is first, or last
no_first : (text segments : List ℕ) → 2 ≤ length segments → ((number : ℕ) (after : List ℕ) → ¬ (BeginsWithGroup text number after))
    → ¬ (IsGroups false text segments)
no_first text [] many none is = omega arith
no_first text (s ∷ []) many none is = omega arith
no_first text (s ∷ t ∷ segments) many none is = let split = begins_of text s t segments is in none s split.0 split.1

-- A text that begins with no group isn't two groups or more.
pub refused : (text : List ℕ) (n : ℕ) → 2 ≤ n → ((number : ℕ) (after : List ℕ) → ¬ (BeginsWithGroup text number after)) → ¬ (OfGroups n text)
refused text n many none groups = let count = groups.2 in no_first text groups.0 (omega arith) none groups.1

no_last : (text segments : List ℕ) → length segments ≡ 1 → ((number : ℕ) → ¬ (IsGroup text number)) → ¬ (IsGroups false text segments)
no_last text [] one none is = omega arith
no_last text (s ∷ []) one none is = none s (one_group text s is)
no_last text (s ∷ t ∷ segments) one none is = omega arith

-- A text that is no group isn't one group.
pub refused_last : (text : List ℕ) → ((number : ℕ) → ¬ (IsGroup text number)) → ¬ (OfGroups 1 text)
refused_last text none groups = no_last text groups.0 groups.2 none groups.1

-- two octets as they are printed
glyph_value : (n : ℕ) → n < 16 → digit_value (digit_glyph false n) ≡ n
glyph_value n h = grind (arith, nat_tests)

pair_group : (a b : ℕ) → a < 256 → b < 256 → IsGroup (low_pair a ++ low_pair b) (a * 256 + b)
pair_group a b high low =
    let first = glyph_value (a / 16) (omega arith) in
    let second = glyph_value (a % 16) (omega arith) in
    let third = glyph_value (b / 16) (omega arith) in
    let fourth = glyph_value (b % 16) (omega arith) in
    omega arith

printed : (n : ℕ) (octets : List ℕ) → length octets ≡ 2 * n → 1 ≤ n → IsBytes octets → IsGroups false (locator_text octets) (segments_of octets)
printed n [] even some bytes = absurd (omega arith)
printed n (a ∷ []) even some bytes = absurd (omega arith)
printed n (a ∷ b ∷ []) even some bytes = as_group (low_pair a ++ low_pair b) (a * 256 + b) (pair_group a b (bytes 0) (bytes 1))
printed n (a ∷ b ∷ c ∷ []) even some bytes = absurd (omega arith)
printed n (a ∷ b ∷ c ∷ d ∷ octets) even some bytes =
    let others = printed (n - 1) (c ∷ d ∷ octets) (omega arith) (omega arith) (λ i. bytes (suc (suc i))) in
    join (locator_text (a ∷ b ∷ c ∷ d ∷ octets)) (a * 256 + b) (c * 256 + d) (locator_text (c ∷ d ∷ octets)) (segments_of octets)
    (low_pair a ++ low_pair b, refl, pair_group a b (bytes 0) (bytes 1)) others

-- a printed locator reads back
pub locators_read_back : (octets : List ℕ) → length octets ≡ 8 → IsBytes octets → IsLocatorWord (locator_text octets) octets
locators_read_back octets size bytes = (
  segments_of octets,
  printed 4 octets size (omega arith) bytes,
  segment_count 4 octets size,
  sym (octets_again 4 octets size bytes),
)
