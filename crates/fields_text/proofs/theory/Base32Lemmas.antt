-- Digits and octets of base32.
use Rattle.std.proofs.Common.{lit<, ◌≡◌, ◌∙◌, ◌≢◌, ℕ, zero, suc, ◌+◌, ◌-◌, ◌*◌, ◌/◌, ◌%◌, ◌^◌, ◌<◌, ◌≤◌, ◌↔◌, Bool, true, false, List, [], ◌∷◌, ◌++◌, length, take, drop, get_or, refl, sym, ap, subst, arith, inl, inr, add-one, append-nil, length-append, take-append-drop, append_assoc, length-take-le, length-drop}
use Rattle.std.specs.Prelude.{◌==◌, if◌then◌else◌, IsTrue, is_some, Option, Some, None, MatchOption, Result, Ok, Err, OnOk, IfErr, fold}
use Rattle.std.specs.Char.{to_ascii_uppercase}
use Rattle.std.specs.Fmt.{digit_glyph}
use Rattle.std.specs.Str.{str_to_ascii_uppercase}
use Rattle.std.proofs.Math.Nat.{pow-suc, mul-mod_left}
use Rattle.std.proofs.Math.Seq.{get_or-append_seam, take-append_seam}
use Rattle.std.proofs.lemmas.Bool.{cases_lt, eqb-true}
use Rattle.std.proofs.lemmas.Bool.Decides.{nat_tests}
use Rattle.std.proofs.lemmas.Grind.{fold-append}
use Rattle.std.proofs.lemmas.List.{get_or_append_left, get_or-map, length-map, map-append, take_more, take-map, append_cancel_left}
use Rattle.hex.specs.Hex.{IsBytes}
use Rattle.fields_text.specs.Base32.{base32_digits, base32_text}
use Rattle.fields_text.specs.Number.{number_of}
use Rattle.fields_text.specs.Base32Words.{AppendsBase32, IsBase32, IsDigits, IsGroupSize, last_octets}
use Rattle.fields_text.specs.Reading.{HasValue}
use Rattle.fields_text.specs.declared.text_error.TextError.{TextError}
use Rattle.fields_text.specs.declared.text_error.TextError.TheVariants.{OutOfMemory}
use Rattle.fields_text.proofs.theory.ByteLemmas.{bytes_append, bytes_more}

-- digits of a number: how many they are
digits_length : (count n : ℕ) → length (base32_digits count n) ≡ count
unfolding base32_digits
digits_length zero n = refl
digits_length (suc count) n =
    let others = digits_length count (n / 32) in
    omega (arith, length-append (base32_digits count (n / 32)) (digit_glyph true (n % 32) ∷ []), others)

-- one digit more
pub digits_more : (count n : ℕ) → base32_digits (count + 1) n ≡ base32_digits count (n / 32) ++ digit_glyph true (n % 32) ∷ []
unfolding base32_digits
digits_more count n = let one : count + 1 ≡ suc count = omega arith in ap (λ k. base32_digits k n) one

-- No digits are those of no bits.
pub digits_none : base32_digits 0 0 ≡ []
unfolding base32_digits
digits_none = refl

-- each of them is a digit
digit_there : (count n k : ℕ) → k < count → (m : ℕ) × (m < 32) × (get_or (base32_digits count n) k 0 ≡ digit_glyph true m)
unfolding base32_digits
digit_there zero n k h = absurd (omega arith)
digit_there (suc count) n k h =
    let size = digits_length count (n / 32) in
    elim (cases_lt k count) [
      | inl before ↦ (let rest = digit_there count (n / 32) k before in
          (rest.0, rest.1, get_or_append_left (base32_digits count (n / 32)) (digit_glyph true (n % 32) ∷ []) 0 k (omega (arith, size, before)) ∙ rest.2))
      | inr last ↦ (let same : k ≡ length (base32_digits count (n / 32)) = omega (arith, size, last) in (
        n % 32,
        omega arith,
        ap (λ i. get_or (base32_digits count (n / 32) ++ digit_glyph true (n % 32) ∷ []) i 0) same ∙ get_or-append_seam (base32_digits count (n / 32)) (digit_glyph true (n % 32)) [] 0,
      ))
    ]

-- an octet is no digit
pub no_digit : (digits : List ℕ) (i n : ℕ) → i < length digits → ((m : ℕ) → m < 32 → ¬ (to_ascii_uppercase (get_or digits i 0) ≡ digit_glyph true m)) → ¬ (IsDigits digits n)
no_digit digits i n h none is =
    let there = digit_there (length digits) n i h in
    none there.0 there.1 (sym (get_or-map to_ascii_uppercase digits i 0 0 h) ∙ ap (λ (xs : List ℕ). get_or xs i 0) is.1 ∙ there.2)

-- a digit more is read
module _ (digits : List ℕ) (i number value : ℕ) (there : i < length digits) (small : number < 32 ^ i) (digit : value < 32) where
  -- A number below a power of 32, with one more digit, is below the next power.
  pub small_more : number * 32 + value < 32 ^ (i + 1)
  small_more =
      let power : 32 ^ (i + 1) ≡ 32 ^ i * 32 = ap (λ k. 32 ^ k) (add-one i) ∙ pow-suc 32 i in
      omega arith

  -- If the digits before an index are those of a number, those up to the next index are those of this number with one digit more.
  pub text_more : str_to_ascii_uppercase (take i digits) ≡ base32_digits i number → to_ascii_uppercase (get_or digits i 0) ≡ digit_glyph true value
      → str_to_ascii_uppercase (take (i + 1) digits) ≡ base32_digits (i + 1) (number * 32 + value)
  text_more text glyph =
      let high : number ≡ (number * 32 + value) / 32 = omega arith in
      let low : value ≡ (number * 32 + value) % 32 = omega arith in
      ap str_to_ascii_uppercase (take_more digits i 0 there)
      ∙ map-append to_ascii_uppercase (take i digits) (get_or digits i 0 ∷ [])
      ∙ ap (λ (xs : List ℕ). xs ++ to_ascii_uppercase (get_or digits i 0) ∷ []) (text ∙ ap (base32_digits i) high)
      ∙ ap (λ (d : ℕ). base32_digits i ((number * 32 + value) / 32) ++ d ∷ []) (glyph ∙ ap (digit_glyph true) low)
      ∙ sym (digits_more i (number * 32 + value))

-- lists with a last number
snoc_same : (xs ys : List ℕ) (a b : ℕ) → xs ++ a ∷ [] ≡ ys ++ b ∷ [] → (xs ≡ ys) × (a ≡ b)
snoc_same [] [] a b e = let same : a ≡ b = cc in (refl, same)
snoc_same [] (y ∷ ys) a b e = absurd (omega (arith, ap length e, length-append ys (b ∷ [])))
snoc_same (x ∷ xs) [] a b e = absurd (omega (arith, ap length e, length-append xs (a ∷ [])))
snoc_same (x ∷ xs) (y ∷ ys) a b e =
    let rest = snoc_same xs ys a b (cc e) in
    let first : x ≡ y = cc e in
    let others = rest.0 in
    (cc (first, others), rest.1)

glyph_same : (m n : ℕ) → m < 32 → n < 32 → digit_glyph true m ≡ digit_glyph true n → m ≡ n
glyph_same m n a b e = grind (arith, nat_tests)

-- digits are those of one number
digits_same : (count m n : ℕ) → m < 32 ^ count → n < 32 ^ count → base32_digits count m ≡ base32_digits count n → m ≡ n
unfolding base32_digits
digits_same zero m n a b e = omega arith
digits_same (suc count) m n a b e =
    let power = pow-suc 32 count in
    let parts = snoc_same (base32_digits count (m / 32)) (base32_digits count (n / 32)) _ _ e in
    let high = digits_same count (m / 32) (n / 32) (omega (arith, a, power)) (omega (arith, b, power)) parts.0 in
    let low = glyph_same (m % 32) (n % 32) (omega arith) (omega arith) parts.1 in
    omega (arith, high, low)

-- the last octets of a number
pub last_none : (n : ℕ) → last_octets 0 n ≡ []
unfolding last_octets
last_none n = refl

-- The last octets of a number are those of the number without its last octet, and that octet.
pub last_more : (count n : ℕ) → 0 < count → last_octets count n ≡ last_octets (count - 1) (n / 256) ++ (n % 256) ∷ []
unfolding last_octets
last_more zero n some = absurd (omega arith)
last_more (suc count) n some = let same : count ≡ suc count - 1 = omega arith in ap (λ k. last_octets k (n / 256) ++ (n % 256) ∷ []) same

last_bytes : (count n : ℕ) → IsBytes (last_octets count n)
unfolding last_octets
last_bytes zero n = λ i. omega arith
last_bytes (suc count) n = bytes_more (last_octets count (n / 256)) (n % 256) (last_bytes count (n / 256)) (omega arith)

last_number : (count n : ℕ) → n < 256 ^ count → number_of (last_octets count n) ≡ n
unfolding last_octets
last_number zero n small = omega arith
last_number (suc count) n small =
    let power = pow-suc 256 count in
    let others = last_number count (n / 256) (omega (arith, small, power)) in
    let whole : number_of (last_octets count (n / 256) ++ (n % 256) ∷ []) ≡ number_of (last_octets count (n / 256)) * 256 + n % 256 =
    fold-append (λ (high octet : ℕ). high * 256 + octet) 0 (last_octets count (n / 256)) ((n % 256) ∷ []) in
    omega (arith, others, whole)

-- the octets of digits
group_is : (digits octets : List ℕ) (spare count number k : ℕ) → length digits ≡ count → IsDigits digits number → IsBytes octets
    → base32_text octets ≡ base32_digits count (number_of octets * spare) → number_of octets ≡ k → number ≡ k * spare → IsBase32 digits octets
group_is digits octets spare count number k sized is bytes text value whole =
    let same : number ≡ number_of octets * spare = whole ∙ ap (λ n. n * spare) (sym value) in
    (bytes, is.1 ∙ ap (λ c. base32_digits c number) sized ∙ ap (base32_digits count) same ∙ sym text)

-- a number of digits is small
bounded : (digits : List ℕ) (count number : ℕ) → length digits ≡ count → IsDigits digits number → number < 32 ^ count
bounded digits count number sized is = subst (λ k. number < 32 ^ k) sized is.0

-- a group of this size and with these spare bits
as_group : (digits : List ℕ) (number size spare s p : ℕ) → size ≡ s → spare ≡ p → number % spare ≡ 0
    → (number % p ≡ 0 → IsBase32 digits (last_octets s (number / p))) → IsBase32 digits (last_octets size (number / spare))
as_group digits number size spare s p same_size same_spare rest read =
    subst (λ k. IsBase32 digits (last_octets k (number / spare))) (sym same_size)
    (subst (λ k. IsBase32 digits (last_octets s (number / k))) (sym same_spare) (read (subst (λ k. number % k ≡ 0) same_spare rest)))

-- A group of digits whose spare bits are zero is its octets.
pub group_read : (digits : List ℕ) (number size spare : ℕ) → IsGroupSize (length digits) size spare → IsDigits digits number → number % spare ≡ 0
    → IsBase32 digits (last_octets size (number / spare))
unfolding last_octets
group_read digits number size spare (inl group) is rest =
    let small = bounded digits 2 number group.0 is in
    as_group digits number size spare 1 4 group.1 group.2 rest
    (λ none. group_is digits (last_octets 1 (number / 4)) 4 2 number (number / 4) group.0 is (last_bytes 1 (number / 4)) refl (last_number 1 (number / 4) (omega arith)) (omega arith))
group_read digits number size spare (inr (inl group)) is rest =
    let small = bounded digits 4 number group.0 is in
    as_group digits number size spare 2 16 group.1 group.2 rest
    (λ none. group_is digits (last_octets 2 (number / 16)) 16 4 number (number / 16) group.0 is (last_bytes 2 (number / 16)) refl (last_number 2 (number / 16) (omega arith)) (omega arith))
group_read digits number size spare (inr (inr (inl group))) is rest =
    let small = bounded digits 5 number group.0 is in
    as_group digits number size spare 3 2 group.1 group.2 rest
    (λ none. group_is digits (last_octets 3 (number / 2)) 2 5 number (number / 2) group.0 is (last_bytes 3 (number / 2)) refl (last_number 3 (number / 2) (omega arith)) (omega arith))
group_read digits number size spare (inr (inr (inr (inl group)))) is rest =
    let small = bounded digits 7 number group.0 is in
    as_group digits number size spare 4 8 group.1 group.2 rest
    (λ none. group_is digits (last_octets 4 (number / 8)) 8 7 number (number / 8) group.0 is (last_bytes 4 (number / 8)) refl (last_number 4 (number / 8) (omega arith)) (omega arith))
group_read digits number size spare (inr (inr (inr (inr group)))) is rest =
    let small = bounded digits 8 number group.0 is in
    as_group digits number size spare 5 1 group.1 group.2 rest
    (λ none. group_is digits (last_octets 5 (number / 1)) 1 8 number (number / 1) group.0 is (last_bytes 5 (number / 1)) (whole_text (number / 1))
    (last_number 5 (number / 1) (omega arith)) (omega arith)) where
      whole_text : (n : ℕ) → base32_text (last_octets 5 n) ≡ base32_digits 8 (number_of (last_octets 5 n) * 1)
      whole_text n =
          append-nil (base32_digits 8 (number_of (last_octets 5 n)))
          ∙ ap (base32_digits 8) (let once : number_of (last_octets 5 n) ≡ number_of (last_octets 5 n) * 1 = omega arith in once)

-- some octets have digits
text_some : (f : ℕ) (octets : List ℕ) → 0 < length (base32_text (f ∷ octets))
text_some f [] = omega (arith, digits_length 2 (number_of (f ∷ []) * 4))
text_some f (g ∷ []) = omega (arith, digits_length 4 (number_of (f ∷ g ∷ []) * 16))
text_some f (g ∷ h ∷ []) = omega (arith, digits_length 5 (number_of (f ∷ g ∷ h ∷ []) * 2))
text_some f (g ∷ h ∷ i ∷ []) = omega (arith, digits_length 7 (number_of (f ∷ g ∷ h ∷ i ∷ []) * 8))
text_some f (g ∷ h ∷ i ∷ j ∷ octets) =
    let first = digits_length 8 (number_of (f ∷ g ∷ h ∷ i ∷ j ∷ [])) in
    omega (arith, first, length-append (base32_digits 8 (number_of (f ∷ g ∷ h ∷ i ∷ j ∷ []))) (base32_text octets))

-- the size of the group that octets of at most eight digits are, and their number
record Shape (digits octets : List ℕ) : Type 0 where
  size : ℕ
  spare : ℕ
  group : IsGroupSize (length digits) size spare
  sized : length octets ≡ size
  is : IsDigits digits (number_of octets * spare)

shape_of : (digits octets : List ℕ) (count size spare : ℕ) → IsGroupSize count size spare → length octets ≡ size → number_of octets * spare < 32 ^ count
    → str_to_ascii_uppercase digits ≡ base32_digits count (number_of octets * spare) → Shape digits octets
shape_of digits octets count size spare group sized small text =
    let same : length digits ≡ count = sym (length-map digits to_ascii_uppercase) ∙ ap length text ∙ digits_length count (number_of octets * spare) in
    record {
      size = size;
      spare = spare;
      group = subst (λ k. IsGroupSize k size spare) (sym same) group;
      sized = sized;
      is = (subst (λ k. number_of octets * spare < 32 ^ k) (sym same) small, text ∙ ap (λ k. base32_digits k (number_of octets * spare)) (sym same));
    }

shape : (digits octets : List ℕ) → 0 < length digits → length digits ≤ 8 → IsBase32 digits octets → Shape digits octets
shape digits [] some few is = absurd (omega (arith, length-map digits to_ascii_uppercase, ap length is.1))
shape digits (a ∷ []) some few is =
    let first = is.0 0 in
    shape_of digits (a ∷ []) 2 1 4 (inl (refl, refl, refl)) refl (omega (arith, first)) is.1
shape digits (a ∷ b ∷ []) some few is =
    let first = is.0 0 in let second = is.0 1 in
    shape_of digits (a ∷ b ∷ []) 4 2 16 (inr (inl (refl, refl, refl))) refl (omega (arith, first, second)) is.1
shape digits (a ∷ b ∷ c ∷ []) some few is =
    let first = is.0 0 in let second = is.0 1 in let third = is.0 2 in
    shape_of digits (a ∷ b ∷ c ∷ []) 5 3 2 (inr (inr (inl (refl, refl, refl)))) refl (omega (arith, first, second, third)) is.1
shape digits (a ∷ b ∷ c ∷ d ∷ []) some few is =
    let first = is.0 0 in let second = is.0 1 in let third = is.0 2 in let fourth = is.0 3 in
    shape_of digits (a ∷ b ∷ c ∷ d ∷ []) 7 4 8 (inr (inr (inr (inl (refl, refl, refl))))) refl (omega (arith, first, second, third, fourth)) is.1
shape digits (a ∷ b ∷ c ∷ d ∷ e ∷ []) some few is =
    let first = is.0 0 in let second = is.0 1 in let third = is.0 2 in let fourth = is.0 3 in let fifth = is.0 4 in
    let once : number_of (a ∷ b ∷ c ∷ d ∷ e ∷ []) ≡ number_of (a ∷ b ∷ c ∷ d ∷ e ∷ []) * 1 = omega arith in
    shape_of digits (a ∷ b ∷ c ∷ d ∷ e ∷ []) 8 5 1 (inr (inr (inr (inr (refl, refl, refl))))) refl (omega (arith, first, second, third, fourth, fifth))
    (is.1 ∙ append-nil (base32_digits 8 (number_of (a ∷ b ∷ c ∷ d ∷ e ∷ []))) ∙ ap (base32_digits 8) once)
shape digits (a ∷ b ∷ c ∷ d ∷ e ∷ f ∷ octets) some few is =
    let first = digits_length 8 (number_of (a ∷ b ∷ c ∷ d ∷ e ∷ [])) in
    let more = text_some f octets in
    absurd (omega (arith, first, more, length-map digits to_ascii_uppercase, ap length is.1, length-append (base32_digits 8 (number_of (a ∷ b ∷ c ∷ d ∷ e ∷ []))) (base32_text (f ∷ octets))))

-- the spare bits of a number of digits
abbrev spare_at : ℕ → ℕ
spare_at n = if n == 2 then 4 else if n == 4 then 16 else if n == 5 then 2 else if n == 7 then 8 else 1

spare_is : (n size spare : ℕ) → IsGroupSize n size spare → spare ≡ spare_at n
spare_is n size spare (inl group) = group.2 ∙ sym (ap spare_at group.0)
spare_is n size spare (inr (inl group)) = group.2 ∙ sym (ap spare_at group.0)
spare_is n size spare (inr (inr (inl group))) = group.2 ∙ sym (ap spare_at group.0)
spare_is n size spare (inr (inr (inr (inl group)))) = group.2 ∙ sym (ap spare_at group.0)
spare_is n size spare (inr (inr (inr (inr group)))) = group.2 ∙ sym (ap spare_at group.0)

-- eight digits are five octets
five_octets : (n size spare : ℕ) → n ≡ 8 → IsGroupSize n size spare → size ≡ 5
five_octets n size spare eight (inl group) = let n_is = group.0 in absurd (omega arith)
five_octets n size spare eight (inr (inl group)) = let n_is = group.0 in absurd (omega arith)
five_octets n size spare eight (inr (inr (inl group))) = let n_is = group.0 in absurd (omega arith)
five_octets n size spare eight (inr (inr (inr (inl group)))) = let n_is = group.0 in absurd (omega arith)
five_octets n size spare eight (inr (inr (inr (inr group)))) = group.1

-- digits of at most eight that represent no octets
module _ (digits octets : List ℕ) (some : 0 < length digits) (few : length digits ≤ 8) where
  -- At most eight digits represent no octets if no group of octets has as many digits.
  pub no_size : ((size spare : ℕ) → ¬ (IsGroupSize (length digits) size spare)) → ¬ (IsBase32 digits octets)
  no_size none is = let s = shape digits octets some few is in none s.size s.spare s.group

  -- At most eight digits represent no octets if they are no number's digits.
  pub no_number : ((n : ℕ) → ¬ (IsDigits digits n)) → ¬ (IsBase32 digits octets)
  no_number none is = let s = shape digits octets some few is in none (number_of octets * s.spare) s.is

  -- At most eight digits represent no octets if their number has spare bits that aren't zero.
  pub bits_left : (number size spare : ℕ) → IsGroupSize (length digits) size spare → IsDigits digits number → number % spare ≢ 0 → ¬ (IsBase32 digits octets)
  bits_left number size spare group given left is =
      let s = shape digits octets some few is in
      let same = digits_same (length digits) number (number_of octets * s.spare) given.0 s.is.0 (sym given.1 ∙ s.is.1) in
      let spares : s.spare ≡ spare = spare_is (length digits) s.size s.spare s.group ∙ sym (spare_is (length digits) size spare group) in
      left (ap (λ n. n % spare) same ∙ ap (λ p. number_of octets * p % spare) spares ∙ mul-mod_left (number_of octets) spare)

-- what appending octets of a group returns
pub appends : (digits old new octets : List ℕ) (result : Result Unit TextError) → OnOk result (new ≡ old ++ octets) → IfErr result (λ error. error ≡ OutOfMemory) → IsBase32 digits octets
    → AppendsBase32 digits old new result
appends digits old new octets (Ok u) ok err is = (octets, ok, is)
appends digits old new octets (Err e) ok err is = inl (err, (octets, is))

-- the digits are eight and others
parts : (digits : List ℕ) → str_to_ascii_uppercase digits ≡ str_to_ascii_uppercase (take 8 digits) ++ str_to_ascii_uppercase (drop 8 digits)
parts digits = ap str_to_ascii_uppercase (sym (take-append-drop 8 digits)) ∙ map-append to_ascii_uppercase (take 8 digits) (drop 8 digits)

-- five octets and others
join_five : (digits first second : List ℕ) → length first ≡ 5 → IsBase32 (take 8 digits) first → IsBase32 (drop 8 digits) second → IsBase32 digits (first ++ second)
join_five digits [] second five a b = absurd (omega arith)
join_five digits (v ∷ []) second five a b = absurd (omega arith)
join_five digits (v ∷ w ∷ []) second five a b = absurd (omega arith)
join_five digits (v ∷ w ∷ x ∷ []) second five a b = absurd (omega arith)
join_five digits (v ∷ w ∷ x ∷ y ∷ []) second five a b = absurd (omega arith)
join_five digits (v ∷ w ∷ x ∷ y ∷ z ∷ []) second five a b =
    let first = base32_digits 8 (number_of (v ∷ w ∷ x ∷ y ∷ z ∷ [])) in (
      bytes_append (v ∷ w ∷ x ∷ y ∷ z ∷ []) second a.0 b.0,
      parts digits
          ∙ ap (λ (text : List ℕ). text ++ str_to_ascii_uppercase (drop 8 digits)) (a.1 ∙ append-nil first)
          ∙ ap (λ (text : List ℕ). first ++ text) b.1,
    )
join_five digits (v ∷ w ∷ x ∷ y ∷ z ∷ o ∷ first) second five a b = absurd (omega arith)

join : (digits first second : List ℕ) → 8 < length digits → IsBase32 (take 8 digits) first → IsBase32 (drop 8 digits) second → IsBase32 digits (first ++ second)
join digits first second long a b =
    let eight : length (take 8 digits) ≡ 8 = length-take-le 8 digits (omega arith) in
    let s = shape (take 8 digits) first (omega (arith, eight)) (omega (arith, eight)) a in
    join_five digits first second (s.sized ∙ five_octets (length (take 8 digits)) s.size s.spare eight s.group) a b

-- octets of more than eight digits are five and others
split : (digits all : List ℕ) → 8 < length digits → IsBase32 digits all → (first second : List ℕ) × IsBase32 (take 8 digits) first × IsBase32 (drop 8 digits) second × (all ≡ first ++ second)
split digits [] long is = absurd (omega (arith, length-map digits to_ascii_uppercase, ap length is.1))
split digits (a ∷ []) long is = absurd (omega (arith, length-map digits to_ascii_uppercase, ap length is.1, digits_length 2 (number_of (a ∷ []) * 4)))
split digits (a ∷ b ∷ []) long is = absurd (omega (arith, length-map digits to_ascii_uppercase, ap length is.1, digits_length 4 (number_of (a ∷ b ∷ []) * 16)))
split digits (a ∷ b ∷ c ∷ []) long is = absurd (omega (arith, length-map digits to_ascii_uppercase, ap length is.1, digits_length 5 (number_of (a ∷ b ∷ c ∷ []) * 2)))
split digits (a ∷ b ∷ c ∷ d ∷ []) long is = absurd (omega (arith, length-map digits to_ascii_uppercase, ap length is.1, digits_length 7 (number_of (a ∷ b ∷ c ∷ d ∷ []) * 8)))
split digits (a ∷ b ∷ c ∷ d ∷ e ∷ all) long is =
    let first = base32_digits 8 (number_of (a ∷ b ∷ c ∷ d ∷ e ∷ [])) in
    let eight : length first ≡ 8 = digits_length 8 (number_of (a ∷ b ∷ c ∷ d ∷ e ∷ [])) in
    let front : str_to_ascii_uppercase (take 8 digits) ≡ first =
    sym (take-map to_ascii_uppercase 8 digits) ∙ ap (take 8) is.1 ∙ ap (λ k. take k (first ++ base32_text all)) (sym eight) ∙ take-append_seam first (base32_text all) in
    let whole : first ++ str_to_ascii_uppercase (drop 8 digits) ≡ first ++ base32_text all =
    ap (λ (text : List ℕ). text ++ str_to_ascii_uppercase (drop 8 digits)) (sym front) ∙ sym (parts digits) ∙ is.1 in (
      a ∷ b ∷ c ∷ d ∷ e ∷ [],
      all,
      (λ i. first_five a b c d e all is.0 i, front ∙ sym (append-nil first)),
      (λ i. is.0 (suc (suc (suc (suc (suc i))))), append_cancel_left first (str_to_ascii_uppercase (drop 8 digits)) (base32_text all) whole),
      refl,
    ) where
      first_five : (a b c d e : ℕ) (all : List ℕ) → IsBytes (a ∷ b ∷ c ∷ d ∷ e ∷ all) → IsBytes (a ∷ b ∷ c ∷ d ∷ e ∷ [])
      first_five a b c d e all bytes zero = bytes 0
      first_five a b c d e all bytes (suc zero) = bytes 1
      first_five a b c d e all bytes (suc (suc zero)) = bytes 2
      first_five a b c d e all bytes (suc (suc (suc zero))) = bytes 3
      first_five a b c d e all bytes (suc (suc (suc (suc zero)))) = bytes 4
      first_five a b c d e all bytes (suc (suc (suc (suc (suc i))))) = omega arith

-- eight digits are read, and then the others
pub appends_more : (digits old middle new : List ℕ) (u : Unit {0}) (result : Result Unit TextError) → 8 < length digits
    → AppendsBase32 (take 8 digits) old middle (Ok u) → AppendsBase32 (drop 8 digits) middle new result → AppendsBase32 digits old new result
appends_more digits old middle new u (Ok v) long a b =
    (a.0 ++ b.0, b.1 ∙ ap (λ (xs : List ℕ). xs ++ b.0) a.1 ∙ append_assoc old a.0 b.0, join digits a.0 b.0 long a.2 b.2)
appends_more digits old middle new u (Err e) long a (inl memory) = inl (memory.0, (a.0 ++ memory.1.0, join digits a.0 memory.1.0 long a.2 memory.1.1))
appends_more digits old middle new u (Err e) long a (inr bad) =
    inr (bad.0, λ all is. let s = split digits all long is in bad.1 s.1 s.3)

-- eight digits and the others represent octets
pub both_tested : (digits : List ℕ) (b : Bool) → 8 < length digits → HasValue (IsBase32 (take 8 digits)) → IsTrue b ↔ HasValue (IsBase32 (drop 8 digits)) → IsTrue b ↔ HasValue (IsBase32 digits)
both_tested digits b long first others = (
  λ t. let after = others.0 t in (first.0 ++ after.0, join digits first.0 after.0 long first.1 after.1),
  λ all. let s = split digits all.0 long all.1 in others.1 (s.1, s.3),
)

-- Digits whose first group is none are no base32.
pub none_tested : (digits : List ℕ) → 8 < length digits → ((octets : List ℕ) → ¬ (IsBase32 (take 8 digits) octets)) → IsTrue false ↔ HasValue (IsBase32 digits)
none_tested digits long none = (λ t. absurd (cc t), λ all. let s = split digits all.0 long all.1 in absurd (none s.0 s.2))

-- no digits represent no octets
pub empty_tested : (digits : List ℕ) (b : Bool) → b ≡ (length digits == 0) → b ≡ true → IsTrue true ↔ HasValue (IsBase32 digits)
empty_tested [] b e empty = (λ t. ([], (λ i. lit< tt, refl)), λ all. refl)
empty_tested (digit ∷ digits) b e empty = let none = eqb-true (length (digit ∷ digits)) 0 (sym e ∙ empty) in absurd (omega (arith, none))

-- a group that was read
pub group_tested : (digits : List ℕ) (o : Option (ℕ × ℕ)) (b : Bool) → b ≡ is_some o
    → MatchOption o ((octets : List ℕ) → ¬ (IsBase32 digits octets)) (λ group. IsBase32 digits (last_octets group.0 group.1)) → IsTrue b ↔ HasValue (IsBase32 digits)
group_tested digits None b e none = (λ t. absurd (cc (e, t)), λ all. absurd (none all.0 all.1))
group_tested digits (Some group) b e is = (λ t. (last_octets group.0 group.1, is), λ all. e)

-- printed digits are in upper case
glyph_upper : (n : ℕ) → n < 32 → to_ascii_uppercase (digit_glyph true n) ≡ digit_glyph true n
glyph_upper n h = grind (arith, nat_tests)

digits_upper : (count n : ℕ) → str_to_ascii_uppercase (base32_digits count n) ≡ base32_digits count n
unfolding base32_digits
digits_upper zero n = refl
digits_upper (suc count) n =
    map-append to_ascii_uppercase (base32_digits count (n / 32)) (digit_glyph true (n % 32) ∷ [])
    ∙ ap (λ (xs : List ℕ). xs ++ to_ascii_uppercase (digit_glyph true (n % 32)) ∷ []) (digits_upper count (n / 32))
    ∙ ap (λ (d : ℕ). base32_digits count (n / 32) ++ d ∷ []) (glyph_upper (n % 32) (omega arith))

text_upper : (octets : List ℕ) → str_to_ascii_uppercase (base32_text octets) ≡ base32_text octets
text_upper [] = refl
text_upper (a ∷ []) = digits_upper 2 (number_of (a ∷ []) * 4)
text_upper (a ∷ b ∷ []) = digits_upper 4 (number_of (a ∷ b ∷ []) * 16)
text_upper (a ∷ b ∷ c ∷ []) = digits_upper 5 (number_of (a ∷ b ∷ c ∷ []) * 2)
text_upper (a ∷ b ∷ c ∷ d ∷ []) = digits_upper 7 (number_of (a ∷ b ∷ c ∷ d ∷ []) * 8)
text_upper (a ∷ b ∷ c ∷ d ∷ e ∷ octets) =
    map-append to_ascii_uppercase (base32_digits 8 (number_of (a ∷ b ∷ c ∷ d ∷ e ∷ []))) (base32_text octets)
    ∙ ap (λ (xs : List ℕ). xs ++ str_to_ascii_uppercase (base32_text octets)) (digits_upper 8 (number_of (a ∷ b ∷ c ∷ d ∷ e ∷ [])))
    ∙ ap (λ (xs : List ℕ). base32_digits 8 (number_of (a ∷ b ∷ c ∷ d ∷ e ∷ [])) ++ xs) (text_upper octets)

-- printed octets read back
pub base32_reads_back : (octets : List ℕ) → IsBytes octets → IsBase32 (base32_text octets) octets
base32_reads_back octets bytes = (bytes, text_upper octets)

-- eight digits for five octets
pub text_size : (octets : List ℕ) → (8 * length octets ≤ 5 * length (base32_text octets)) × (5 * length (base32_text octets) ≤ 8 * length octets + 4)
text_size [] = (omega arith, omega arith)
text_size (a ∷ []) = let size = digits_length 2 (number_of (a ∷ []) * 4) in (omega arith, omega arith)
text_size (a ∷ b ∷ []) = let size = digits_length 4 (number_of (a ∷ b ∷ []) * 16) in (omega arith, omega arith)
text_size (a ∷ b ∷ c ∷ []) = let size = digits_length 5 (number_of (a ∷ b ∷ c ∷ []) * 2) in (omega arith, omega arith)
text_size (a ∷ b ∷ c ∷ d ∷ []) = let size = digits_length 7 (number_of (a ∷ b ∷ c ∷ d ∷ []) * 8) in (omega arith, omega arith)
text_size (a ∷ b ∷ c ∷ d ∷ e ∷ octets) =
    let first = digits_length 8 (number_of (a ∷ b ∷ c ∷ d ∷ e ∷ [])) in
    let others = text_size octets in
    let whole = length-append (base32_digits 8 (number_of (a ∷ b ∷ c ∷ d ∷ e ∷ []))) (base32_text octets) in
    (omega arith, omega arith)

-- A word of base32 is as long as the text of its octets.
pub word_length : (word octets : List ℕ) → IsBase32 word octets → length word ≡ length (base32_text octets)
word_length word octets is = sym (length-map word to_ascii_uppercase) ∙ ap length is.1

-- octets of one number are the same
same_octets : (m n : ℕ) (xs ys : List ℕ) → length xs ≡ length ys → IsBytes xs → IsBytes ys → fold (λ (high octet : ℕ). high * 256 + octet) m xs ≡ fold (λ (high octet : ℕ). high * 256 + octet) n ys
    → (m ≡ n) × (xs ≡ ys)
same_octets m n [] [] e a b same = (same, refl)
same_octets m n [] (y ∷ ys) e a b same = absurd (omega (arith, e))
same_octets m n (x ∷ xs) [] e a b same = absurd (omega (arith, e))
same_octets m n (x ∷ xs) (y ∷ ys) e a b same =
    let rest = same_octets (m * 256 + x) (n * 256 + y) xs ys (omega (arith, e)) (λ i. a (suc i)) (λ i. b (suc i)) same in
    let first : x < 256 = a 0 in
    let second : y < 256 = b 0 in
    let sum = rest.0 in
    let octet : x ≡ y = omega (arith, sum) in
    (omega (arith, sum), ap (λ (o : ℕ). o ∷ xs) octet ∙ ap (λ (os : List ℕ). y ∷ os) rest.1)

-- the octets of a number of digits
abbrev size_at : ℕ → ℕ
size_at n = if n == 2 then 1 else if n == 4 then 2 else if n == 5 then 3 else if n == 7 then 4 else 5

size_is : (n size spare : ℕ) → IsGroupSize n size spare → size ≡ size_at n
size_is n size spare (inl group) = group.1 ∙ sym (ap size_at group.0)
size_is n size spare (inr (inl group)) = group.1 ∙ sym (ap size_at group.0)
size_is n size spare (inr (inr (inl group))) = group.1 ∙ sym (ap size_at group.0)
size_is n size spare (inr (inr (inr (inl group)))) = group.1 ∙ sym (ap size_at group.0)
size_is n size spare (inr (inr (inr (inr group)))) = group.1 ∙ sym (ap size_at group.0)

times_same : (m n s t k : ℕ) → s ≡ t → s ≡ k → m * s ≡ n * t → m * k ≡ n * k
times_same m n s t k e f same = ap (λ p. m * p) (sym f) ∙ same ∙ ap (λ p. n * p) (sym e ∙ f)

number_same : (count size m n s t : ℕ) → IsGroupSize count size s → s ≡ t → m * s ≡ n * t → m ≡ n
number_same count size m n s t (inl group) e same = let whole = times_same m n s t 4 e group.2 same in omega (arith, whole)
number_same count size m n s t (inr (inl group)) e same = let whole = times_same m n s t 16 e group.2 same in omega (arith, whole)
number_same count size m n s t (inr (inr (inl group))) e same = let whole = times_same m n s t 2 e group.2 same in omega (arith, whole)
number_same count size m n s t (inr (inr (inr (inl group)))) e same = let whole = times_same m n s t 8 e group.2 same in omega (arith, whole)
number_same count size m n s t (inr (inr (inr (inr group)))) e same = let whole = times_same m n s t 1 e group.2 same in omega (arith, whole)

-- digits represent one list of octets
one_group : (digits xs ys : List ℕ) → 0 < length digits → length digits ≤ 8 → IsBase32 digits xs → IsBase32 digits ys → xs ≡ ys
one_group digits xs ys some few a b =
    let s = shape digits xs some few a in
    let t = shape digits ys some few b in
    let whole = digits_same (length digits) (number_of xs * s.spare) (number_of ys * t.spare) s.is.0 t.is.0 (sym s.is.1 ∙ t.is.1) in
    let spares : s.spare ≡ t.spare = spare_is (length digits) s.size s.spare s.group ∙ sym (spare_is (length digits) t.size t.spare t.group) in
    let sizes : s.size ≡ t.size = size_is (length digits) s.size s.spare s.group ∙ sym (size_is (length digits) t.size t.spare t.group) in
    let number = number_same (length digits) s.size (number_of xs) (number_of ys) s.spare t.spare s.group spares whole in
    (same_octets 0 0 xs ys (s.sized ∙ sizes ∙ sym t.sized) a.0 b.0 number).1

no_digits : (digits octets : List ℕ) → length digits < 1 → IsBase32 digits octets → octets ≡ []
no_digits digits [] none is = refl
no_digits digits (x ∷ octets) none is = absurd (omega (arith, none, text_some x octets, length-map digits to_ascii_uppercase, ap length is.1))

one_by : (fuel : ℕ) (digits xs ys : List ℕ) → length digits ≤ fuel → IsBase32 digits xs → IsBase32 digits ys → xs ≡ ys
one_by zero digits xs ys few a b = no_digits digits xs (omega arith) a ∙ sym (no_digits digits ys (omega arith) b)
one_by (suc fuel) digits xs ys few a b =
    elim (cases_lt 8 (length digits)) [
      | inl long ↦
          (let s = split digits xs long a in
          let t = split digits ys long b in
          let eight : length (take 8 digits) ≡ 8 = length-take-le 8 digits (omega arith) in
          let first = one_group (take 8 digits) s.0 t.0 (omega (arith, eight)) (omega (arith, eight)) s.2 t.2 in
          let others = one_by fuel (drop 8 digits) s.1 t.1 (omega (arith, length-drop 8 digits)) s.3 t.3 in
          s.4 ∙ (λ i. first i ++ others i) ∙ sym t.4)
      | inr short ↦ few_digits short
    ] where
      few_digits : length digits ≤ 8 → xs ≡ ys
      few_digits short =
          elim (cases_lt 0 (length digits)) [
            | inl some ↦ one_group digits xs ys some short a b
            | inr none ↦ no_digits digits xs (omega arith) a ∙ sym (no_digits digits ys (omega arith) b)
          ]

-- Base32 represents at most one list of octets.
pub one_base32 : (digits xs ys : List ℕ) → IsBase32 digits xs → IsBase32 digits ys → xs ≡ ys
one_base32 digits xs ys a b = one_by (length digits) digits xs ys (omega arith) a b
