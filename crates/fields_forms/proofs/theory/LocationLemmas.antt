-- Locations and their words.
use Rattle.std.proofs.Common.{◌≡◌, ◌≢◌, ◌∙◌, ℕ, zero, suc, ◌+◌, ◌-◌, ◌*◌, ◌/◌, ◌%◌, ◌^◌, ◌<◌, ◌≤◌, ◌⊎◌, true, List, [], ◌∷◌, ◌++◌, length, get_or, take, drop, refl, sym, ap, subst, arith, inl, inr, take-append-drop}
use Rattle.std.specs.Prelude.{Option, Some, None, MatchOption, slice_get, codes}
use Rattle.std.specs.Borrow.{Bor}
use Rattle.std.specs.Char.{digit_value, is_ascii_alphabetic, to_ascii_lowercase}
use Rattle.std.specs.List.{AllWithin}
use Rattle.std.specs.Option.{SomeIff}
use Rattle.std.specs.Str.{str_to_ascii_lowercase}
use Rattle.std.specs.Str.Parse.{AllDigits, IsNumeral, digits_value}
use Rattle.std.proofs.Math.Nat.{le-mul_of_pos_right, mul-le-mul_right, mul_assoc, pow-le-pow_right, pow-suc}
use Rattle.std.proofs.Math.Seq.{drop-cons}
use Rattle.std.proofs.lemmas.Bool.{cases_lt, false≢true}
use Rattle.std.proofs.lemmas.Bool.Decides.{nat_tests}
use Rattle.std.proofs.lemmas.Int.Digits.{digits_value-lt}
use Rattle.std.proofs.lemmas.List.{append_cancel_right, take_all}
use Rattle.std.proofs.lemmas.Str.Ascii.{lowercase_is}
use Rattle.std.proofs.lemmas.Str.Parse.{digit_from_value}
use Rattle.fields_forms.specs.LocationItems.{LocationItem}
use Rattle.fields_forms.specs.Locations.{is_size, size_of}
use Rattle.fields_forms.specs.LocationWords.{AreDecimals, AreLocationWords, AreSizes, BeginsWithAngle, BeginsWithLetter, FindsDirection, HasDecimals, IsAltitude, IsAngle, IsDecimal, IsDirected, IsEither, IsLength, IsLetter, IsLocation, IsMinutes, IsRounded, IsSeconds, IsSize, IsSizeAt, location_octets}
use Rattle.fields_text.specs.Reading.{Reads}

-- lists without an element of a kind
abbrev pub NoneOf : {X : Type 0} → (X → Type 0) → List X → Type 0
NoneOf Is [] = Unit {0}
NoneOf Is (x ∷ xs) = ¬ (Is x) × NoneOf Is xs

-- What no element of two lists is, none of both together is.
pub none_append : {X : Type 0} (Is : X → Type 0) (xs ys : List X) → NoneOf Is xs → NoneOf Is ys → NoneOf Is (xs ++ ys)
none_append Is [] ys a b = b
none_append Is (x ∷ xs) ys a b = (a.0, none_append Is xs ys a.1 b)

none_at : {X : Type 0} (Is : X → Type 0) (x : X) (xs ys : List X) → NoneOf Is (xs ++ x ∷ ys) → ¬ (Is x)
none_at Is x [] ys none = none.0
none_at Is x (y ∷ xs) ys none = none_at Is x xs ys none.1

none_within : {X : Type 0} (Is : X → Type 0) (xs : List X) (n : ℕ) → AllWithin (λ x. ¬ (Is x)) xs 0 n → n ≤ length xs → NoneOf Is (take n xs)
none_within Is xs zero none fits = tt
none_within Is [] (suc n) none fits = absurd (omega arith)
none_within Is (x ∷ xs) (suc n) none fits =
    (none 0 x (omega arith) (omega arith), none_within Is xs n (λ k d low high. none (suc k) d (omega arith) (omega arith)) (omega arith))

-- the lists before and after the first element of a kind
pub same_split : {X : Type 0} (Is : X → Type 0) (front front' : List X) (x x' : X) (back back' : List X) → NoneOf Is front → NoneOf Is front' → Is x → Is x'
    → front ++ x ∷ back ≡ front' ++ x' ∷ back' → (front ≡ front') × (x ≡ x') × (back ≡ back')
same_split Is [] [] x x' back back' none none' is is' e = (refl, cc, cc)
same_split Is [] (y ∷ front') x x' back back' none none' is is' e = let same : x ≡ y = cc in absurd (none'.0 (subst Is same is))
same_split Is (y ∷ front) [] x x' back back' none none' is is' e = let same : x' ≡ y = cc in absurd (none.0 (subst Is same is'))
same_split Is (y ∷ front) (z ∷ front') x x' back back' none none' is is' e =
    let first : y ≡ z = cc in
    let others : front ++ x ∷ back ≡ front' ++ x' ∷ back' = cc in
    let rest = same_split Is front front' x x' back back' none.1 none'.1 is is' others in
    let fronts = rest.0 in
    (cc (first, fronts), rest.1, rest.2)

-- texts without a character
abbrev pub Without : ℕ → List ℕ → Type 0
Without c text = NoneOf (λ d. d ≡ c) text

without_from : (c : ℕ) (text : List ℕ) → ((i : ℕ) → i < length text → get_or text i 0 ≢ c) → Without c text
without_from c [] none = tt
without_from c (d ∷ text) none = (none 0 (omega arith), without_from c text (λ i h. none (suc i) (omega arith)))

-- Digits are without a character that is no digit.
pub digits_without : (c : ℕ) → 10 ≤ digit_value c → (digits : List ℕ) → AllDigits 10 digits → Without c digits
digits_without c other [] all = tt
digits_without c other (d ∷ digits) all = (
  λ e.
      let value : digit_value d ≡ digit_value c = ap digit_value e in
      let small = all.0 in
      omega (arith, small, value, other),
  digits_without c other digits all.1,
)

-- A decimal number is without a character that is neither a digit nor the point.
pub decimal_without : (c : ℕ) → 10 ≤ digit_value c → 46 ≢ c → (places most : ℕ) (word : List ℕ) (n : ℕ) → IsDecimal places most word n → Without c word
decimal_without c other dot places most word n (bound, inl numeral) = digits_without c other word numeral.0.1
decimal_without c other dot places most word n (bound, inr has) =
    subst (Without c) (sym has.text)
    (none_append (λ d. d ≡ c) has.whole (46 ∷ has.decimals) (digits_without c other has.whole has.is_whole.1)
    (dot, digits_without c other has.decimals has.is_part.0.1))

-- A length is without a character that is neither a digit, the point nor the unit.
pub length_without : (c : ℕ) → 10 ≤ digit_value c → 46 ≢ c → 109 ≢ c → (word : List ℕ) (n : ℕ) → IsLength word n → Without c word
length_without c other dot metres word n (inl is) = decimal_without c other dot 2 9000000000 word n is
length_without c other dot metres word n (inr (number, whole, is)) =
    subst (Without c) (sym whole)
    (none_append (λ d. d ≡ c) number (109 ∷ []) (decimal_without c other dot 2 9000000000 number n is) (metres, tt))

-- powers of ten
pub power : (n : ℕ) → n ≤ 3 → (1 ≤ 10 ^ n) × (10 ^ n ≤ 1000)
power n few = (pow-le-pow_right {n = 10} (omega arith) {i = 0} {j = n} (omega arith), pow-le-pow_right {n = 10} (omega arith) {i = n} {j = 3} few)

-- decimals
pub no_decimals : (places : ℕ) (word : List ℕ) → places ≤ 3 → ¬ (IsNumeral 10 word × (digits_value 10 word ≤ 999)) → (n : ℕ) → ¬ (AreDecimals places word n)
no_decimals places word few none n is =
    let small = digits_value-lt 10 word is.0.1 in
    let size : length word ≤ 3 = let fits = is.1 in omega arith in
    let most = (power (length word) size).1 in
    none (is.0, omega (arith, small, most))

-- a number without a dot
module _ (places most : ℕ) (word : List ℕ) (few : places ≤ 3) where
  whole_bound : (whole n : ℕ) → n ≡ whole * 10 ^ places → n ≤ most → whole ≤ most
  whole_bound whole n e bound = let up = le-mul_of_pos_right {m = 10 ^ places} whole (let p = power places few in omega (arith, p.0)) in omega (arith, up, e, bound)

  part_bound : (whole part n : ℕ) → n ≡ whole * 10 ^ places + part → n ≤ most → whole ≤ most
  part_bound whole part n e bound = let up = le-mul_of_pos_right {m = 10 ^ places} whole (let p = power places few in omega (arith, p.0)) in omega (arith, up, e, bound)

  module _ (clear : (i : ℕ) → i < length word → get_or word i 0 ≢ 46) where
    no_dot : (n : ℕ) → ¬ (HasDecimals places word n)
    no_dot n has = none_at (λ d. d ≡ 46) 46 has.whole has.decimals (subst (Without 46) has.text (without_from 46 word clear)) refl

    -- A word without a dot is no decimal number if it is no numeral of at most the maximum.
    pub no_whole : ¬ (IsNumeral 10 word × (digits_value 10 word ≤ most)) → (n : ℕ) → ¬ (IsDecimal places most word n)
    no_whole none n (bound, inl (numeral, value)) = none (numeral, whole_bound (digits_value 10 word) n value bound)
    no_whole none n (bound, inr has) = no_dot n has

    -- A word without a dot is read as the decimal number of its numeral if that is at most the maximum, else as none.
    pub whole_read : (whole : ℕ) (result : Option ℕ) → IsNumeral 10 word → whole ≡ digits_value 10 word
        → SomeIff result (whole * 10 ^ places + 0 ≤ most) (whole * 10 ^ places + 0) → Reads (IsDecimal places most word) result
    whole_read whole (Some n) numeral is sum =
        let same : n ≡ whole * 10 ^ places = let value = sum.1 in omega arith in
        (omega (arith, sum.0, same), inl (numeral, same ∙ ap (λ (k : ℕ). k * 10 ^ places) is))
    whole_read whole None numeral is sum = no_sum where
      no_sum : (n : ℕ) → ¬ (IsDecimal places most word n)
      no_sum n (bound, inl (numeral, value)) =
          let same : n ≡ whole * 10 ^ places = value ∙ ap (λ (k : ℕ). k * 10 ^ places) (sym is) in
          sum (omega (arith, same, bound))
      no_sum n (bound, inr has) = no_dot n has

  -- a number with a dot
  module _ (front back : List ℕ) (split : (word ≡ front ++ 46 ∷ back) × ((i : ℕ) → i < length front → get_or front i 0 ≢ 46)) where
    no_numeral : ¬ (IsNumeral 10 word)
    no_numeral numeral = none_at (λ d. d ≡ 46) 46 front back (subst (Without 46) split.0 (digits_without 46 (omega arith) word numeral.1)) refl

    parts_are : (n : ℕ) (has : HasDecimals places word n) → (has.whole ≡ front) × (has.decimals ≡ back)
    parts_are n has =
        let parts =
        same_split (λ d. d ≡ 46) has.whole front 46 46 has.decimals back (digits_without 46 (omega arith) has.whole has.is_whole.1) (without_from 46 front split.1) refl refl
        (sym has.text ∙ split.0) in
        (parts.0, parts.2)

    -- A word with a dot is no decimal number if the text before the dot is no numeral of at most the maximum.
    pub no_front : ¬ (IsNumeral 10 front × (digits_value 10 front ≤ most)) → (n : ℕ) → ¬ (IsDecimal places most word n)
    no_front none n (bound, inl (numeral, value)) = no_numeral numeral
    no_front none n (bound, inr has) =
        let same = (parts_are n has).0 in
        none
        (subst (λ (digits : List ℕ). IsNumeral 10 digits × (digits_value 10 digits ≤ most)) same (has.is_whole, part_bound (digits_value 10 has.whole) has.part n has.value bound))

    -- A word with a dot is no decimal number if the text after the dot isn't decimals.
    pub no_back : ((n : ℕ) → ¬ (AreDecimals places back n)) → (n : ℕ) → ¬ (IsDecimal places most word n)
    no_back none n (bound, inl (numeral, value)) = no_numeral numeral
    no_back none n (bound, inr has) = none has.part (subst (λ (digits : List ℕ). AreDecimals places digits has.part) (parts_are n has).1 has.is_part)

    -- A word with a dot is read as its numeral with its decimals if this number is at most the maximum, else as none.
    pub parts_read : (whole part : ℕ) (result : Option ℕ) → IsNumeral 10 front → whole ≡ digits_value 10 front → AreDecimals places back part
        → SomeIff result (whole * 10 ^ places + part ≤ most) (whole * 10 ^ places + part) → Reads (IsDecimal places most word) result
    parts_read whole part (Some n) numeral is are sum =
        let same : n ≡ whole * 10 ^ places + part = sum.1 in (
          omega (arith, sum.0, same),
          inr
              (record {
                whole = front;
                decimals = back;
                part = part;
                text = split.0;
                is_whole = numeral;
                is_part = are;
                value = same ∙ ap (λ (k : ℕ). k * 10 ^ places + part) is;
              }),
        )
    parts_read whole part None numeral is are sum = no_sum where
      no_sum : (n : ℕ) → ¬ (IsDecimal places most word n)
      no_sum n (bound, inl (numeral, value)) = no_numeral numeral
      no_sum n (bound, inr has) =
          let wholes : digits_value 10 has.whole ≡ whole = ap (digits_value 10) (parts_are n has).0 ∙ sym is in
          let parts : has.part ≡ part = (subst (λ (digits : List ℕ). AreDecimals places digits has.part) (parts_are n has).1 has.is_part).2 ∙ sym are.2 in
          let same : n ≡ whole * 10 ^ places + part = has.value ∙ ap (λ (k : ℕ). k * 10 ^ places + has.part) wholes ∙ ap (λ (k : ℕ). whole * 10 ^ places + k) parts in
          sum (omega (arith, same, bound))

-- a number with a dot isn't one of digits alone, and has no `m` at its end
dotted_numeral : (places : ℕ) (word : List ℕ) (n : ℕ) → HasDecimals places word n → ¬ (IsNumeral 10 word)
dotted_numeral places word n has numeral = none_at (λ d. d ≡ 46) 46 has.whole has.decimals (subst (Without 46) has.text (digits_without 46 (omega arith) word numeral.1)) refl

no_metres : (word number : List ℕ) (n : ℕ) → word ≡ number ++ 109 ∷ [] → ¬ (IsDecimal 2 9000000000 word n)
no_metres word number n whole is =
    none_at (λ d. d ≡ 109) 109 number [] (subst (Without 109) whole (decimal_without 109 (omega arith) (λ e. omega arith) 2 9000000000 word n is)) refl

-- a word is one number
one_decimal : (places most : ℕ) (word : List ℕ) (a b : ℕ) → IsDecimal places most word a → IsDecimal places most word b → a ≡ b
one_decimal places most word a b (_, inl x) (_, inl y) = x.1 ∙ sym y.1
one_decimal places most word a b (_, inl x) (_, inr y) = absurd (dotted_numeral places word b y x.0)
one_decimal places most word a b (_, inr x) (_, inl y) = absurd (dotted_numeral places word a x y.0)
one_decimal places most word a b (_, inr x) (_, inr y) =
    let parts =
    same_split (λ d. d ≡ 46) x.whole y.whole 46 46 x.decimals y.decimals (digits_without 46 (omega arith) x.whole x.is_whole.1) (digits_without 46 (omega arith) y.whole y.is_whole.1)
    refl refl (sym x.text ∙ y.text) in
    let wholes = ap (digits_value 10) parts.0 in
    let part : x.part ≡ y.part = x.is_part.2 ∙ ap (λ (digits : List ℕ). digits_value 10 digits * 10 ^ (places - length digits)) parts.2 ∙ sym y.is_part.2 in
    x.value ∙ ap (λ (k : ℕ). k * 10 ^ places + x.part) wholes ∙ ap (λ (k : ℕ). digits_value 10 y.whole * 10 ^ places + k) part ∙ sym y.value

one_length : (word : List ℕ) (a b : ℕ) → IsLength word a → IsLength word b → a ≡ b
one_length word a b (inl x) (inl y) = one_decimal 2 9000000000 word a b x y
one_length word a b (inl x) (inr y) = absurd (no_metres word y.0 a y.1 x)
one_length word a b (inr x) (inl y) = absurd (no_metres word x.0 b x.1 y)
one_length word a b (inr x) (inr y) =
    let same = append_cancel_right x.0 y.0 (109 ∷ []) (sym x.1 ∙ y.1) in
    one_decimal 2 9000000000 y.0 a b (subst (λ (number : List ℕ). IsDecimal 2 9000000000 number a) same x.2) y.2

one_seconds : (words : List (Bor (List ℕ))) (a b : ℕ) → IsSeconds words a → IsSeconds words b → a ≡ b
one_seconds [] a b x y = x ∙ sym y
one_seconds (word ∷ []) a b x y = one_decimal 3 59999 word.now a b x y
one_seconds (word ∷ next ∷ words) a b x y = absurd x

one_minutes : (words : List (Bor (List ℕ))) (a b : ℕ) → IsMinutes words a → IsMinutes words b → a ≡ b
one_minutes [] a b x y = x ∙ sym y
one_minutes (word ∷ words) a b x y =
    let seconds = one_seconds words x.1 y.1 x.4 y.4 in
    let minutes : x.0 ≡ y.0 = sym x.2.1 ∙ y.2.1 in
    x.5 ∙ ap (λ (k : ℕ). k * 60000 + x.1) minutes ∙ ap (λ (k : ℕ). y.0 * 60000 + k) seconds ∙ sym y.5

-- seconds, and degrees with what follows them
pub seconds_read : (words : List (Bor (List ℕ))) (d : Bor (List ℕ)) (result : Option ℕ) → length words ≡ 1 → Reads (IsDecimal 3 59999 (get_or words 0 d).now) result → Reads (IsSeconds words) result
seconds_read [] d result one reads = absurd (omega arith)
seconds_read (word ∷ []) d result one reads = reads
seconds_read (word ∷ next ∷ words) d result one reads = absurd (omega arith)

-- Degrees above the most are no angle.
pub too_large : (words : List (Bor (List ℕ))) (d : Bor (List ℕ)) (most degrees part : ℕ) → 1 ≤ length words → degrees ≡ digits_value 10 (get_or words 0 d).now → IsMinutes (drop 1 words) part
    → most < degrees * 3600000 + part → (n : ℕ) → ¬ (IsAngle most words n)
too_large [] d most degrees part some is after much n angle = omega arith
too_large (word ∷ words) d most degrees part some is after much n angle =
    let same = one_minutes words angle.1 part angle.3 after in
    let value : angle.0 ≡ degrees = sym angle.2.1 ∙ sym is in
    let sum = angle.4 in
    let bound = angle.5 in
    omega (arith, same, value, sum, bound, much)

-- words of angles are no directions
first_digit : (digits : List ℕ) → IsNumeral 10 digits → digit_value (get_or digits 0 0) < 10
first_digit [] numeral = let some = numeral.0 in omega arith
first_digit (d ∷ digits) numeral = numeral.1.0

first_of : (front back : List ℕ) → 0 < length front → get_or (front ++ back) 0 0 ≡ get_or front 0 0
first_of [] back some = absurd (omega arith)
first_of (d ∷ front) back some = refl

decimal_first : (places most : ℕ) (word : List ℕ) (n : ℕ) → IsDecimal places most word n → digit_value (get_or word 0 0) < 10
decimal_first places most word n (bound, inl numeral) = first_digit word numeral.0
decimal_first places most word n (bound, inr has) =
    subst (λ (d : ℕ). digit_value d < 10) (sym (ap (λ (text : List ℕ). get_or text 0 0) has.text ∙ first_of has.whole (46 ∷ has.decimals) has.is_whole.0))
    (first_digit has.whole has.is_whole)

lower_letter : (c : ℕ) → is_ascii_alphabetic c ≡ true → 97 ≤ to_ascii_lowercase c
lower_letter c letter = grind (arith, nat_tests)

no_letter : (letter word : List ℕ) → BeginsWithLetter letter → digit_value (get_or word 0 0) < 10 → ¬ (IsLetter letter word)
no_letter [] word begins digit e = false≢true begins
no_letter (l ∷ letter) [] begins digit e = let no : 36 < 10 = digit in omega arith
no_letter (l ∷ letter) (w ∷ word) begins digit e =
    let same : to_ascii_lowercase w ≡ to_ascii_lowercase l = ap (λ (text : List ℕ). get_or text 0 0) e in
    let range = digit_from_value w digit in
    let lower = (lowercase_is w).1 (omega (arith, range.1)) in
    let high = lower_letter l begins in
    omega (arith, same, range.1, lower, high)

module _ (positive negative : List ℕ) (letters : BeginsWithLetter positive × BeginsWithLetter negative) where
  -- The word is one of the two letters of a direction, ignoring ASCII case.
  abbrev pub IsDirection : Bor (List ℕ) → Type 0
  IsDirection word = IsEither positive negative word.now

  other_word : (word : Bor (List ℕ)) → digit_value (get_or word.now 0 0) < 10 → ¬ (IsDirection word)
  other_word word digit (inl e) = no_letter positive word.now letters.0 digit e
  other_word word digit (inr e) = no_letter negative word.now letters.1 digit e

  other_seconds : (words : List (Bor (List ℕ))) (n : ℕ) → IsSeconds words n → NoneOf IsDirection words
  other_seconds [] n is = tt
  other_seconds (word ∷ []) n is = (other_word word (decimal_first 3 59999 word.now n is), tt)
  other_seconds (word ∷ next ∷ words) n is = absurd is

  other_minutes : (words : List (Bor (List ℕ))) (n : ℕ) → IsMinutes words n → NoneOf IsDirection words
  other_minutes [] n is = tt
  other_minutes (word ∷ words) n is = (other_word word (first_digit word.now is.2.0), other_seconds words is.1 is.4)

  other_angle : (most : ℕ) (words : List (Bor (List ℕ))) (n : ℕ) → IsAngle most words n → NoneOf IsDirection words
  other_angle most [] n is = absurd is
  other_angle most (word ∷ words) n is = (other_word word (first_digit word.now is.2.0), other_minutes words is.1 is.3)

  direction_is : (angle n : ℕ) (word : Bor (List ℕ)) → IsDirected positive negative word.now angle n → IsDirection word
  direction_is angle n word (inl is) = inl is.0
  direction_is angle n word (inr is) = inr is.0

  module _ (most : ℕ) (words : List (Bor (List ℕ))) where
    -- Words don't begin with an angle if none of them is a direction.
    pub no_direction : AllWithin (λ word. ¬ (IsDirection word)) words 0 (length words) → (n : ℕ) (after : List (Bor (List ℕ))) → ¬ (BeginsWithAngle most positive negative words n after)
    no_direction none n after begins =
        let all = none_within IsDirection words (length words) none (omega arith) in
        none_at IsDirection begins.direction begins.parts after (subst (NoneOf IsDirection) (take_all (length words) words (omega arith) ∙ begins.whole) all)
        (direction_is begins.angle n begins.direction begins.is_directed)

    split_at : (index : ℕ) (d : Bor (List ℕ)) → index < length words → words ≡ take index words ++ get_or words index d ∷ drop (index + 1) words
    split_at index d fits =
        let next : suc index ≡ index + 1 = omega arith in
        sym (take-append-drop index words)
        ∙ ap (λ (back : List (Bor (List ℕ))). take index words ++ back) (drop-cons words index d fits ∙ ap (λ (k : ℕ). get_or words index d ∷ drop k words) next)

    module _ (index : ℕ) (d : Bor (List ℕ)) (found : FindsDirection positive negative words (Some index)) where
      -- Words don't begin with an angle if those before the first direction aren't an angle.
      pub no_parts : ((n : ℕ) → ¬ (IsAngle most (take index words) n)) → (n : ℕ) (after : List (Bor (List ℕ))) → ¬ (BeginsWithAngle most positive negative words n after)
      no_parts none n after begins =
          let parts =
          same_split IsDirection begins.parts (take index words) begins.direction (get_or words index d) after (drop (index + 1) words) (other_angle most begins.parts begins.angle begins.is_angle)
          (none_within IsDirection words index found.2 (omega (arith, found.0))) (direction_is begins.angle n begins.direction begins.is_directed) (found.1 d)
          (sym begins.whole ∙ split_at index d found.0) in
          none begins.angle (subst (λ (parts : List (Bor (List ℕ))). IsAngle most parts begins.angle) parts.0 begins.is_angle)

    -- the words after an angle
    pub same_after : (m n : ℕ) (after after' : List (Bor (List ℕ))) → BeginsWithAngle most positive negative words m after → BeginsWithAngle most positive negative words n after' → after ≡ after'
    same_after m n after after' x y =
        (same_split IsDirection x.parts y.parts x.direction y.direction after after' (other_angle most x.parts x.angle x.is_angle) (other_angle most y.parts y.angle y.is_angle)
        (direction_is x.angle m x.direction x.is_directed) (direction_is y.angle n y.direction y.is_directed) (sym x.whole ∙ y.whole)).2

-- lengths
pub metres_read : (word number : List ℕ) (result : Option ℕ) → word ≡ number ++ 109 ∷ [] → Reads (IsDecimal 2 9000000000 number) result → Reads (IsLength word) result
metres_read word number (Some n) whole is = inr (number, whole, is)
metres_read word number None whole none = no_length where
  no_length : (n : ℕ) → ¬ (IsLength word n)
  no_length n (inl is) = no_metres word number n whole is
  no_length n (inr is) =
      none n (subst (λ (digits : List ℕ). IsDecimal 2 9000000000 digits n) (append_cancel_right is.0 number (109 ∷ []) (sym is.1 ∙ whole)) is.2)

-- A length without its unit is read as a decimal number.
pub number_read : (word : List ℕ) (result : Option ℕ) → ((front : List ℕ) → word ≢ front ++ 109 ∷ []) → Reads (IsDecimal 2 9000000000 word) result → Reads (IsLength word) result
number_read word (Some n) other is = inl is
number_read word None other none = no_length where
  no_length : (n : ℕ) → ¬ (IsLength word n)
  no_length n (inl is) = none n is
  no_length n (inr is) = other is.0 is.1

-- altitudes
no_sign : (word metres : List ℕ) (n : ℕ) → word ≡ 45 ∷ metres → ¬ (IsLength word n)
no_sign word metres n whole is = (subst (Without 45) whole (length_without 45 (omega arith) (λ e. omega arith) (λ e. omega arith) word n is)).0 refl

module _ (word metres : List ℕ) (whole : word ≡ 45 ∷ metres) where
  -- A word that begins with a minus is no altitude if no length follows the minus.
  pub no_depth : ((n : ℕ) → ¬ (IsLength metres n)) → (n : ℕ) → ¬ (IsAltitude word n)
  no_depth none n (bound, (centimetres, inl is)) = no_sign word metres centimetres whole is.0
  no_depth none n (bound, (centimetres, inr is)) =
      let same : is.0 ≡ metres = let e = sym is.1 ∙ whole in cc in
      none centimetres (subst (λ (text : List ℕ). IsLength text centimetres) same is.2)

  -- A minus and a length are read as the altitude this far below zero if that is at most 100,000 m, else as none.
  pub depth_read : (centimetres : ℕ) (result : Option ℕ) → IsLength metres centimetres → Reads (λ n. n + centimetres ≡ 10000000) result → Reads (IsAltitude word) result
  depth_read centimetres (Some n) is sum = (omega (arith, sum), (centimetres, inr (metres, whole, is, sum)))
  depth_read centimetres None is none = no_altitude where
    no_altitude : (n : ℕ) → ¬ (IsAltitude word n)
    no_altitude n (bound, (c, inl x)) = no_sign word metres c whole x.0
    no_altitude n (bound, (c, inr x)) =
        let same : x.0 ≡ metres = let e = sym x.1 ∙ whole in cc in
        let number = one_length metres c centimetres (subst (λ (text : List ℕ). IsLength text c) same x.2) is in
        let sum = x.3 in
        none n (omega (arith, number, sum))

module _ (word : List ℕ) (other : (metres : List ℕ) → word ≢ 45 ∷ metres) where
  -- A word that doesn't begin with a minus is no altitude if it is no length.
  pub no_height : ((n : ℕ) → ¬ (IsLength word n)) → (n : ℕ) → ¬ (IsAltitude word n)
  no_height none n (bound, (centimetres, inl is)) = none centimetres is.0
  no_height none n (bound, (centimetres, inr is)) = other is.0 is.1

  -- A length without a minus is read as this altitude if its number of centimetres fits 32 bits, else as none.
  pub height_read : (centimetres : ℕ) (result : Option ℕ) → IsLength word centimetres → Reads (λ n. (n < 2 ^ 32) × (n ≡ 10000000 + centimetres)) result → Reads (IsAltitude word) result
  height_read centimetres (Some n) is sum = (sum.0, (centimetres, inl (is, sum.1)))
  height_read centimetres None is none = no_altitude where
    no_altitude : (n : ℕ) → ¬ (IsAltitude word n)
    no_altitude n (bound, (c, inl x)) =
        let number = one_length word c centimetres x.0 is in
        let sum = x.1 in
        none n (bound, omega (arith, number, sum))
    no_altitude n (bound, (c, inr x)) = other x.0 x.1

-- sizes
pub size_cases : (octet : ℕ) → is_size octet ≡ true → (octet ≡ 0) ⊎ ((1 ≤ octet / 16) × (octet / 16 < 10) × (octet % 16 < 10))
size_cases octet is = grind (arith, nat_tests)

size_made : (octet : ℕ) → 1 ≤ octet / 16 → octet / 16 < 10 → octet % 16 < 10 → is_size octet ≡ true
size_made octet some high low = grind (arith, nat_tests)

-- An octet that is a size is below 160.
pub size_small : (octet : ℕ) → is_size octet ≡ true → octet < 160
size_small octet is = elim (size_cases octet is) [
  | inl none ↦ omega arith
  | inr parts ↦ omega (arith, parts.1)
]

-- A number of one digit is a size without tens.
pub digit_rounded : (n : ℕ) → n < 10 → IsRounded n (n * 16)
digit_rounded n small =
    let high : n * 16 / 16 ≡ n = omega arith in
    let low : n * 16 % 16 ≡ 0 = omega arith in
    let size : size_of (n * 16) ≡ n = ap (λ (k : ℕ). k * 10 ^ (n * 16 % 16)) high ∙ ap (λ (k : ℕ). n * 10 ^ k) low ∙ (omega arith) in
    let unit : 10 ^ (n * 16 % 16) ≡ 1 = ap (λ (k : ℕ). 10 ^ k) low in
    (digit_size n small high low, omega (arith, size), omega (arith, size, unit)) where
      digit_size : (n : ℕ) → n < 10 → n * 16 / 16 ≡ n → n * 16 % 16 ≡ 0 → is_size (n * 16) ≡ true
      digit_size zero small high low = refl
      digit_size (suc n) small high low = size_made (suc n * 16) (omega (arith, high)) (omega (arith, high)) (omega (arith, low))

ten_times : (n size unit : ℕ) → size ≤ n / 10 → n / 10 < size + unit → (size * 10 ≤ n) × (n < size * 10 + unit * 10)
ten_times n size unit low high = (omega arith, omega arith)

power_small : (n octet : ℕ) → n ≤ 9000000000 → 1 ≤ octet / 16 → size_of octet ≤ n / 10 → octet % 16 < 9
power_small n octet bound some low =
    elim (cases_lt (octet % 16) 9) [
      | inl small ↦ small
      | inr large ↦ (let most = pow-le-pow_right {n = 10} (omega arith) {i = 9} {j = octet % 16} large in
          let size = mul-le-mul_right (10 ^ (octet % 16)) some in
          absurd (omega (arith, most, size, low, bound)))
    ]

-- A number of more digits has one ten more than its tenth.
pub tens_rounded : (n octet : ℕ) → 10 ≤ n → n ≤ 9000000000 → IsRounded (n / 10) octet → IsRounded n (octet + 1)
tens_rounded n octet some bound is =
    elim (size_cases octet is.0) [
      | inl none ↦ absurd (no_zero none)
      | inr parts ↦ next parts
    ] where
      no_zero : octet ≡ 0 → ⊥
      no_zero none =
          let high = is.2 in
          let size = ap (λ (k : ℕ). size_of k + 10 ^ (k % 16)) none in
          omega (arith, high, size, some)

      next : (1 ≤ octet / 16) × (octet / 16 < 10) × (octet % 16 < 10) → IsRounded n (octet + 1)
      next parts =
          let small = power_small n octet bound parts.0 is.1 in
          let high : (octet + 1) / 16 ≡ octet / 16 = omega (arith, small) in
          let low : (octet + 1) % 16 ≡ suc (octet % 16) = omega (arith, small) in
          let unit : 10 ^ ((octet + 1) % 16) ≡ 10 ^ (octet % 16) * 10 = ap (λ (k : ℕ). 10 ^ k) low ∙ pow-suc 10 (octet % 16) in
          let size : size_of (octet + 1) ≡ size_of octet * 10 =
          ap (λ (k : ℕ). k * 10 ^ ((octet + 1) % 16)) high ∙ ap (λ (k : ℕ). octet / 16 * k) unit ∙ sym (mul_assoc (octet / 16) (10 ^ (octet % 16)) 10) in
          let times = ten_times n (size_of octet) (10 ^ (octet % 16)) is.1 is.2 in (
            size_made (octet + 1) (omega (arith, high, parts.0)) (omega (arith, high, parts.1)) (omega (arith, low, small)),
            subst (λ (k : ℕ). k ≤ n) (sym size) times.0,
            subst (λ (k : ℕ). n < k + 10 ^ ((octet + 1) % 16)) (sym size) (subst (λ (k : ℕ). n < size_of octet * 10 + k) (sym unit) times.1),
          )

-- A word at an index is the size there.
pub size_at : (words : List (Bor (List ℕ))) (index default : ℕ) (word : Bor (List ℕ)) (result : Option ℕ) → slice_get words index ≡ Some word → Reads (IsSize word.now) result
    → Reads (IsSizeAt words index default) result
size_at words index default word result found reads =
    subst (λ (o : Option (Bor (List ℕ))). Reads (λ octet. MatchOption o (octet ≡ default) (λ word. IsSize word.now octet)) result) (sym found) reads

-- Without a word at an index the size is the default.
pub size_default : (words : List (Bor (List ℕ))) (index default : ℕ) → slice_get words index ≡ None → IsSizeAt words index default default
size_default words index default none = subst (λ (o : Option (Bor (List ℕ))). MatchOption o (default ≡ default) (λ word. IsSize word.now default)) (sym none) refl

-- A word that is no length is no size.
pub no_size : (word : List ℕ) → ((n : ℕ) → ¬ (IsLength word n)) → (octet : ℕ) → ¬ (IsSize word octet)
no_size word none octet is = none is.0 is.1

-- the words of a location, in order
pub no_latitude : (words : List (Bor (List ℕ))) → ((n : ℕ) (after : List (Bor (List ℕ))) → ¬ (BeginsWithAngle 324000000 (codes "N") (codes "S") words n after)) → (octets : List ℕ)
    → ¬ (IsLocation words octets)
no_latitude words none octets is = none is.0.latitude is.1.after_latitude is.1.latitude

module _ (words after : List (Bor (List ℕ))) (latitude : ℕ) (first : BeginsWithAngle 324000000 (codes "N") (codes "S") words latitude after) where
  longitude_of : (item : LocationItem) (is : AreLocationWords words item) → BeginsWithAngle 648000000 (codes "E") (codes "W") after item.longitude (is.altitude ∷ is.sizes)
  longitude_of item is =
      subst (λ (left : List (Bor (List ℕ))). BeginsWithAngle 648000000 (codes "E") (codes "W") left item.longitude (is.altitude ∷ is.sizes))
      (same_after (codes "N") (codes "S") (refl, refl) 324000000 words item.latitude latitude is.after_latitude after is.latitude first) is.longitude

  -- Words represent no location if no longitude follows the latitude.
  pub no_longitude : ((n : ℕ) (left : List (Bor (List ℕ))) → ¬ (BeginsWithAngle 648000000 (codes "E") (codes "W") after n left)) → (octets : List ℕ) → ¬ (IsLocation words octets)
  no_longitude none octets is = none is.0.longitude (is.1.altitude ∷ is.1.sizes) (longitude_of is.0 is.1)

  module _ (left : List (Bor (List ℕ))) (longitude : ℕ) (second : BeginsWithAngle 648000000 (codes "E") (codes "W") after longitude left) where
    left_is : (item : LocationItem) (is : AreLocationWords words item) → is.altitude ∷ is.sizes ≡ left
    left_is item is = same_after (codes "E") (codes "W") (refl, refl) 648000000 after item.longitude longitude (is.altitude ∷ is.sizes) left (longitude_of item is) second

    -- Words represent no location if no word follows the longitude.
    pub no_altitude_word : length left < 1 → (octets : List ℕ) → ¬ (IsLocation words octets)
    no_altitude_word none octets is = let size = ap length (left_is is.0 is.1) in omega (arith, none, size)

    -- Words represent no location if the word after the longitude is no altitude.
    pub no_altitude : (d : Bor (List ℕ)) → ((n : ℕ) → ¬ (IsAltitude (get_or left 0 d).now n)) → (octets : List ℕ) → ¬ (IsLocation words octets)
    no_altitude d none octets is =
        none is.0.altitude (subst (λ (word : Bor (List ℕ)). IsAltitude word.now is.0.altitude) (ap (λ (words : List (Bor (List ℕ))). get_or words 0 d) (left_is is.0 is.1)) is.1.is_altitude)

    -- Words represent no location if the words after the altitude aren't sizes.
    pub no_sizes : ((sizes : ℕ × ℕ × ℕ) → ¬ (AreSizes (drop 1 left) sizes.0 sizes.1 sizes.2)) → (octets : List ℕ) → ¬ (IsLocation words octets)
    no_sizes none octets is =
        none (is.0.size, is.0.horizontal, is.0.vertical)
        (subst (λ (sizes : List (Bor (List ℕ))). AreSizes sizes is.0.size is.0.horizontal is.0.vertical) (ap (λ (words : List (Bor (List ℕ))). drop 1 words) (left_is is.0 is.1)) is.1.are_sizes)

    -- If words are a latitude, a longitude, an altitude and sizes, in this order, they represent the location with these.
    pub location_is : (d : Bor (List ℕ)) (altitude size horizontal vertical : ℕ) → 1 ≤ length left → IsAltitude (get_or left 0 d).now altitude → AreSizes (drop 1 left) size horizontal vertical
        → AreLocationWords words
        (record { size = size; horizontal = horizontal; vertical = vertical; latitude = latitude; longitude = longitude; altitude = altitude })
    location_is d altitude size horizontal vertical some is are = record {
      after_latitude = after;
      altitude = get_or left 0 d;
      sizes = drop 1 left;
      latitude = first;
      longitude =
          subst (λ (words : List (Bor (List ℕ))). BeginsWithAngle 648000000 (codes "E") (codes "W") after longitude words) (drop-cons left 0 d some) second;
      is_altitude = is;
      are_sizes = are;
    }

-- words represent one location
one_angle : (most : ℕ) (words : List (Bor (List ℕ))) (m n : ℕ) → IsAngle most words m → IsAngle most words n → m ≡ n
one_angle most [] m n a b = absurd a
one_angle most (word ∷ words) m n a b =
    let minutes = one_minutes words a.1 b.1 a.3 b.3 in
    let degrees : a.0 ≡ b.0 = sym a.2.1 ∙ b.2.1 in
    a.4 ∙ (λ i. degrees i * 3600000 + minutes i) ∙ sym b.4

one_directed : (positive negative word : List ℕ) (angle m n : ℕ) → str_to_ascii_lowercase positive ≢ str_to_ascii_lowercase negative → IsDirected positive negative word angle m
    → IsDirected positive negative word angle n → m ≡ n
one_directed positive negative word angle m n apart (inl a) (inl b) = a.1 ∙ sym b.1
one_directed positive negative word angle m n apart (inl a) (inr b) = absurd (apart (sym a.0 ∙ b.0))
one_directed positive negative word angle m n apart (inr a) (inl b) = absurd (apart (sym b.0 ∙ a.0))
one_directed positive negative word angle m n apart (inr a) (inr b) = let first = a.1 in let second = b.1 in omega arith

module _ (positive negative : List ℕ) (letters : BeginsWithLetter positive × BeginsWithLetter negative) (apart : str_to_ascii_lowercase positive ≢ str_to_ascii_lowercase negative) (most : ℕ)
    (words : List (Bor (List ℕ))) where
  one_begin : (m n : ℕ) (after after' : List (Bor (List ℕ))) → BeginsWithAngle most positive negative words m after → BeginsWithAngle most positive negative words n after' → m ≡ n
  one_begin m n after after' x y =
      let parts =
      same_split (IsDirection positive negative letters) x.parts y.parts x.direction y.direction after after' (other_angle positive negative letters most x.parts x.angle x.is_angle)
      (other_angle positive negative letters most y.parts y.angle y.is_angle) (direction_is positive negative letters x.angle m x.direction x.is_directed)
      (direction_is positive negative letters y.angle n y.direction y.is_directed) (sym x.whole ∙ y.whole) in
      let angle = one_angle most y.parts x.angle y.angle (subst (λ (ps : List (Bor (List ℕ))). IsAngle most ps x.angle) parts.0 x.is_angle) y.is_angle in
      one_directed positive negative y.direction.now y.angle m n apart
      (subst (λ (k : ℕ). IsDirected positive negative y.direction.now k m) angle (subst (λ (d : Bor (List ℕ)). IsDirected positive negative d.now x.angle m) parts.1 x.is_directed)) y.is_directed

one_altitude : (word : List ℕ) (m n : ℕ) → IsAltitude word m → IsAltitude word n → m ≡ n
one_altitude word m n (_, (c, inl x)) (_, (d, inl y)) = x.1 ∙ ap (λ (k : ℕ). 10000000 + k) (one_length word c d x.0 y.0) ∙ sym y.1
one_altitude word m n (_, (c, inl x)) (_, (d, inr y)) = absurd (no_sign word y.0 c y.1 x.0)
one_altitude word m n (_, (c, inr x)) (_, (d, inl y)) = absurd (no_sign word x.0 d x.1 y.0)
one_altitude word m n (_, (c, inr x)) (_, (d, inr y)) =
    let same : x.0 ≡ y.0 = ap (λ (t : List ℕ). drop 1 t) (sym x.1 ∙ y.1) in
    let depth = one_length y.0 c d (subst (λ (t : List ℕ). IsLength t c) same x.2) y.2 in
    let first = x.3 in
    let second = y.3 in
    omega (arith, depth)

-- a length is rounded to one size
unit_some : (k : ℕ) → 1 ≤ 10 ^ k
unit_some k = let power = pow-le-pow_right {n = 10} (omega arith) {i = 0} {j = k} (omega arith) in omega (arith, power)

size_some : (octet : ℕ) → 1 ≤ octet / 16 → 1 ≤ size_of octet
size_some octet some =
    let size = mul-le-mul_right (10 ^ (octet % 16)) some in
    let unit = unit_some (octet % 16) in
    omega (arith, size, unit)

no_lower : (c d e d' e' : ℕ) → d < 10 → 1 ≤ d' → c < d * 10 ^ e + 10 ^ e → d' * 10 ^ e' ≤ c → e < e' → ⊥
no_lower c d e d' e' small some high low order =
    let power = pow-le-pow_right {n = 10} (omega arith) {i = suc e} {j = e'} (omega arith) in
    let next = pow-suc 10 e in
    let digit : d + 1 ≤ 10 = omega arith in
    let ten = mul-le-mul_right (10 ^ e) digit in
    let size = mul-le-mul_right (10 ^ e') some in
    omega (arith, power, next, ten, size, high, low)

no_less : (c d d' e : ℕ) → c < d * 10 ^ e + 10 ^ e → d' * 10 ^ e ≤ c → d < d' → ⊥
no_less c d d' e high low order =
    let next : d + 1 ≤ d' = omega arith in
    let size = mul-le-mul_right (10 ^ e) next in
    omega (arith, size, high, low)

abbrev IsPart : ℕ → ℕ → ℕ → Type 0
IsPart c d e = (d * 10 ^ e ≤ c) × (c < d * 10 ^ e + 10 ^ e)

one_unit : (c d e d' e' : ℕ) → 1 ≤ d → d < 10 → 1 ≤ d' → d' < 10 → IsPart c d e → IsPart c d' e' → e ≡ e'
one_unit c d e d' e' some small some' small' a b =
    elim (cases_lt e e') [
      | inl less ↦ absurd (no_lower c d e d' e' small some' a.1 b.0 less)
      | inr more ↦ elim (cases_lt e' e) [
        | inl less ↦ absurd (no_lower c d' e' d e small' some b.1 a.0 less)
        | inr more' ↦ omega arith
      ]
    ]

one_digit : (c d d' e : ℕ) → IsPart c d e → IsPart c d' e → d ≡ d'
one_digit c d d' e a b =
    elim (cases_lt d d') [
      | inl less ↦ absurd (no_less c d d' e a.1 b.0 less)
      | inr more ↦ elim (cases_lt d' d) [
        | inl less ↦ absurd (no_less c d' d e b.1 a.0 less)
        | inr more' ↦ omega arith
      ]
    ]

no_zero_size : (c m n : ℕ) → m ≡ 0 → 1 ≤ n / 16 → IsRounded c m → IsRounded c n → ⊥
no_zero_size c m n none some a b =
    let high = a.2 in
    let low = b.1 in
    let size = ap (λ (k : ℕ). size_of k + 10 ^ (k % 16)) none in
    omega (arith, high, low, size, size_some n some)

one_rounded : (c m n : ℕ) → IsRounded c m → IsRounded c n → m ≡ n
one_rounded c m n a b =
    elim (size_cases m a.0) [
      | inl none ↦ elim (size_cases n b.0) [
        | inl none' ↦ none ∙ sym none'
        | inr parts ↦ absurd (no_zero_size c m n none parts.0 a b)
      ]
      | inr parts ↦ elim (size_cases n b.0) [
        | inl none ↦ absurd (no_zero_size c n m none parts.0 b a)
        | inr parts' ↦
            (let units = one_unit c (m / 16) (m % 16) (n / 16) (n % 16) parts.0 parts.1 parts'.0 parts'.1 (a.1, a.2) (b.1, b.2) in
            let digits = one_digit c (m / 16) (n / 16) (n % 16) (subst (λ (e : ℕ). IsPart c (m / 16) e) units (a.1, a.2)) (b.1, b.2) in
            omega (arith, units, digits))
      ]
    ]

one_size : (word : List ℕ) (m n : ℕ) → IsSize word m → IsSize word n → m ≡ n
one_size word m n a b = one_rounded b.0 m n (subst (λ (c : ℕ). IsRounded c m) (one_length word a.0 b.0 a.1 b.1) a.2) b.2

one_size_at : (words : List (Bor (List ℕ))) (index default m n : ℕ) → IsSizeAt words index default m → IsSizeAt words index default n → m ≡ n
one_size_at words index default m n a b = by_word (slice_get words index) a b where
  by_word : (o : Option (Bor (List ℕ))) → MatchOption o (m ≡ default) (λ (w : Bor (List ℕ)). IsSize w.now m) → MatchOption o (n ≡ default) (λ (w : Bor (List ℕ)). IsSize w.now n) → m ≡ n
  by_word None a b = a ∙ sym b
  by_word (Some w) a b = one_size w.now m n a b

one_item : (words : List (Bor (List ℕ))) (x y : LocationItem) → AreLocationWords words x → AreLocationWords words y → x ≡ y
one_item words x y a b =
    let after = same_after (codes "N") (codes "S") (refl, refl) 324000000 words x.latitude y.latitude a.after_latitude b.after_latitude a.latitude b.latitude in
    let second =
    subst (λ (ws : List (Bor (List ℕ))). BeginsWithAngle 648000000 (codes "E") (codes "W") ws y.longitude (b.altitude ∷ b.sizes)) (sym after) b.longitude in
    let left =
    same_after (codes "E") (codes "W") (refl, refl) 648000000 a.after_latitude x.longitude y.longitude (a.altitude ∷ a.sizes) (b.altitude ∷ b.sizes) a.longitude second in
    let word : a.altitude ≡ b.altitude = cc left in
    let sizes : a.sizes ≡ b.sizes = cc left in
    let are = subst (λ (ws : List (Bor (List ℕ))). AreSizes ws x.size x.horizontal x.vertical) sizes a.are_sizes in
    let latitude =
    one_begin (codes "N") (codes "S") (refl, refl) (λ e. omega (arith, ap (λ (t : List ℕ). get_or t 0 0) e)) 324000000 words x.latitude y.latitude a.after_latitude b.after_latitude a.latitude
    b.latitude in
    let longitude =
    one_begin (codes "E") (codes "W") (refl, refl) (λ e. omega (arith, ap (λ (t : List ℕ). get_or t 0 0) e)) 648000000 a.after_latitude x.longitude y.longitude (a.altitude ∷ a.sizes)
    (b.altitude ∷ b.sizes) a.longitude second in
    let altitude = one_altitude b.altitude.now x.altitude y.altitude (subst (λ (w : Bor (List ℕ)). IsAltitude w.now x.altitude) word a.is_altitude) b.is_altitude in
    let size = one_size_at b.sizes 0 0x12 x.size y.size are.is_size b.are_sizes.is_size in
    let horizontal = one_size_at b.sizes 1 0x16 x.horizontal y.horizontal are.is_horizontal b.are_sizes.is_horizontal in
    let vertical = one_size_at b.sizes 2 0x13 x.vertical y.vertical are.is_vertical b.are_sizes.is_vertical in
    λ i. record { size = size i; horizontal = horizontal i; vertical = vertical i; latitude = latitude i; longitude = longitude i; altitude = altitude i }

-- Words represent at most one location.
pub one_location : (words : List (Bor (List ℕ))) (xs ys : List ℕ) → IsLocation words xs → IsLocation words ys → xs ≡ ys
one_location words xs ys a b = a.2 ∙ ap location_octets (one_item words a.0 b.0 a.1 b.1) ∙ sym b.2
