-- Printed locations read back.
use Rattle.std.proofs.Common.{◌≡◌, ◌≢◌, ◌∙◌, ℕ, zero, suc, ◌+◌, ◌/◌, ◌%◌, ◌^◌, ◌<◌, ◌≤◌, ◌==◌, ◌&&◌, Bool, true, false, List, [], ◌∷◌, ◌++◌, length, get_or, decimal, refl, sym, ap, subst, arith, inl, inr, append_assoc, append-nil}
use Rattle.std.specs.Prelude.{Some, None, All, map, codes, nat_lt, if◌then◌else◌}
use Rattle.std.specs.Borrow.{Bor}
use Rattle.std.specs.Char.{digit_value}
use Rattle.std.specs.Int.{abs_diff, from_be_bytes, to_be_bytes, w32}
use Rattle.std.specs.Net.Grammar.{IsNumber}
use Rattle.std.specs.Str.{str_to_ascii_lowercase}
use Rattle.std.proofs.Math.Nat.{pow-le-pow_right}
use Rattle.std.proofs.lemmas.Bool.{and_parts, cases_lt, cond-false, cond-true, eqb-true, leb-true, le-ltb, lt-ltb}
use Rattle.std.proofs.lemmas.Fmt.{decimal_is_IsNumeral}
use Rattle.std.proofs.lemmas.List.Elements.{All-head, All-tail}
use Rattle.std.proofs.lemmas.Nat.{be_bytes_4, from_be_bytes-to_be_bytes_4, mul-le}
use Rattle.std.proofs.lemmas.Str.{digit_value_digit}
use Rattle.hex.specs.Hex.{IsBytes}
use Rattle.fields_text.specs.Separated.{separated, spaced}
use Rattle.fields_forms.specs.LocationItems.{LocationItem, location_if, location_of, location_text}
use Rattle.fields_forms.specs.LocationLaws.{LocationOctetsAreRead, ReadLocationsHaveOctets}
use Rattle.fields_forms.specs.Locations.{altitude_text, are_printable, is_angle, is_size, metres_text, middle, seconds_text, size_of}
use Rattle.fields_plain.specs.Time.{two_digits}
use Rattle.fields_forms.specs.LocationWords.{AreLocationWords, AreSizes, BeginsWithAngle, IsAltitude, IsAngle, IsDecimal, IsDirected, IsLength, IsLocation, IsSize, location_octets}
use Rattle.fields_forms.proofs.theory.LocationLemmas.{Without, decimal_without, digits_without, length_without, size_cases}
use Rattle.fields_forms.proofs.theory.LocationNumbers.{four_bound}

-- texts without spaces
abbrev IsWord : List ℕ → Type 0
IsWord text = Without 32 text

abbrev AreWords : List (List ℕ) → Type 0
AreWords [] = Unit {0}
AreWords (text ∷ texts) = IsWord text × AreWords texts

-- a text is empty or begins with a space
abbrev AtSpace : List ℕ → Type 0
AtSpace [] = Unit {0}
AtSpace (c ∷ text) = c ≡ 32

abbrev after_spaces : List (List ℕ) → List ℕ
after_spaces texts = separated (codes " ") (codes " ") texts

at_space : (texts : List (List ℕ)) → AtSpace (after_spaces texts)
at_space [] = tt
at_space (text ∷ texts) = refl

same_word : (x y u v : List ℕ) → IsWord x → IsWord y → AtSpace u → AtSpace v → x ++ u ≡ y ++ v → (x ≡ y) × (u ≡ v)
same_word [] [] u v a b c d e = (refl, e)
same_word [] (y ∷ ys) [] v a b c d e = cc
same_word [] (y ∷ ys) (w ∷ u) v a b c d e = let same : y ≡ w = cc in absurd (b.0 (same ∙ c))
same_word (x ∷ xs) [] u [] a b c d e = cc
same_word (x ∷ xs) [] u (w ∷ v) a b c d e = let same : x ≡ w = cc in absurd (a.0 (same ∙ d))
same_word (x ∷ xs) (y ∷ ys) u v a b c d e =
    let first : x ≡ y = cc in
    let others : xs ++ u ≡ ys ++ v = cc in
    let rest = same_word xs ys u v a.1 b.1 c d others in
    let front = rest.0 in
    (cc (first, front), rest.1)

same_after : (xs ys : List (List ℕ)) → AreWords xs → AreWords ys → after_spaces xs ≡ after_spaces ys → xs ≡ ys
same_after [] [] a b e = refl
same_after [] (y ∷ ys) a b e = cc
same_after (x ∷ xs) [] a b e = cc
same_after (x ∷ xs) (y ∷ ys) a b e =
    let texts : x ++ after_spaces xs ≡ y ++ after_spaces ys = cc in
    let parts = same_word x y (after_spaces xs) (after_spaces ys) a.0 b.0 (at_space xs) (at_space ys) texts in
    let first = parts.0 in
    let others = same_after xs ys a.1 b.1 parts.1 in
    cc (first, others)

-- the words between spaces
same_words : (xs ys : List (List ℕ)) → AreWords xs → AreWords ys → 2 ≤ length ys → spaced xs ≡ spaced ys → xs ≡ ys
same_words xs [] a b many e = absurd (omega arith)
same_words xs (y ∷ []) a b many e = absurd (omega arith)
same_words [] ([] ∷ z ∷ ys) a b many e = cc
same_words [] ((c ∷ y) ∷ z ∷ ys) a b many e = cc
same_words (x ∷ xs) (y ∷ z ∷ ys) a b many e =
    let parts = same_word x y (after_spaces xs) (after_spaces (z ∷ ys)) a.0 b.0 (at_space xs) (at_space (z ∷ ys)) e in
    let first = parts.0 in
    let others = same_after xs (z ∷ ys) a.1 b.1 parts.1 in
    cc (first, others)

-- the texts of words
abbrev texts_of : List (Bor (List ℕ)) → List (List ℕ)
texts_of words = map (λ word. word.now) words

without_space : (text : List ℕ) → All (λ octet. octet ≢ 32) text → IsWord text
without_space [] all = tt
without_space (c ∷ text) all = (All-head (λ octet. octet ≢ 32) c text all, without_space text (All-tail (λ octet. octet ≢ 32) c text all))

words_are : (words : List (Bor (List ℕ))) → All (λ word. All (λ octet. octet ≢ 32) word.now) words → AreWords (texts_of words)
words_are [] all = tt
words_are (word ∷ words) all = (
  without_space word.now (All-head (λ (word : Bor (List ℕ)). All (λ octet. octet ≢ 32) word.now) word words all),
  words_are words (All-tail (λ (word : Bor (List ℕ)). All (λ octet. octet ≢ 32) word.now) word words all),
)

-- the first word
record First (words : List (Bor (List ℕ))) (text : List ℕ) (texts : List (List ℕ)) : Type 0 where
  word : Bor (List ℕ)
  after : List (Bor (List ℕ))
  whole : words ≡ word ∷ after
  is : text ≡ word.now
  are : texts_of after ≡ texts

first_word : (words : List (Bor (List ℕ))) (text : List ℕ) (texts : List (List ℕ)) → texts_of words ≡ text ∷ texts → First words text texts
first_word [] text texts e = absurd (cc)
first_word (word ∷ words) text texts e = record { word = word; after = words; whole = refl; is = cc; are = cc }

-- numbers
number : (n : ℕ) → n < 2 ^ 64 → IsNumber 10 (decimal n) n
number n small = let numeral = decimal_is_IsNumeral n small in (numeral.0, numeral.1)

digit : (d : ℕ) → d < 10 → digit_value (48 + d) ≡ d
digit d small = let value = digit_value_digit (48 + d) (omega arith, omega arith) in omega (arith, value)

seconds_read : (n : ℕ) → n < 60000 → IsDecimal 3 59999 (seconds_text n) n
seconds_read n small =
    let whole = number (n / 1000) (omega arith) in
    let a = digit (n / 100 % 10) (omega arith) in
    let b = digit (n % 100 / 10 % 10) (omega arith) in
    let c = digit (n % 100 % 10) (omega arith) in (
      omega arith,
      inr
          (record {
            whole = decimal (n / 1000);
            decimals = (48 + n / 100 % 10) ∷ two_digits (n % 100);
            part = n % 1000;
            text = append_assoc (decimal (n / 1000)) (codes ".") ((48 + n / 100 % 10) ∷ two_digits (n % 100));
            is_whole = whole.0;
            is_part = ((omega arith, (omega (arith, a), (omega (arith, b), (omega (arith, c), tt)))), omega arith, omega (arith, a, b, c));
            value = omega (arith, whole.1);
          }),
    )

abbrev metres : ℕ → List ℕ
metres n = decimal (n / 100) ++ codes "." ++ two_digits (n % 100)

metres_read : (n : ℕ) → n ≤ 9000000000 → IsDecimal 2 9000000000 (metres n) n
metres_read n small =
    let whole = number (n / 100) (omega arith) in
    let a = digit (n % 100 / 10 % 10) (omega arith) in
    let b = digit (n % 100 % 10) (omega arith) in (
      small,
      inr
          (record {
            whole = decimal (n / 100);
            decimals = two_digits (n % 100);
            part = n % 100;
            text = append_assoc (decimal (n / 100)) (codes ".") (two_digits (n % 100));
            is_whole = whole.0;
            is_part = ((omega arith, (omega (arith, a), (omega (arith, b), tt))), omega arith, omega (arith, a, b));
            value = omega (arith, whole.1);
          }),
    )

length_read : (n : ℕ) → n ≤ 9000000000 → IsLength (metres_text n) n
length_read n small = inr (metres n, refl, metres_read n small)

-- directions
abbrev direction : List ℕ → List ℕ → ℕ → List ℕ
direction positive negative n = if nat_lt n middle then negative else positive

directed : (positive negative : List ℕ) (n : ℕ) → IsDirected positive negative (direction positive negative n) (abs_diff n middle) n
directed positive negative n = elim (cases_lt n middle) [
  | inl less ↦ inr (ap str_to_ascii_lowercase (cond-true _ _ _ (lt-ltb n middle less)), omega arith)
  | inr more ↦ inl (ap str_to_ascii_lowercase (cond-false _ _ _ (le-ltb n middle more)), omega arith)
]

-- the four words of an angle
abbrev angle_words : List ℕ → List ℕ → ℕ → List (List ℕ) → List (List ℕ)
angle_words positive negative n texts =
    decimal (abs_diff n middle / 3600000)
    ∷ decimal (abs_diff n middle / 60000 % 60)
    ∷ seconds_text (abs_diff n middle % 60000)
    ∷ direction positive negative n
    ∷ texts

angle_read : (most angle : ℕ) (a b c : Bor (List ℕ)) → angle ≤ most → most ≤ 648000000 → decimal (angle / 3600000) ≡ a.now → decimal (angle / 60000 % 60) ≡ b.now → seconds_text (angle % 60000) ≡ c.now
    → IsAngle most (a ∷ b ∷ c ∷ []) angle
angle_read most angle a b c fits small d m s = (
  angle / 3600000,
  angle % 3600000,
  subst (λ (text : List ℕ). IsNumber 10 text (angle / 3600000)) d (number (angle / 3600000) (omega arith)),
  (
    angle / 60000 % 60,
    angle % 60000,
    subst (λ (text : List ℕ). IsNumber 10 text (angle / 60000 % 60)) m (number (angle / 60000 % 60) (omega arith)),
    omega arith,
    subst (λ (text : List ℕ). IsDecimal 3 59999 text (angle % 60000)) s (seconds_read (angle % 60000) (omega arith)),
    omega arith,
  ),
  omega arith,
  fits,
)

record BeginsWith (most : ℕ) (positive negative : List ℕ) (words : List (Bor (List ℕ))) (n : ℕ) (texts : List (List ℕ)) : Type 0 where
  after : List (Bor (List ℕ))
  are : texts_of after ≡ texts
  begins : BeginsWithAngle most positive negative words n after

joined_words : (words after after' after'' left : List (Bor (List ℕ))) (a b c d : Bor (List ℕ)) → words ≡ a ∷ after → after ≡ b ∷ after' → after' ≡ c ∷ after'' → after'' ≡ d ∷ left
    → words ≡ a ∷ b ∷ c ∷ d ∷ left
joined_words words after after' after'' left a b c d p q r s = cc

angle_begins : (most : ℕ) (positive negative : List ℕ) (words : List (Bor (List ℕ))) (n : ℕ) (texts : List (List ℕ)) → abs_diff n middle ≤ most → most ≤ 648000000
    → texts_of words ≡ angle_words positive negative n texts → BeginsWith most positive negative words n texts
angle_begins most positive negative words n texts fits small e =
    let a = first_word words _ _ e in
    let b = first_word a.after _ _ a.are in
    let c = first_word b.after _ _ b.are in
    let d = first_word c.after _ _ c.are in
    record {
      after = d.after;
      are = d.are;
      begins = record {
        parts = a.word ∷ b.word ∷ c.word ∷ [];
        direction = d.word;
        angle = abs_diff n middle;
        whole = joined_words words a.after b.after c.after d.after a.word b.word c.word d.word a.whole b.whole c.whole d.whole;
        is_angle = angle_read most (abs_diff n middle) a.word b.word c.word fits small a.is b.is c.is;
        is_directed = subst (λ (text : List ℕ). IsDirected positive negative text (abs_diff n middle) n) d.is (directed positive negative n);
      };
    }

-- altitudes
altitude_read : (n : ℕ) → n < 2 ^ 32 → IsAltitude (altitude_text n) n
altitude_read n small = elim (cases_lt n 10000000) [
  | inl less ↦ (
    small,
    (
      abs_diff n 10000000,
      inr (
        metres_text (abs_diff n 10000000),
        ap (λ (sign : List ℕ). sign ++ metres_text (abs_diff n 10000000)) (cond-true _ _ _ (lt-ltb n 10000000 less)),
        length_read (abs_diff n 10000000) (omega arith),
        omega arith,
      ),
    ),
  )
  | inr more ↦ (
    small,
    (
      abs_diff n 10000000,
      inl (
        subst (λ (text : List ℕ). IsLength text (abs_diff n 10000000))
            (sym (ap (λ (sign : List ℕ). sign ++ metres_text (abs_diff n 10000000)) (cond-false _ _ _ (le-ltb n 10000000 more)))) (length_read (abs_diff n 10000000) (omega arith)),
        omega arith,
      ),
    ),
  )
]

-- sizes
size_bound : (octet : ℕ) → is_size octet ≡ true → size_of octet ≤ 9000000000
size_bound octet is = elim (size_cases octet is) [
  | inl none ↦ (let size = ap size_of none in omega (arith, size))
  | inr parts ↦ mul-le (octet / 16) (10 ^ (octet % 16)) 9 1000000000 (let high = parts.1 in omega arith)
      (pow-le-pow_right {n = 10} (omega arith) {i = octet % 16} {j = 9} (let low = parts.2 in omega arith))
]

size_read : (octet : ℕ) → is_size octet ≡ true → IsSize (metres_text (size_of octet)) octet
size_read octet is =
    let unit = pow-le-pow_right {n = 10} (omega arith) {i = 0} {j = octet % 16} (omega arith) in
    (size_of octet, length_read (size_of octet) (size_bound octet is), (is, omega arith, omega (arith, unit)))

sizes_read : (words : List (Bor (List ℕ))) (a b c : ℕ) → is_size a ≡ true → is_size b ≡ true → is_size c ≡ true
    → texts_of words ≡ metres_text (size_of a) ∷ metres_text (size_of b) ∷ metres_text (size_of c) ∷ [] → AreSizes words a b c
sizes_read [] a b c x y z e = cc
sizes_read (i ∷ []) a b c x y z e = cc
sizes_read (i ∷ j ∷ []) a b c x y z e = cc
sizes_read (i ∷ j ∷ k ∷ []) a b c x y z e = record {
  few = omega arith;
  is_size = subst (λ (text : List ℕ). IsSize text a) (cc) (size_read a x);
  is_horizontal = subst (λ (text : List ℕ). IsSize text b) (cc) (size_read b y);
  is_vertical = subst (λ (text : List ℕ). IsSize text c) (cc) (size_read c z);
}
sizes_read (i ∷ j ∷ k ∷ l ∷ words) a b c x y z e = cc

-- the words of a location
abbrev last_words : LocationItem → List (List ℕ)
last_words item = altitude_text item.altitude ∷ metres_text (size_of item.size) ∷ metres_text (size_of item.horizontal) ∷ metres_text (size_of item.vertical) ∷ []

abbrev after_latitude : LocationItem → List (List ℕ)
after_latitude item = angle_words (codes "E") (codes "W") item.longitude (last_words item)

abbrev location_words : LocationItem → List (List ℕ)
location_words item = angle_words (codes "N") (codes "S") item.latitude (after_latitude item)

-- that they have a presentation format
record IsPrintable (item : LocationItem) : Type 0 where
  size : is_size item.size ≡ true
  horizontal : is_size item.horizontal ≡ true
  vertical : is_size item.vertical ≡ true
  latitude : abs_diff item.latitude middle ≤ 324000000
  longitude : abs_diff item.longitude middle ≤ 648000000
  altitude : item.altitude < 2 ^ 32

location_read : (words : List (Bor (List ℕ))) (item : LocationItem) → IsPrintable item → texts_of words ≡ location_words item → AreLocationWords words item
location_read words item printable e =
    let first = angle_begins 324000000 (codes "N") (codes "S") words item.latitude (after_latitude item) printable.latitude (omega arith) e in
    let second = angle_begins 648000000 (codes "E") (codes "W") first.after item.longitude (last_words item) printable.longitude (omega arith) first.are in
    let third = first_word second.after _ _ second.are in
    record {
      after_latitude = first.after;
      altitude = third.word;
      sizes = third.after;
      latitude = first.begins;
      longitude = subst (λ (words : List (Bor (List ℕ))). BeginsWithAngle 648000000 (codes "E") (codes "W") first.after item.longitude words) third.whole second.begins;
      is_altitude = subst (λ (text : List ℕ). IsAltitude text item.altitude) third.is (altitude_read item.altitude printable.altitude);
      are_sizes = sizes_read third.after item.size item.horizontal item.vertical printable.size printable.horizontal printable.vertical third.are;
    }

-- these words have no spaces
decimal_word : (n : ℕ) → n < 2 ^ 64 → IsWord (decimal n)
decimal_word n small = digits_without 32 (omega arith) (decimal n) (number n small).0.1

length_word : (n : ℕ) → n ≤ 9000000000 → IsWord (metres_text n)
length_word n small = length_without 32 (omega arith) (λ e. omega arith) (λ e. omega arith) (metres_text n) n (length_read n small)

letter_word : (b : Bool) (x y : ℕ) → x ≢ 32 → y ≢ 32 → IsWord (if b then x ∷ [] else y ∷ [])
letter_word true x y a b = (a, tt)
letter_word false x y a b = (b, tt)

sign_word : (b : Bool) (text : List ℕ) → IsWord text → IsWord ((if b then codes "-" else []) ++ text)
sign_word true text is = (λ e. omega arith, is)
sign_word false text is = is

angle_are_words : (x y n : ℕ) (texts : List (List ℕ)) → x ≢ 32 → y ≢ 32 → abs_diff n middle ≤ 648000000 → AreWords texts → AreWords (angle_words (x ∷ []) (y ∷ []) n texts)
angle_are_words x y n texts a b fits are = (
  decimal_word (abs_diff n middle / 3600000) (omega arith),
  (
    decimal_word (abs_diff n middle / 60000 % 60) (omega arith),
    (
      decimal_without 32 (omega arith) (λ e. omega arith) 3 59999 (seconds_text (abs_diff n middle % 60000)) (abs_diff n middle % 60000)
          (seconds_read (abs_diff n middle % 60000) (omega arith)),
      (letter_word (nat_lt n middle) y x b a, are),
    ),
  ),
)

location_are_words : (item : LocationItem) → IsPrintable item → AreWords (location_words item)
location_are_words item printable =
    angle_are_words 78 83 item.latitude (after_latitude item) (λ e. omega arith) (λ e. omega arith) (let most = printable.latitude in omega arith)
    (angle_are_words 69 87 item.longitude (last_words item) (λ e. omega arith) (λ e. omega arith) printable.longitude (
      sign_word (nat_lt item.altitude 10000000) (metres_text (abs_diff item.altitude 10000000))
          (length_word (abs_diff item.altitude 10000000) (let small = printable.altitude in omega arith)),
      (
        length_word (size_of item.size) (size_bound item.size printable.size),
        (
          length_word (size_of item.horizontal) (size_bound item.horizontal printable.horizontal),
          (length_word (size_of item.vertical) (size_bound item.vertical printable.vertical), tt),
        ),
      ),
    ))

-- the text of a location is these words with spaces between them
twelve_words : (a b c d e f g h i j k l : List ℕ)
    → (a ++ codes " " ++ b ++ codes " " ++ c ++ codes " " ++ d ++ (codes " " ++ (e ++ codes " " ++ f ++ codes " " ++ g ++ codes " " ++ h ++ codes " ")))
    ++ (i ++ (codes " " ++ j ++ (codes " " ++ k ++ (codes " " ++ l))))
    ≡ spaced (a ∷ b ∷ c ∷ d ∷ e ∷ f ∷ g ∷ h ∷ i ∷ j ∷ k ∷ l ∷ [])
twelve_words a b c d e f g h i j k l = simp (append_assoc, append-nil)

text_is : (item : LocationItem) → location_text item ≡ spaced (location_words item)
text_is item =
    twelve_words (decimal (abs_diff item.latitude middle / 3600000)) (decimal (abs_diff item.latitude middle / 60000 % 60)) (seconds_text (abs_diff item.latitude middle % 60000))
    (direction (codes "N") (codes "S") item.latitude) (decimal (abs_diff item.longitude middle / 3600000)) (decimal (abs_diff item.longitude middle / 60000 % 60))
    (seconds_text (abs_diff item.longitude middle % 60000)) (direction (codes "E") (codes "W") item.longitude) (altitude_text item.altitude) (metres_text (size_of item.size))
    (metres_text (size_of item.horizontal)) (metres_text (size_of item.vertical))

-- the octets of a location
four_bytes : (a b c d : ℕ) → a < 256 → b < 256 → c < 256 → d < 256 → (i : ℕ) → get_or (a ∷ b ∷ c ∷ d ∷ []) i 0 < 256
four_bytes a b c d x y z w zero = x
four_bytes a b c d x y z w (suc zero) = y
four_bytes a b c d x y z w (suc (suc zero)) = z
four_bytes a b c d x y z w (suc (suc (suc zero))) = w
four_bytes a b c d x y z w (suc (suc (suc (suc i)))) = omega arith

four_again : (a b c d : ℕ) → a < 256 → b < 256 → c < 256 → d < 256 → to_be_bytes w32 (from_be_bytes w32 (a ∷ b ∷ c ∷ d ∷ [])) ≡ a ∷ b ∷ c ∷ d ∷ []
four_again a b c d x y z w = be_bytes_4 (a ∷ b ∷ c ∷ d ∷ []) (from_be_bytes w32 (a ∷ b ∷ c ∷ d ∷ [])) refl (four_bytes a b c d x y z w) refl

joined : (x y z x' y' z' : List ℕ) → x ≡ x' → y ≡ y' → z ≡ z' → x' ++ (y' ++ z') ≡ x ++ (y ++ z)
joined x y z x' y' z' p q r = cc

some_if : (b : Bool) (x y : LocationItem) → (if b then Some x else None) ≡ Some y → (b ≡ true) × (x ≡ y)
some_if true x y e = (refl, cc)
some_if false x y e = absurd (cc)

printable_is : (item : LocationItem) → are_printable item.size item.horizontal item.vertical item.latitude item.longitude ≡ true → item.altitude < 2 ^ 32 → IsPrintable item
printable_is item e small =
    let a = and_parts (is_size item.size && is_size item.horizontal && is_size item.vertical && is_angle 324000000 item.latitude) (is_angle 648000000 item.longitude) e in
    let b = and_parts (is_size item.size && is_size item.horizontal && is_size item.vertical) (is_angle 324000000 item.latitude) a.0 in
    let c = and_parts (is_size item.size && is_size item.horizontal) (is_size item.vertical) b.0 in
    let d = and_parts (is_size item.size) (is_size item.horizontal) c.0 in
    record {
      size = d.0;
      horizontal = d.1;
      vertical = c.1;
      latitude = leb-true (abs_diff item.latitude middle) 324000000 b.1;
      longitude = leb-true (abs_diff item.longitude middle) 648000000 a.1;
      altitude = small;
    }

abbrev HasOctets : List ℕ → LocationItem → Type 0
HasOctets octets item = (octets ≡ location_octets item) × IsPrintable item

octets_are : (octets : List ℕ) (item : LocationItem) → IsBytes octets → location_of octets ≡ Some item → HasOctets octets item
octets_are (v ∷ s ∷ t ∷ u ∷ a ∷ b ∷ c ∷ d ∷ e ∷ f ∷ g ∷ h ∷ i ∷ j ∷ k ∷ l ∷ []) item bytes is =
    let made : LocationItem = record {
      size = s;
      horizontal = t;
      vertical = u;
      latitude = from_be_bytes w32 (a ∷ b ∷ c ∷ d ∷ []);
      longitude = from_be_bytes w32 (e ∷ f ∷ g ∷ h ∷ []);
      altitude = from_be_bytes w32 (i ∷ j ∷ k ∷ l ∷ []);
    } in
    let found = some_if ((v == 0) && are_printable s t u made.latitude made.longitude) made item is in
    let tests = and_parts (v == 0) (are_printable s t u made.latitude made.longitude) found.0 in
    let tail : a ∷ b ∷ c ∷ d ∷ e ∷ f ∷ g ∷ h ∷ i ∷ j ∷ k ∷ l ∷ [] ≡ to_be_bytes w32 made.latitude ++ (to_be_bytes w32 made.longitude ++ to_be_bytes w32 made.altitude) =
    joined (to_be_bytes w32 made.latitude) (to_be_bytes w32 made.longitude) (to_be_bytes w32 made.altitude) (a ∷ b ∷ c ∷ d ∷ []) (e ∷ f ∷ g ∷ h ∷ []) (i ∷ j ∷ k ∷ l ∷ [])
    (four_again a b c d (bytes 4) (bytes 5) (bytes 6) (bytes 7)) (four_again e f g h (bytes 8) (bytes 9) (bytes 10) (bytes 11))
    (four_again i j k l (bytes 12) (bytes 13) (bytes 14) (bytes 15)) in
    subst (λ (item : LocationItem). HasOctets (v ∷ s ∷ t ∷ u ∷ a ∷ b ∷ c ∷ d ∷ e ∷ f ∷ g ∷ h ∷ i ∷ j ∷ k ∷ l ∷ []) item) found.1 (
      ap (λ (n : ℕ). n ∷ s ∷ t ∷ u ∷ a ∷ b ∷ c ∷ d ∷ e ∷ f ∷ g ∷ h ∷ i ∷ j ∷ k ∷ l ∷ []) (eqb-true v 0 tests.0) ∙ ap (λ (octets : List ℕ). 0 ∷ s ∷ t ∷ u ∷ octets) tail,
      printable_is made tests.1 (four_bound i j k l (bytes 12) (bytes 13) (bytes 14) (bytes 15)),
    )
octets_are octets item bytes is = absurd (cc)

-- a printed location reads back
pub locations_read_back : (words : List (Bor (List ℕ))) (octets : List ℕ) (item : LocationItem) → IsBytes octets → location_of octets ≡ Some item
    → spaced (texts_of words) ≡ location_text item → All (λ word. All (λ octet. octet ≢ 32) word.now) words → IsLocation words octets
locations_read_back words octets item bytes is text spaces =
    let has = octets_are octets item bytes is in
    let texts = same_words (texts_of words) (location_words item) (words_are words spaces) (location_are_words item has.1) (omega arith) (text ∙ text_is item) in
    (item, location_read words item has.1 texts, has.0)

-- The octets that a location is read of are its octets.
pub location_octets_are : ReadLocationsHaveOctets
location_octets_are octets item bytes is = (octets_are octets item bytes is).0

-- A location is read of its octets.
pub octets_read : LocationOctetsAreRead
octets_read item fits printable =
    let latitude = from_be_bytes-to_be_bytes_4 item.latitude fits.latitude in
    let longitude = from_be_bytes-to_be_bytes_4 item.longitude fits.longitude in
    let altitude = from_be_bytes-to_be_bytes_4 item.altitude fits.altitude in
    (λ i. location_if 0 (record {
      size = item.size;
      horizontal = item.horizontal;
      vertical = item.vertical;
      latitude = latitude i;
      longitude = longitude i;
      altitude = altitude i;
    }))
    ∙ cond-true _ _ _ printable
