-- The words of locations.
use Rattle.std.proofs.Common.{◌≡◌, ◌∙◌, ℕ, ◌+◌, ◌*◌, ◌/◌, ◌%◌, ◌^◌, ◌<◌, ◌≤◌, Bool, true, false, List, [], ◌∷◌, ◌++◌, decimal, refl, sym, ap, subst, arith, append_assoc}
use Rattle.std.specs.Prelude.{if◌then◌else◌, codes, nat_lt}
use Rattle.std.specs.Int.{abs_diff}
use Rattle.std.proofs.Math.Nat.{pow-le-pow_right, mul-le-mul_left}
use Rattle.fields_forms.specs.LocationItems.{LocationItem, location_text}
use Rattle.fields_forms.specs.Locations.{altitude_text, angle_text, direction_text, metres_text, middle, seconds_text, size_of, size_text}
use Rattle.fields_plain.specs.Time.{two_digits}
use Rattle.fields_text.specs.LineWords.{AreWordsOf, is_plain}
use Rattle.fields_text.proofs.theory.WordTexts.IsBare.{nothing, plain}
use Rattle.fields_forms.specs.LocationLaws.{FitsLocation, angle_words, direction_words, location_words}
use Rattle.fields_text.proofs.theory.SpacedTexts.{then_word, AreSpaced, one_word, spaced_append, words_are}
use Rattle.fields_text.proofs.theory.SpacedTexts.AreSpaced.{space, word as first_word}
use Rattle.fields_text.proofs.theory.WordTexts.{IsBareWord, decimal_word, digit_plain, is_word, word_append}
use Rattle.fields_plain.proofs.theory.WordTexts.{two_rest}

-- numbers with decimals
seconds_word : (n : ℕ) → n < 2 ^ 64 → IsBareWord (seconds_text n)
seconds_word n small =
    let whole = word_append (decimal (n / 1000)) (codes ".") (decimal_word (n / 1000) (omega arith)) (plain refl nothing) in
    word_append (decimal (n / 1000) ++ codes ".") ((48 + n / 100 % 10) ∷ two_digits (n % 100)) whole (plain (digit_plain (n / 100 % 10) (omega arith)) (two_rest (n % 100) [] nothing))

metres_word : (n : ℕ) → n < 2 ^ 64 → IsBareWord (metres_text n)
metres_word n small =
    let whole = word_append (decimal (n / 100)) (codes ".") (decimal_word (n / 100) (omega arith)) (plain refl nothing) in
    let digits = word_append (decimal (n / 100) ++ codes ".") (two_digits (n % 100)) whole (two_rest (n % 100) [] nothing) in
    word_append (decimal (n / 100) ++ codes "." ++ two_digits (n % 100)) (codes "m") digits (plain refl nothing)

-- angles
angle_spaced : (n : ℕ) → n < 2 ^ 64 → AreSpaced (angle_text n) (angle_words n)
angle_spaced n small =
    let one = one_word (decimal (n / 3600000)) (is_word (decimal_word (n / 3600000) (omega arith))) in
    let two = then_word (decimal (n / 3600000)) (decimal (n / 60000 % 60)) (decimal (n / 3600000) ∷ []) one (is_word (decimal_word (n / 60000 % 60) (omega arith))) in
    then_word (decimal (n / 3600000) ++ codes " " ++ decimal (n / 60000 % 60)) (seconds_text (n % 60000)) (decimal (n / 3600000) ∷ decimal (n / 60000 % 60) ∷ []) two
    (is_word (seconds_word (n % 60000) (omega arith)))

side_word : (positive negative : List ℕ) → IsBareWord positive → IsBareWord negative → (b : Bool) → IsBareWord (if b then negative else positive)
side_word positive negative p n true = n
side_word positive negative p n false = p

-- The distance of two numbers of 32 bits has 64 bits.
pub distance_small : (n m : ℕ) → n < 2 ^ 32 → m < 2 ^ 32 → abs_diff n m < 2 ^ 64
distance_small n m a b = omega arith

direction_spaced : (positive negative : List ℕ) (n : ℕ) → n < 2 ^ 32 → IsBareWord positive → IsBareWord negative → AreSpaced (direction_text positive negative n) (direction_words positive negative n)
direction_spaced positive negative n small p q =
    let far = distance_small n middle small (omega arith) in
    then_word (angle_text (abs_diff n middle)) (if nat_lt n middle then negative else positive) (angle_words (abs_diff n middle)) (angle_spaced (abs_diff n middle) far)
    (is_word (side_word positive negative p q (nat_lt n middle)))

-- sizes
pub size_small : (octet : ℕ) → octet < 256 → size_of octet < 2 ^ 64
size_small octet small =
    let few : octet % 16 ≤ 15 = omega arith in
    let power : 10 ^ (octet % 16) ≤ 10 ^ 15 = pow-le-pow_right (omega arith) few in
    let most : octet / 16 * 10 ^ (octet % 16) ≤ octet / 16 * 10 ^ 15 = mul-le-mul_left (octet / 16) power in
    omega (arith, most)

size_spaced : (octet : ℕ) → octet < 256 → AreSpaced (size_text octet) (metres_text (size_of octet) ∷ [])
size_spaced octet small = space (one_word (metres_text (size_of octet)) (is_word (metres_word (size_of octet) (size_small octet small))))

-- an altitude
below_word : (b : Bool) (text : List ℕ) → IsBareWord text → IsBareWord ((if b then codes "-" else []) ++ text)
below_word true text is = (omega arith, plain refl is.1)
below_word false text is = is

altitude_word : (n : ℕ) → n < 2 ^ 32 → IsBareWord (altitude_text n)
altitude_word n small =
    below_word (nat_lt n 10000000) (metres_text (abs_diff n 10000000)) (metres_word (abs_diff n 10000000) (distance_small n 10000000 small (omega arith)))

-- a location
letter : (c : ℕ) → is_plain false c ≡ true → IsBareWord (c ∷ [])
letter c is = (omega arith, plain is nothing)

-- The text of a location is its words, each after a space.
pub location_spaced : (item : LocationItem) → FitsLocation item → AreSpaced (location_text item) (location_words item)
location_spaced item fits =
    let s = size_spaced item.size fits.size in
    let h = size_spaced item.horizontal fits.horizontal in
    let v = size_spaced item.vertical fits.vertical in
    let two = spaced_append (size_text item.horizontal) (size_text item.vertical) _ _ h refl v in
    let three = spaced_append (size_text item.size) (size_text item.horizontal ++ size_text item.vertical) _ _ s refl two in
    let sizes : List ℕ = size_text item.size ++ (size_text item.horizontal ++ size_text item.vertical) in
    let altitude = first_word (altitude_text item.altitude) (is_word (altitude_word item.altitude fits.altitude)) refl three in
    let last : List ℕ = altitude_text item.altitude ++ sizes in
    let north = direction_spaced (codes "N") (codes "S") item.latitude fits.latitude (letter 78 refl) (letter 83 refl) in
    let east = direction_spaced (codes "E") (codes "W") item.longitude fits.longitude (letter 69 refl) (letter 87 refl) in
    let first : List ℕ = direction_text (codes "N") (codes "S") item.latitude in
    let second : List ℕ = direction_text (codes "E") (codes "W") item.longitude in
    let after = spaced_append second (codes " " ++ last) _ _ east refl (space altitude) in
    let all = spaced_append first (codes " " ++ (second ++ (codes " " ++ last))) _ _ north refl (space after) in
    let whole : (first ++ (codes " " ++ (second ++ codes " "))) ++ last ≡ first ++ (codes " " ++ (second ++ (codes " " ++ last))) =
    append_assoc first (codes " " ++ (second ++ codes " ")) last ∙ ap (λ (xs : List ℕ). first ++ (codes " " ++ xs)) (append_assoc second (codes " ") last) in
    subst (λ (xs : List ℕ). AreSpaced xs (location_words item)) (sym whole) all

-- The text of a location is split into its words.
pub locations_split : (item : LocationItem) → FitsLocation item → AreWordsOf (location_text item) (location_words item)
locations_split item fits = words_are _ _ (location_spaced item fits)
