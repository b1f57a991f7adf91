-- Printed locations read back.
use Rattle.std.proofs.Common.{◌≡◌, ◌∙◌, ℕ, ◌+◌, ◌/◌, ◌%◌, ◌^◌, ◌<◌, Bool, true, false, List, [], ◌∷◌, ◌++◌, decimal, refl, sym, ap, subst, arith, append_assoc, append-nil}
use Rattle.std.specs.Prelude.{All, Option, Some, None, option_map, codes, nat_lt, if◌then◌else◌}
use Rattle.std.specs.Int.{abs_diff}
use Rattle.std.specs.List.{AllByRecursion}
use Rattle.std.proofs.lemmas.List.Elements.{All-cons, All-from_recursion}
use Rattle.hex.specs.Hex.{IsBytes}
use Rattle.fields_forms.specs.LocationItems.{LocationItem, location_of, location_text}
use Rattle.fields_forms.specs.Locations.{altitude_text, metres_text, middle, seconds_text, size_of}
use Rattle.fields_plain.specs.Time.{two_digits}
use Rattle.fields_text.specs.Separated.{spaced}
use Rattle.fields_text.specs.LineWords.{AreWordsOf, texts}
use Rattle.fields_forms.specs.LocationLaws.{FitsLocation, LocationsSplit, location_words}
use Rattle.fields_text.proofs.theory.LineLemmas.{one_list}
use Rattle.fields_forms.specs.Laws.{LocationsReadBack}
use Rattle.fields_forms.specs.LocationWords.{IsLocation}
use Rattle.fields_text.specs.PrintedWords.{HasNoSpace}
use Rattle.fields_text.proofs.theory.SpaceLemmas.{NotSpace, both_clear, decimal_clear, dot_clear, one_clear}
use Rattle.fields_records.specs.FieldWords.{Words}
use Rattle.fields_records.proofs.PrintedTexts.{own_clear}
use Rattle.fields_forms.proofs.theory.LocationTexts.{distance_small, size_small}
use Rattle.fields_forms.proofs.theory.LocationNumbers.{four_bound}

-- numbers with decimals have no spaces
two_clear : (n : ℕ) → HasNoSpace (two_digits n)
two_clear n = All-cons NotSpace (48 + n / 10 % 10) ((48 + n % 10) ∷ []) (λ e. omega (arith, e)) (one_clear (48 + n % 10) (λ e. omega (arith, e)))

seconds_clear : (n : ℕ) → n < 2 ^ 64 → HasNoSpace (seconds_text n)
seconds_clear n small =
    both_clear (decimal (n / 1000) ++ codes ".") ((48 + n / 100 % 10) ∷ two_digits (n % 100)) (both_clear (decimal (n / 1000)) (codes ".") (decimal_clear (n / 1000) (omega arith)) dot_clear)
    (All-cons NotSpace (48 + n / 100 % 10) (two_digits (n % 100)) (λ e. omega (arith, e)) (two_clear (n % 100)))

metres_clear : (n : ℕ) → n < 2 ^ 64 → HasNoSpace (metres_text n)
metres_clear n small =
    both_clear (decimal (n / 100) ++ codes "." ++ two_digits (n % 100)) (codes "m")
    (both_clear (decimal (n / 100) ++ codes ".") (two_digits (n % 100)) (both_clear (decimal (n / 100)) (codes ".") (decimal_clear (n / 100) (omega arith)) dot_clear) (two_clear (n % 100)))
    (one_clear 109 (λ e. omega arith))

-- nor have directions and signs
letter_clear : (b : Bool) (x y : ℕ) → NotSpace x → NotSpace y → HasNoSpace (if b then x ∷ [] else y ∷ [])
letter_clear true x y a b = one_clear x a
letter_clear false x y a b = one_clear y b

sign_clear : (b : Bool) (text : List ℕ) → HasNoSpace text → HasNoSpace ((if b then codes "-" else []) ++ text)
sign_clear true text clear = All-cons NotSpace 45 text (λ e. omega arith) clear
sign_clear false text clear = clear

-- a location
location_clear : (item : LocationItem) → FitsLocation item → AllByRecursion HasNoSpace (location_words item)
location_clear item fits =
    let north = distance_small item.latitude middle fits.latitude (omega arith) in
    let east = distance_small item.longitude middle fits.longitude (omega arith) in
    let high = distance_small item.altitude 10000000 fits.altitude (omega arith) in (
      decimal_clear (abs_diff item.latitude middle / 3600000) (omega (arith, north)),
      (
        decimal_clear (abs_diff item.latitude middle / 60000 % 60) (omega (arith, north)),
        (
          seconds_clear (abs_diff item.latitude middle % 60000) (omega (arith, north)),
          (
            letter_clear (nat_lt item.latitude middle) 83 78 (λ e. omega arith) (λ e. omega arith),
            (
              decimal_clear (abs_diff item.longitude middle / 3600000) (omega (arith, east)),
              (
                decimal_clear (abs_diff item.longitude middle / 60000 % 60) (omega (arith, east)),
                (
                  seconds_clear (abs_diff item.longitude middle % 60000) (omega (arith, east)),
                  (
                    letter_clear (nat_lt item.longitude middle) 87 69 (λ e. omega arith) (λ e. omega arith),
                    (
                      sign_clear (nat_lt item.altitude 10000000) (metres_text (abs_diff item.altitude 10000000)) (metres_clear (abs_diff item.altitude 10000000) high),
                      (
                        metres_clear (size_of item.size) (size_small item.size fits.size),
                        (
                          metres_clear (size_of item.horizontal) (size_small item.horizontal fits.horizontal),
                          (metres_clear (size_of item.vertical) (size_small item.vertical fits.vertical), tt),
                        ),
                      ),
                    ),
                  ),
                ),
              ),
            ),
          ),
        ),
      ),
    )

-- its text is these words with spaces between them
twelve_words : (a b c d e f g h i j k l : List ℕ)
    → spaced (a ∷ b ∷ c ∷ d ∷ e ∷ f ∷ g ∷ h ∷ i ∷ j ∷ k ∷ l ∷ [])
    ≡ (a ++ codes " " ++ b ++ codes " " ++ c ++ codes " " ++ d ++ (codes " " ++ (e ++ codes " " ++ f ++ codes " " ++ g ++ codes " " ++ h ++ codes " ")))
    ++ (i ++ (codes " " ++ j ++ (codes " " ++ k ++ (codes " " ++ l))))
twelve_words a b c d e f g h i j k l = simp (append_assoc, append-nil)

direction : List ℕ → List ℕ → ℕ → List ℕ
direction positive negative n = if nat_lt n middle then negative else positive

text_is : (item : LocationItem) → spaced (location_words item) ≡ location_text item
unfolding direction
text_is item =
    twelve_words (decimal (abs_diff item.latitude middle / 3600000)) (decimal (abs_diff item.latitude middle / 60000 % 60)) (seconds_text (abs_diff item.latitude middle % 60000))
    (direction (codes "N") (codes "S") item.latitude) (decimal (abs_diff item.longitude middle / 3600000)) (decimal (abs_diff item.longitude middle / 60000 % 60))
    (seconds_text (abs_diff item.longitude middle % 60000)) (direction (codes "E") (codes "W") item.longitude) (altitude_text item.altitude) (metres_text (size_of item.size))
    (metres_text (size_of item.horizontal)) (metres_text (size_of item.vertical))

fits_if : (b : Bool) (made item : LocationItem) → FitsLocation made → (if b then Some made else None) ≡ Some item → FitsLocation item
fits_if true made item fits e = let same : made ≡ item = cc e in subst FitsLocation same fits
fits_if false made item fits e = absurd (cc e)

location_fits : (octets : List ℕ) (item : LocationItem) → IsBytes octets → location_of octets ≡ Some item → FitsLocation item
location_fits (version ∷ size ∷ horizontal ∷ vertical ∷ a ∷ b ∷ c ∷ d ∷ e ∷ f ∷ g ∷ h ∷ i ∷ j ∷ k ∷ l ∷ []) item bytes is =
    fits_if _ _ item
    (record {
      size = bytes 1;
      horizontal = bytes 2;
      vertical = bytes 3;
      latitude = four_bound a b c d (bytes 4) (bytes 5) (bytes 6) (bytes 7);
      longitude = four_bound e f g h (bytes 8) (bytes 9) (bytes 10) (bytes 11);
      altitude = four_bound i j k l (bytes 12) (bytes 13) (bytes 14) (bytes 15);
    })
    is
location_fits octets item bytes is = absurd (cc is)

module _ (split : LocationsSplit) (read : LocationsReadBack) (octets text : List ℕ) (own : Words) (bytes : IsBytes octets) (are : AreWordsOf text (texts own)) where
  by_location : (o : Option LocationItem) → location_of octets ≡ o → option_map location_text o ≡ Some text → IsLocation own octets
  by_location None found e = absurd (cc e)
  by_location (Some item) found e =
      let fits = location_fits octets item bytes found in
      let whole : location_text item ≡ text = cc e in
      let same : texts own ≡ location_words item = one_list text (texts own) (location_words item) are (subst (λ (xs : List ℕ). AreWordsOf xs (location_words item)) whole (split item fits)) in
      let clear = All-from_recursion HasNoSpace (location_words item) (location_clear item fits) in
      read own octets item bytes found (ap spaced same ∙ text_is item) (own_clear own (subst (λ (words : List (List ℕ)). All HasNoSpace words) (sym same) clear))

  -- the words of a location
  pub location_read : option_map location_text (location_of octets) ≡ Some text → IsLocation own octets
  location_read e = by_location (location_of octets) refl e
