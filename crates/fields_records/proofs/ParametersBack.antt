-- Printed fields of service parameters read back.
use Rattle.std.proofs.Common.{◌≡◌, ◌∙◌, ℕ, zero, suc, ◌+◌, ◌*◌, ◌/◌, ◌%◌, ◌^◌, ◌<◌, ◌≤◌, true, List, [], ◌∷◌, ◌++◌, length, take, drop, map, refl, sym, ap, subst, arith, length-take-le, length-drop, take-append-drop}
use Rattle.std.specs.Prelude.{nat_le}
use Rattle.std.specs.List.{AllByRecursion, flat_map}
use Rattle.std.proofs.lemmas.Bool.{and_parts, false≢true, leb-true}
use Rattle.hex.specs.Hex.{IsBytes}
use Rattle.fields_parameters.specs.Parameters.{are_parameters, parameters_after, parameter_word}
use Rattle.fields_parameters.specs.ParameterItems.{ParameterItem, parameter_at, parameter_octets, parameters_of}
use Rattle.fields_lists.proofs.theory.ItemLemmas.{items_of_first}
use Rattle.fields_parameters.proofs.theory.Shrinking.{parameter_shrinks}
use Rattle.fields_text.specs.LineWords.{texts}
use Rattle.fields_text.proofs.theory.ByteLemmas.{bytes_drop, bytes_take}
use Rattle.fields_parameters.specs.AnyOrder.{AreIncreasing, InAnyOrder}
use Rattle.fields_parameters.specs.Laws.{ParametersReadBack}
use Rattle.fields_parameters.specs.ParameterWords.{AreParameterWords, IsParameterWord, key_of}
use Rattle.fields_records.specs.FieldWords.{Words}

-- two octets are the key of a parameter, and two count its value
abbrev Fits : ParameterItem → Type 0
Fits item = IsBytes item.value × (item.key < 2 ^ 16) × (length item.value < 2 ^ 16)

-- the octets are those of parameters with increasing keys
abbrev AreItems : ℕ → List ParameterItem → List ℕ → Type 0
AreItems least items octets = AllByRecursion Fits items × AreIncreasing key_of least items × (octets ≡ flat_map parameter_octets items)

-- the octets that a size counts, and the parameters after them
parameters_left : (least left : ℕ) (octets : List ℕ) → parameters_after least left octets ≡ true → (left ≤ length octets) × (parameters_after least 0 (drop left octets) ≡ true)
parameters_left least zero octets h = (omega arith, h)
parameters_left least (suc left) [] h = absurd (false≢true h)
parameters_left least (suc left) (x ∷ octets) h = let others = parameters_left least left octets h in (omega arith, others.1)

-- the first parameter
module _ (high low size_high size_low : ℕ) (octets : List ℕ) where
  abbrev size : ℕ
  size = size_high * 256 + size_low

  abbrev first_item : ParameterItem
  first_item = record { key = high * 256 + low; value = take size octets }

  items_are : parameters_of (high ∷ low ∷ size_high ∷ size_low ∷ octets) ≡ first_item ∷ parameters_of (drop size octets)
  items_are = items_of_first parameter_at parameter_shrinks (high ∷ low ∷ size_high ∷ size_low ∷ octets) (drop size octets) first_item refl

  module _ (bytes : IsBytes (high ∷ low ∷ size_high ∷ size_low ∷ octets)) (fits : size ≤ length octets) where
    octets_are : high ∷ low ∷ size_high ∷ size_low ∷ octets ≡ parameter_octets first_item ++ drop size octets
    octets_are =
        let a : high < 256 = bytes 0 in
        let b : low < 256 = bytes 1 in
        let c : size_high < 256 = bytes 2 in
        let d : size_low < 256 = bytes 3 in
        let count = length-take-le size octets fits in
        let key_front : high ≡ (high * 256 + low) / 256 = omega arith in
        let key_back : low ≡ (high * 256 + low) % 256 = omega arith in
        let front : size_high ≡ length (take size octets) / 256 = omega (arith, count) in
        let back : size_low ≡ length (take size octets) % 256 = omega (arith, count) in
        let whole = sym (take-append-drop size octets) in
        λ i. key_front i ∷ key_back i ∷ front i ∷ back i ∷ whole i

    item_fits : Fits first_item
    item_fits =
        let a : high < 256 = bytes 0 in
        let b : low < 256 = bytes 1 in
        let c : size_high < 256 = bytes 2 in
        let d : size_low < 256 = bytes 3 in
        let count = length-take-le size octets fits in
        (bytes_take size octets (λ i. bytes (suc (suc (suc (suc i))))), omega arith, omega (arith, count))

are_items : (fuel least : ℕ) (octets : List ℕ) → length octets ≤ fuel → IsBytes octets → parameters_after least 0 octets ≡ true → AreItems least (parameters_of octets) octets
are_items fuel least [] few bytes are = (tt, tt, refl)
are_items fuel least (a ∷ []) few bytes are = absurd (false≢true are)
are_items fuel least (a ∷ b ∷ []) few bytes are = absurd (false≢true are)
are_items fuel least (a ∷ b ∷ c ∷ []) few bytes are = absurd (false≢true are)
are_items zero least (a ∷ b ∷ c ∷ d ∷ octets) few bytes are = absurd (omega arith)
are_items (suc fuel) least (a ∷ b ∷ c ∷ d ∷ octets) few bytes are =
    let key = a * 256 + b in
    let tests = and_parts (nat_le least key) (parameters_after (key + 1) (size a b c d octets) octets) are in
    let left = parameters_left (key + 1) (size a b c d octets) octets tests.1 in
    let count = length-drop (size a b c d octets) octets in
    let later = bytes_drop (size a b c d octets) octets (λ i. bytes (suc (suc (suc (suc i))))) in
    let others = are_items fuel (key + 1) (drop (size a b c d octets) octets) (omega arith) later left.1 in
    subst (λ (items : List ParameterItem). AreItems least items (a ∷ b ∷ c ∷ d ∷ octets)) (sym (items_are a b c d octets)) (
      (item_fits a b c d octets bytes left.0, others.0),
      (leb-true least key tests.0, others.1),
      octets_are a b c d octets bytes left.0 ∙ ap (λ (xs : List ℕ). parameter_octets (first_item a b c d octets) ++ xs) others.2,
    )

-- the words of parameters represent them
represent : ParametersReadBack → (own : Words) (items : List ParameterItem) → AllByRecursion Fits items → texts own ≡ map parameter_word items
    → InAnyOrder (λ word item. IsParameterWord word.now item) own items
represent read [] [] fit same = refl
represent read [] (item ∷ items) fit same = absurd (cc same)
represent read (word ∷ own) [] fit same = absurd (cc same)
represent read (word ∷ own) (item ∷ items) fit same =
    let here : word.now ≡ parameter_word item = cc same in
    let others : texts own ≡ map parameter_word items = cc same in
    let is : IsParameterWord word.now item = subst (λ (text : List ℕ). IsParameterWord text item) (sym here) (read item fit.0.0 fit.0.1 fit.0.2) in
    (item, [], items, is, refl, represent read own items fit.1 others)

-- a field whose words are those of its parameters
pub parameters_read : ParametersReadBack → (octets : List ℕ) (own : Words) → IsBytes octets → are_parameters octets ≡ true
    → texts own ≡ map parameter_word (parameters_of octets) → AreParameterWords own octets
parameters_read read octets own bytes are same =
    let is = are_items (length octets) 0 octets (omega arith) bytes are in
    record { items = parameters_of octets; represented = represent read own (parameters_of octets) is.0 same; increasing = is.1; whole = is.2 }
