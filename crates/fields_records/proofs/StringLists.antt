-- The printed words of consecutive character strings read back.
use Rattle.std.proofs.Common.{◌≡◌, ◌≢◌, ◌∙◌, ℕ, zero, suc, ◌<◌, ◌≤◌, true, List, [], ◌∷◌, ◌++◌, length, take, drop, refl, sym, subst, arith, length-drop, length-take-le}
use Rattle.std.specs.Prelude.{map}
use Rattle.std.proofs.lemmas.List.{take-append-drop}
use Rattle.std.proofs.lemmas.Bool.{false≢true}
use Rattle.hex.specs.Hex.{IsBytes}
use Rattle.fields_text.specs.String.{quoted}
use Rattle.fields_text.specs.Strings.{SpellsString}
use Rattle.fields_lists.specs.Strings.{are_strings, strings_after, string_at, strings_of}
use Rattle.fields_lists.specs.Items.{items_in}
use Rattle.fields_text.specs.Laws.{StringsReadBack}
use Rattle.fields_text.proofs.theory.ByteLemmas.{bytes_drop, bytes_take}
use Rattle.fields_text.specs.LineWords.{texts}
use Rattle.fields_text.specs.LengthOctets.{counted}
use Rattle.fields_records.specs.FieldWords.{AreStrings, IsString, Words}

-- octets that end a character string are there, and strings follow them
after_string : (left : ℕ) (octets : List ℕ) → strings_after left octets ≡ true → (left ≤ length octets) × (strings_after 0 (drop left octets) ≡ true)
after_string zero octets are = (omega arith, are)
after_string (suc left) [] are = absurd (false≢true are)
after_string (suc left) (o ∷ octets) are = let rest = after_string left octets are in (omega (arith, rest.0), rest.1)

module _ (back : StringsReadBack) where
  -- the first string
  first_string : (size : ℕ) (octets word : List ℕ) → size ≤ length octets → IsBytes (size ∷ octets) → word ≡ quoted (take size octets) → IsString word (counted (take size octets))
  first_string size octets word fits bytes e =
      let string = take size octets in
      let small : size < 256 = bytes 0 in
      let sized : length string ≡ size = length-take-le size octets fits in (
        string,
        subst (λ (w : List ℕ). SpellsString w string) (sym e) (back string (bytes_take size octets (λ i. bytes (suc i)))),
        omega arith,
        refl,
      )

  split_string : (size : ℕ) (octets : List ℕ) → size ≤ length octets → size ∷ octets ≡ counted (take size octets) ++ drop size octets
  split_string size octets fits =
      let sized : size ≡ length (take size octets) = sym (length-take-le size octets fits) in
      let whole : octets ≡ take size octets ++ drop size octets = sym (take-append-drop size octets) in
      λ i. sized i ∷ whole i

  strings_read : (count : ℕ) (octets : List ℕ) (own : Words) → length octets ≤ count → strings_after 0 octets ≡ true → IsBytes octets → texts own ≡ map quoted (items_in string_at count octets)
      → AreStrings own octets
  strings_read zero [] [] most are bytes e = refl
  strings_read zero [] (word ∷ own) most are bytes e = absurd (cc e)
  strings_read zero (size ∷ octets) own most are bytes e = absurd (omega arith)
  strings_read (suc count) [] [] most are bytes e = refl
  strings_read (suc count) [] (word ∷ own) most are bytes e = absurd (cc e)
  strings_read (suc count) (size ∷ octets) [] most are bytes e = absurd (cc e)
  strings_read (suc count) (size ∷ octets) (word ∷ own) most are bytes e =
      let after = after_string size octets are in
      let same : word.now ≡ quoted (take size octets) = cc e in
      let others : texts own ≡ map quoted (items_in string_at count (drop size octets)) = cc e in (
        counted (take size octets),
        drop size octets,
        first_string size octets word.now after.0 bytes same,
        split_string size octets after.0,
        strings_read count (drop size octets) own (omega (arith, length-drop size octets)) after.1 (bytes_drop size octets (λ i. bytes (suc i))) others,
      )

-- the first of the strings
pub first_quoted : (octets : List ℕ) → are_strings octets ≡ true → (first : List ℕ) × (others : List (List ℕ)) × (map quoted (strings_of octets) ≡ quoted first ∷ others)
first_quoted [] are = absurd (false≢true are)
first_quoted (size ∷ octets) are = (take size octets, map quoted (items_in string_at (length octets) (drop size octets)), refl)

no_words : (own : Words) (first : List ℕ) (others : List (List ℕ)) → texts own ≡ first ∷ others → own ≢ []
no_words [] first others e none = cc e
no_words (word ∷ own) first others e none = cc none

-- character strings, one at least
pub string_list_back : StringsReadBack → (octets : List ℕ) (own : Words) → are_strings octets ≡ true → IsBytes octets → texts own ≡ map quoted (strings_of octets) → (own ≢ []) × AreStrings own octets
string_list_back back [] own are bytes e = absurd (false≢true are)
string_list_back back (size ∷ octets) own are bytes e =
    let first = first_quoted (size ∷ octets) are in
    (no_words own (quoted first.0) first.1 (e ∙ first.2), strings_read back (length (size ∷ octets)) (size ∷ octets) own (omega arith) are bytes e)
