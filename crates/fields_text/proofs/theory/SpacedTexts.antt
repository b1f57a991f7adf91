-- Texts of words with spaces between them.
use Rattle.std.proofs.Common.{◌≡◌, ℕ, ◌+◌, Bool, true, false, List, [], ◌∷◌, ◌++◌, refl, sym, subst, arith, append_assoc, append-nil}
use Rattle.std.specs.Prelude.{Option, Some, None, if◌then◌else◌, codes, All, map}
use Rattle.std.specs.Fmt.{◌++?◌}
use Rattle.base64.specs.Engines.{standard}
use Rattle.base64.specs.GeneralPurpose.{encode_of}
use Rattle.fields_text.specs.Keys.{key_text}
use Rattle.fields_text.specs.LineWords.{AreWordsOf, EndsWord, IsWord, word_of_any, SplitsWord}
use Rattle.fields_text.specs.LineWords.AreWordsWithin.{blank, none, more}
use Rattle.fields_text.proofs.theory.Words.{base64_word}
use Rattle.fields_text.proofs.theory.Options.{some_same}
use Rattle.std.specs.List.{flat_map}
use Rattle.std.proofs.lemmas.List.Elements.{All-head, All-tail}
use Rattle.fields_text.specs.Separated.{separated, spaced}

-- words after spaces, without a comment
pub data AreSpaced : List ℕ → List (List ℕ) → Type 0 where
  nothing : AreSpaced [] []
  space : {text : List ℕ} {words : List (List ℕ)} → AreSpaced text words → AreSpaced (0x20 ∷ text) words
  word : {text : List ℕ} {words : List (List ℕ)} (first : List ℕ) → IsWord first → EndsWord text → AreSpaced text words → AreSpaced (first ++ text) (first ∷ words)

-- one word
pub one_word : (text : List ℕ) → IsWord text → AreSpaced text (text ∷ [])
one_word text is = subst (λ (xs : List ℕ). AreSpaced xs (text ∷ [])) (append-nil text) (word text is tt nothing)

-- a text that a word may precede
pub ends_append : (first second : List ℕ) → EndsWord first → EndsWord second → EndsWord (first ++ second)
ends_append [] second f s = s
ends_append (c ∷ first) second f s = f

-- more words
pub spaced_append : (first second : List ℕ) (words others : List (List ℕ)) → AreSpaced first words → EndsWord second → AreSpaced second others → AreSpaced (first ++ second) (words ++ others)
spaced_append first second words others nothing ends h = h
spaced_append first second words others (space {text = after} g) ends h = space (spaced_append after second words others g ends h)
spaced_append first second words others (word {text = after} {words = left} front is at g) ends h =
    subst (λ (xs : List ℕ). AreSpaced xs ((front ∷ left) ++ others)) (sym (append_assoc front after second))
    (word front is (ends_append after second at ends) (spaced_append after second left others g ends h))

-- a word after others and a space
pub then_word : (first text : List ℕ) (words : List (List ℕ)) → AreSpaced first words → IsWord text → AreSpaced (first ++ codes " " ++ text) (words ++ text ∷ [])
then_word first text words h is =
    subst (λ (xs : List ℕ). AreSpaced xs (words ++ text ∷ [])) (sym (append_assoc first (codes " ") text))
    (spaced_append first (codes " " ++ text) words (text ∷ []) h refl (space (one_word text is)))

-- the words of a text after others
pub words_append : (first second : List ℕ) (words others : List (List ℕ)) → AreSpaced first words → EndsWord second → AreWordsOf second others → AreWordsOf (first ++ second) (words ++ others)
words_append first second words others nothing ends h = h
words_append first second words others (space {text = after} g) ends h = blank refl (words_append after second words others g ends h)
words_append first second words others (word {text = after} {words = left} front is at g) ends h =
    let split : SplitsWord (front ++ after ++ second) front (after ++ second) =
    record { whole = append_assoc front after second; is = is; ends = λ e. ends_append after second at ends } in
    more split (words_append after second left others g ends h)

-- the words of a text after others and a space
pub then_words : (first text : List ℕ) (words others : List (List ℕ)) → AreSpaced first words → AreWordsOf text others → AreWordsOf (first ++ codes " " ++ text) (words ++ others)
then_words first text words others h g =
    subst (λ (xs : List ℕ). AreWordsOf xs (words ++ others)) (sym (append_assoc first (codes " ") text))
    (words_append first (codes " " ++ text) words others h refl (blank refl g))

-- a word that is there, and the texts after it
pub appended : (first text : List ℕ) (b : Bool) (o : Option (List ℕ)) (whole : List ℕ) → (Some first ++? (if b then Some text else None)) ++? o ≡ Some whole
    → (left : List ℕ) × (o ≡ Some left) × (first ++ text ++ left ≡ whole)
appended first text true None whole e = absurd (cc e)
appended first text true (Some left) whole e = (left, refl, some_same (first ++ text ++ left) whole e)
appended first text false None whole e = absurd (cc e)
appended first text false (Some left) whole e = absurd (cc e)

-- octets in base64 after a space, if there are any
pub key_spaced : (octets : List ℕ) → AreSpaced (key_text octets) (word_of_any (encode_of standard) octets) × EndsWord (key_text octets)
key_spaced [] = (nothing, tt)
key_spaced (x ∷ xs) = (space (one_word (encode_of standard (x ∷ xs)) (base64_word (x ∷ xs) (omega arith))), refl)

-- they are the words of the text
pub words_are : (text : List ℕ) (words : List (List ℕ)) → AreSpaced text words → AreWordsOf text words
words_are text words nothing = none
words_are text words (space {text = after} h) = blank refl (words_are after words h)
words_are text words (word {text = after} {words = others} first is ends h) =
    let split : SplitsWord text first after = record { whole = refl; is = is; ends = λ e. ends } in
    more split (words_are after others h)

-- words, each after a space
spaces_end : (words : List (List ℕ)) → EndsWord (separated (codes " ") (codes " ") words)
spaces_end [] = tt
spaces_end (first ∷ words) = refl

spaces_are : (words : List (List ℕ)) → All IsWord words → AreSpaced (separated (codes " ") (codes " ") words) words
spaces_are [] all = nothing
spaces_are (first ∷ words) all =
    space (word first (All-head IsWord first words all) (spaces_end words) (spaces_are words (All-tail IsWord first words all)))

-- words with a space between them
pub spaced_are : (words : List (List ℕ)) → All IsWord words → AreSpaced (spaced words) words
spaced_are [] all = nothing
spaced_are (first ∷ words) all =
    word first (All-head IsWord first words all) (spaces_end words) (spaces_are words (All-tail IsWord first words all))

-- the texts of items, each after a space
module _ {A : Type 0} (text : A → List ℕ) where
  -- a word may precede the texts of items, each after a space
  pub items_end : (items : List A) → EndsWord (flat_map (λ item. codes " " ++ text item) items)
  items_end [] = tt
  items_end (item ∷ items) = refl

  -- if the text of each item is a word, a text of these, each after a space, has them as its words
  pub items_are : (items : List A) → All (λ item. IsWord (text item)) items → AreSpaced (flat_map (λ item. codes " " ++ text item) items) (map text items)
  items_are [] all = nothing
  items_are (item ∷ items) all =
      space (word (text item) (All-head (λ item. IsWord (text item)) item items all) (items_end items) (items_are items (All-tail (λ item. IsWord (text item)) item items all)))
