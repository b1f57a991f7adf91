-- Hexadecimal digits that are taken one by one, and word by word.
use Rattle.std.proofs.Common.{◌≡◌, ◌∙◌, ℕ, ◌+◌, ◌%◌, ◌<◌, ◌≤◌, Bool, true, false, List, [], ◌∷◌, ◌++◌, length, get_or, take, drop, refl, sym, ap, subst, arith, append_assoc, append-nil, length-append, take-append-drop}
use Rattle.std.specs.Prelude.{Option, Some, None, is_some, not}
use Rattle.std.specs.Borrow.{Bor}
use Rattle.std.specs.Option.{option_to_list}
use Rattle.std.proofs.lemmas.Bool.{false≢true}
use Rattle.std.proofs.lemmas.Grind.{flat_map-append}
use Rattle.std.proofs.lemmas.List.{drop_more, take_all, take_more}
use Rattle.hex.proofs.HexLemmas.{decode_of-ok, decode_of-same}
use Rattle.fields_text.specs.Octets.{IsHex}
use Rattle.fields_text.specs.ReadOctets.{PushesFitting}
use Rattle.fields_text.specs.HexCharacters.{TakesDigits}
use Rattle.fields_text.specs.JoinedWords.{AreHex, joined}
use Rattle.fields_text.proofs.HexPairs.{join_pair, no_digits, split_pair}

same_digits : (a b octets : List ℕ) → a ≡ b → IsHex a octets → IsHex b octets
same_digits a b octets same = subst (λ (s : List ℕ). IsHex s octets) same

same_octets : (s a b : List ℕ) → a ≡ b → IsHex s a → IsHex s b
same_octets s a b same = subst (λ (octets : List ℕ). IsHex s octets) same

-- Digits that are left as they are append nothing.
pub all_left : (digits old : List ℕ) (size : ℕ) → TakesDigits digits digits size old old true
all_left digits old size = ([], sym (append-nil old), record { completes = λ after others is. is; begins = λ after all is. (all, refl, is) })

-- If the octet of two digits is appended, both are taken.
pub pair_taken : (high low size : ℕ) (old new : List ℕ) (b : Bool) → PushesFitting (IsHex (high ∷ low ∷ [])) size old new b → TakesDigits (high ∷ low ∷ []) [] size old new b
pair_taken high low size old new true p =
    let one : (octet : ℕ) → IsHex (high ∷ low ∷ []) (octet ∷ []) → p.0 ≡ octet ∷ [] = λ octet is. decode_of-same (high ∷ low ∷ []) p.0 (octet ∷ []) p.1 is in (
      p.0,
      p.2,
      record {
        completes = λ after others is.
            let f = split_pair high low [] p.0 p.1 in
            same_octets (high ∷ low ∷ after) (f.octet ∷ others) (p.0 ++ others) (ap (λ (xs : List ℕ). xs ++ others) (sym (one f.octet f.first)))
            (join_pair high low f.octet after others f.first is);
        begins = λ after all is.
            let f = split_pair high low after all is in
            (f.others, f.whole ∙ ap (λ (xs : List ℕ). xs ++ f.others) (sym (one f.octet f.first)), f.rest);
      },
    )
pair_taken high low size old new false p = λ after all is.
    let f = split_pair high low after all is in
    let misfits : size < length (old ++ f.octet ∷ []) = p (f.octet ∷ []) f.first in
    let one = length-append old (f.octet ∷ []) in
    let whole = length-append old all in
    let more : length all ≡ length (f.octet ∷ f.others) = ap length f.whole in
    omega (arith, misfits, one, whole, more)

-- digits that are taken, and more after them
module _ (digits left more last old middle new : List ℕ) (size : ℕ) (before : TakesDigits digits left size old middle true) where
  -- If more digits are taken after those that are left, all are taken.
  pub then_taken : TakesDigits (left ++ more) last size middle new true → TakesDigits (digits ++ more) last size old new true
  then_taken next = (
    before.0 ++ next.0,
    next.1 ∙ ap (λ (xs : List ℕ). xs ++ next.0) before.1 ∙ append_assoc old before.0 next.0,
    record {
      completes = λ after others is.
          let both = next.2.completes after others is in
          let one = before.2.completes (more ++ after) (next.0 ++ others) (same_digits _ _ _ (append_assoc left more after) both) in
          same_octets _ _ _ (sym (append_assoc before.0 next.0 others)) (same_digits _ _ _ (sym (append_assoc digits more after)) one);
      begins = λ after all is.
          let f = before.2.begins (more ++ after) all (same_digits _ _ _ (append_assoc digits more after) is) in
          let g = next.2.begins after f.0 (same_digits _ _ _ (sym (append_assoc left more after)) f.2) in
          (g.0, f.1 ∙ ap (λ (xs : List ℕ). before.0 ++ xs) g.1 ∙ sym (append_assoc before.0 next.0 g.0), g.2);
    },
  )

  -- If more digits are refused after those that are left, all are refused, whatever follows.
  pub then_refused : TakesDigits (left ++ more) last size middle new false → (back all : List ℕ) → IsHex (digits ++ (more ++ back)) all → size < length (old ++ all)
  then_refused next back all is =
      let f = before.2.begins (more ++ back) all is in
      let misfits = next back f.0 (same_digits _ _ _ (sym (append_assoc left more back)) f.2) in
      let there : length middle ≡ length old + length before.0 = ap length before.1 ∙ length-append old before.0 in
      let others : length all ≡ length before.0 + length f.0 = ap length f.1 ∙ length-append before.0 f.0 in
      let sum = length-append middle f.0 in
      let whole = length-append old all in
      omega (arith, misfits, there, others, sum, whole)

-- the digits of a word, after those that were left
module _ (start word left last old middle new : List ℕ) (i size : ℕ) (lt : i < length word) (before : TakesDigits (start ++ take i word) left size old middle true) where
  -- one digit more is taken
  pub one_taken : TakesDigits (left ++ get_or word i 0 ∷ []) last size middle new true → TakesDigits (start ++ take (i + 1) word) last size old new true
  one_taken next =
      let c = get_or word i 0 in
      let same : (start ++ take i word) ++ c ∷ [] ≡ start ++ take (i + 1) word =
      append_assoc start (take i word) (c ∷ []) ∙ ap (λ (s : List ℕ). start ++ s) (sym (take_more word i 0 lt)) in
      subst (λ (s : List ℕ). TakesDigits s last size old new true) same (then_taken (start ++ take i word) left (c ∷ []) last old middle new size before next)

  -- one digit is refused
  pub one_refused : TakesDigits (left ++ get_or word i 0 ∷ []) last size middle new false → TakesDigits (start ++ word) last size old new false
  one_refused next = λ after all is.
      let c = get_or word i 0 in
      let back = drop (i + 1) word in
      let whole : word ≡ take i word ++ c ∷ back = sym (take-append-drop i word) ∙ ap (λ (s : List ℕ). take i word ++ s) (drop_more word i 0 lt) in
      let split : start ++ word ≡ (start ++ take i word) ++ c ∷ back = ap (λ (s : List ℕ). start ++ s) whole ∙ sym (append_assoc start (take i word) (c ∷ back)) in
      let same : (start ++ word) ++ after ≡ (start ++ take i word) ++ c ∷ (back ++ after) =
      ap (λ (s : List ℕ). s ++ after) split ∙ append_assoc (start ++ take i word) (c ∷ back) after in
      then_refused (start ++ take i word) left (c ∷ []) last old middle new size before next (back ++ after) all (same_digits _ _ _ same is)

-- All digits of a word are taken.
pub all_taken : (start word left old new : List ℕ) (i size : ℕ) → length word ≤ i → TakesDigits (start ++ take i word) left size old new true → TakesDigits (start ++ word) left size old new true
all_taken start word left old new i size all = subst (λ (s : List ℕ). TakesDigits (start ++ s) left size old new true) (take_all i word all)

-- words of digits
module _ (words : List (Bor (List ℕ))) (i : ℕ) where
  module _ (d : Bor (List ℕ)) (left last old middle new : List ℕ) (size : ℕ) (lt : i < length words) (before : TakesDigits (joined (take i words)) left size old middle true) where
    -- one word more is taken
    pub word_taken : TakesDigits (left ++ (get_or words i d).now) last size middle new true → TakesDigits (joined (take (i + 1) words)) last size old new true
    word_taken next =
        let word = get_or words i d in
        let more : joined (take (i + 1) words) ≡ joined (take i words) ++ word.now =
        ap joined (take_more words i d lt)
        ∙ flat_map-append (λ (word : Bor (List ℕ)). word.now) (take i words) (word ∷ [])
        ∙ ap (λ (s : List ℕ). joined (take i words) ++ s) (append-nil word.now) in
        subst (λ (s : List ℕ). TakesDigits s last size old new true) (sym more) (then_taken (joined (take i words)) left word.now last old middle new size before next)

    -- one word is refused
    pub word_refused : TakesDigits (left ++ (get_or words i d).now) last size middle new false → (all : List ℕ) → AreHex words all → size < length (old ++ all)
    word_refused next all is =
        let word = get_or words i d in
        let back = joined (drop (i + 1) words) in
        let whole : joined words ≡ joined (take i words) ++ (word.now ++ back) =
        ap joined (sym (take-append-drop i words))
        ∙ flat_map-append (λ (word : Bor (List ℕ)). word.now) (take i words) (drop i words)
        ∙ ap (λ (ws : List (Bor (List ℕ))). joined (take i words) ++ joined ws) (drop_more words i d lt) in
        then_refused (joined (take i words)) left word.now last old middle new size before next back all (same_digits _ _ _ whole is)

  -- All words are taken: their octets are appended if no digit is left.
  pub words_taken : (first : Option ℕ) (b : Bool) (old new : List ℕ) (size : ℕ) → length words ≤ i → TakesDigits (joined (take i words)) (option_to_list first) size old new true
      → is_some first ≡ not b → PushesFitting (AreHex words) size old new b
  words_taken None true old new size past taken e =
      let whole : joined (take i words) ++ [] ≡ joined words = append-nil (joined (take i words)) ∙ ap joined (take_all i words past) in
      (taken.0, same_digits _ _ _ whole (same_octets _ _ _ (append-nil taken.0) (taken.2.completes [] [] no_digits)), taken.1)
  words_taken None false old new size past taken e = absurd (false≢true e)
  words_taken (Some digit) true old new size past taken e = absurd (false≢true (sym e))
  words_taken (Some digit) false old new size past taken e = λ all is.
      let whole : joined words ≡ joined (take i words) ++ [] = ap joined (sym (take_all i words past)) ∙ sym (append-nil (joined (take i words))) in
      let f = taken.2.begins [] all (same_digits _ _ _ whole is) in
      let even : length (digit ∷ []) % 2 ≡ 0 = (decode_of-ok (digit ∷ []) f.0 f.2).0 in
      absurd (omega arith)
