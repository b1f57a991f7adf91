-- Characters of base64 that are taken one by one, and word by word.
use Rattle.std.proofs.Common.{◌≡◌, ◌∙◌, ◌↔◌, ℕ, ◌+◌, ◌<◌, ◌≤◌, Bool, true, false, List, [], ◌∷◌, ◌++◌, length, get_or, take, drop, sym, ap, subst, append_assoc, append-nil, take-append-drop}
use Rattle.std.specs.Borrow.{Bor}
use Rattle.std.specs.List.{list_all}
use Rattle.std.specs.Prelude.{IsTrue}
use Rattle.std.proofs.lemmas.List.{drop_all, drop_more, take_all, take_more}
use Rattle.fields_text.specs.Octets.{IsBase64}
use Rattle.fields_text.specs.Base64Characters.{TakesCharacters, is_symbol}
use Rattle.fields_text.specs.JoinedWords.{joined}
use Rattle.fields_text.specs.Reading.{HasValue}
use Rattle.fields_text.proofs.Base64Groups.{four_others, four_symbols}

-- characters that represent octets
abbrev pub AreOctets : List ℕ → Type 0
AreOctets s = HasValue (IsBase64 s)

same_octets : (s t : List ℕ) → s ≡ t → AreOctets s → AreOctets t
same_octets s t same = subst AreOctets same

-- A group that isn't full takes a character.
pub pushed : (c : ℕ) (old new : List ℕ) → new ≡ old ++ (c ∷ []) → TakesCharacters (c ∷ []) old new true
pushed c old new is after =
    let same : old ++ (c ∷ after) ≡ new ++ after = sym (append_assoc old (c ∷ []) after) ∙ ap (λ (s : List ℕ). s ++ after) (sym is) in
    (same_octets _ _ same, same_octets _ _ (sym same))

-- A full group of symbols makes room for the next group.
pub next_group : (c : ℕ) (old new : List ℕ) → length old ≡ 4 → list_all is_symbol old ≡ true → new ≡ c ∷ [] → TakesCharacters (c ∷ []) old new true
next_group c old new four symbols is after =
    let both = four_symbols old c after four symbols in
    let same : c ∷ after ≡ new ++ after = ap (λ (s : List ℕ). s ++ after) (sym is) in
    (λ has. same_octets _ _ same (both.0 has), λ has. both.1 (same_octets _ _ (sym same) has))

-- Nothing can be after a full group of other characters.
pub no_group : (c : ℕ) (old new : List ℕ) → length old ≡ 4 → list_all is_symbol old ≡ false → TakesCharacters (c ∷ []) old new false
no_group c old new four others after = four_others old c after four others

module _ (word old : List ℕ) where
  -- no character is taken at first
  pub none_taken : TakesCharacters (take 0 word) old old true
  none_taken after = (λ has. has, λ has. has)

  -- one character more
  pub one_taken : (i d : ℕ) (middle new : List ℕ) → i < length word → TakesCharacters (take i word) old middle true → TakesCharacters (get_or word i d ∷ []) middle new true
      → TakesCharacters (take (i + 1) word) old new true
  one_taken i d middle new lt before next after =
      let c = get_or word i d in
      let more : take (i + 1) word ++ after ≡ take i word ++ (c ∷ after) = ap (λ (s : List ℕ). s ++ after) (take_more word i d lt) ∙ append_assoc (take i word) (c ∷ []) after in
      let same : old ++ (take (i + 1) word ++ after) ≡ old ++ (take i word ++ (c ∷ after)) = ap (λ (s : List ℕ). old ++ s) more in
      let first = before (c ∷ after) in
      let second = next after in
      (λ has. second.0 (first.0 (same_octets _ _ same has)), λ has. same_octets _ _ (sym same) (first.1 (second.1 has)))

  -- a character that can't be there
  pub one_refused : (i d : ℕ) (middle new : List ℕ) → i < length word → TakesCharacters (take i word) old middle true → TakesCharacters (get_or word i d ∷ []) middle new false
      → TakesCharacters word old new false
  one_refused i d middle new lt before next after =
      let c = get_or word i d in
      let left = drop (i + 1) word in
      let whole : word ≡ take i word ++ (c ∷ left) = sym (take-append-drop i word) ∙ ap (λ (s : List ℕ). take i word ++ s) (drop_more word i d lt) in
      let more : word ++ after ≡ take i word ++ (c ∷ (left ++ after)) = ap (λ (s : List ℕ). s ++ after) whole ∙ append_assoc (take i word) (c ∷ left) after in
      let same : old ++ (word ++ after) ≡ old ++ (take i word ++ (c ∷ (left ++ after))) = ap (λ (s : List ℕ). old ++ s) more in
      λ has. next (left ++ after) ((before (c ∷ (left ++ after))).0 (same_octets _ _ same has))

  -- all characters
  pub all_taken : (i : ℕ) (new : List ℕ) → length word ≤ i → TakesCharacters (take i word) old new true → TakesCharacters word old new true
  all_taken i new all taken = subst (λ (s : List ℕ). TakesCharacters s old new true) (take_all i word all) taken

-- words, of which those from an index on are left after a group
module _ (words : List (Bor (List ℕ))) where
  -- The words represent octets exactly if the group and the words from an index on do.
  abbrev pub AreLeft : List ℕ → ℕ → Type 0
  AreLeft group i = AreOctets (joined words) ↔ AreOctets (group ++ joined (drop i words))

  -- all words are left at first
  pub all_left : (group : List ℕ) → group ≡ [] → AreLeft group 0
  all_left group none =
      let same : joined words ≡ group ++ joined words = ap (λ (s : List ℕ). s ++ joined words) (sym none) in
      (same_octets _ _ same, same_octets _ _ (sym same))

  split_left : (i : ℕ) (d : Bor (List ℕ)) (group : List ℕ) → i < length words → group ++ joined (drop i words) ≡ group ++ ((get_or words i d).now ++ joined (drop (i + 1) words))
  split_left i d group lt = ap (λ (ws : List (Bor (List ℕ))). group ++ joined ws) (drop_more words i d lt)

  -- one word is taken
  pub word_taken : (i : ℕ) (d : Bor (List ℕ)) (group new : List ℕ) → i < length words → AreLeft group i → TakesCharacters (get_or words i d).now group new true → AreLeft new (i + 1)
  word_taken i d group new lt left taken =
      let same = split_left i d group lt in
      let both = taken (joined (drop (i + 1) words)) in
      (λ has. both.0 (same_octets _ _ same (left.0 has)), λ has. left.1 (same_octets _ _ (sym same) (both.1 has)))

  -- one word can't be there
  pub word_refused : (i : ℕ) (d : Bor (List ℕ)) (group new : List ℕ) → i < length words → AreLeft group i → TakesCharacters (get_or words i d).now group new false
      → ¬ (AreOctets (joined words))
  word_refused i d group new lt left refused = λ has. refused (joined (drop (i + 1) words)) (same_octets _ _ (split_left i d group lt) (left.0 has))

  -- no word is left
  pub none_left : (i : ℕ) (group slice : List ℕ) (b : Bool) → length words ≤ i → AreLeft group i → slice ≡ group → IsTrue b ↔ AreOctets slice → IsTrue b ↔ AreOctets (joined words)
  none_left i group slice b all left is tested =
      let same : group ++ joined (drop i words) ≡ slice = ap (λ (ws : List (Bor (List ℕ))). group ++ joined ws) (drop_all i words all) ∙ append-nil group ∙ sym is in
      (λ h. left.1 (same_octets _ _ (sym same) (tested.0 h)), λ has. tested.1 (same_octets _ _ same (left.0 has)))
