-- Lists of words, each of which represents octets, read in order.
use Rattle.std.proofs.Common.{◌≡◌, ℕ, List, [], ◌∷◌, length, refl, arith, ◌-◌, take, drop, ◌∙◌, ◌+◌, ◌<◌, ◌≤◌, ◌++◌, get_or, Bool, true, false, ◌↔◌, sym, ap, subst, inl, inr, append_assoc, append-nil}
use Rattle.std.specs.Borrow.{Bor}
use Rattle.std.proofs.lemmas.List.{take_all, drop_all, drop_more}
use Rattle.std.specs.Prelude.{Option, Some, None, Result, Ok, Err, IsTrue, is_some, if◌then◌else◌}
use Rattle.fields_text.specs.declared.text_error.TextError.{TextError}
use Rattle.fields_text.specs.declared.text_error.TextError.TheVariants.{BadWord, OutOfMemory}
use Rattle.fields_text.specs.Reading.{AppendsOctets, FailsIf, HasValue, Reads}

-- no octets, and a block of some
pub empty_is : (xs : List ℕ) → length xs ≡ 0 → xs ≡ []
empty_is [] none = refl
empty_is (x ∷ xs) none = absurd (omega arith)

-- prefixes of words
pub after_is : (words : List (Bor (List ℕ))) → take (length words - 1) (drop 1 words) ≡ drop 1 words
after_is [] = refl
after_is (word ∷ words) = take_all (length (word ∷ words) - 1) words (omega arith)

-- a value was read, or there is none
pub is_read : {A : Type 0} (Represents : A → Type 0) (o : Option A) (b : Bool) → b ≡ is_some o → Reads Represents o → IsTrue b ↔ HasValue Represents
is_read Represents None b e none = (λ t. absurd (cc (e, t)), λ there. absurd (none there.0 there.1))
is_read Represents (Some value) b e is = (λ t. (value, is), λ there. e)

-- why words aren't read, by a test of them
pub why : {A : Type 0} (May : Type 0) (Represents : A → Type 0) (b : Bool) (e : TextError) → e ≡ (if b then OutOfMemory else BadWord) → (IsTrue b → May) → (HasValue Represents → IsTrue b)
    → FailsIf May Represents e
why May Represents true e is may there = inl (is, may refl)
why May Represents false e is may there = inr (is, λ value has. absurd (cc (there (value, has))))

-- what is known where bad words aren't read, and where an allocation fails
pub bad_only : {A : Type 0} (May : Type 0) (Represents : A → Type 0) (e : TextError) → e ≡ BadWord → FailsIf May Represents e → (value : A) → ¬ (Represents value)
bad_only May Represents e bad (inl memory) value is = absurd (cc (bad, memory.0))
bad_only May Represents e bad (inr none) value is = none.1 value is

-- If an allocation fails, this is known of the words.
pub full_only : {A : Type 0} (May : Type 0) (Represents : A → Type 0) (e : TextError) → e ≡ OutOfMemory → FailsIf May Represents e → May
full_only May Represents e full (inl memory) = memory.1
full_only May Represents e full (inr none) = absurd (cc (full, none.0))

-- words represent the octets of the first one, and then those of the others
pub record AreInOrder {W : Type 0} (Is : W → List ℕ → Type 0) (Are : List W → List ℕ → Type 0) : Type 0 where
  pub none : Are [] []
  pub both : (word : W) (words : List W) (first after : List ℕ) → Is word first → Are words after → Are (word ∷ words) (first ++ after)
  pub parts : (word : W) (words : List W) (octets : List ℕ) → Are (word ∷ words) octets → HasValue (Is word) × HasValue (Are words)

-- both represent octets, or neither does
abbrev pub SameValue : (List ℕ → Type 0) → (List ℕ → Type 0) → Type 0
SameValue A B = (HasValue A → HasValue B) × (HasValue B → HasValue A)

module _ {W : Type 0} (Is : W → List ℕ → Type 0) (Are : List W → List ℕ → Type 0) (order : AreInOrder Is Are) where
  -- a first word and others are appended
  pub more : (word : W) (words : List W) (old middle new : List ℕ) (u : Unit {0}) (result : Result Unit TextError) → AppendsOctets (Is word) old middle (Ok u)
      → AppendsOctets (Are words) middle new result
      → AppendsOctets (Are (word ∷ words)) old new result
  more word words old middle new u (Ok v) a b =
      (a.0 ++ b.0, order.both word words a.0 b.0 a.1 b.1, b.2 ∙ ap (λ (xs : List ℕ). xs ++ b.0) a.2 ∙ append_assoc old a.0 b.0)
  more word words old middle new u (Err e) a (inl memory) =
      inl (memory.0, (a.0 ++ memory.1.0, order.both word words a.0 memory.1.0 a.1 memory.1.1))
  more word words old middle new u (Err e) a (inr bad) =
      inr (bad.0, λ octets is. let p = order.parts word words octets is in bad.1 p.1.0 p.1.1)

  -- the word at an index, and the words after it
  pub appends_at : (words : List W) (k : ℕ) (d : W) (old middle new : List ℕ) (u : Unit {0}) (result : Result Unit TextError) → k < length words
      → AppendsOctets (Is (get_or words k d)) old middle (Ok u) → AppendsOctets (Are (drop (k + 1) words)) middle new result → AppendsOctets (Are (drop k words)) old new result
  appends_at words k d old middle new u result within a b =
      subst (λ (ws : List W). AppendsOctets (Are ws) old new result) (sym (drop_more words k d within)) (more (get_or words k d) (drop (k + 1) words) old middle new u result a b)

  -- no word is left
  pub appends_end : (words : List W) (k : ℕ) (now : List ℕ) (u : Unit {0}) → length words ≤ k → AppendsOctets (Are (drop k words)) now now (Ok u)
  appends_end words k now u past =
      subst (λ (ws : List W). AppendsOctets (Are ws) now now (Ok u)) (sym (drop_all k words past)) ([], order.none, sym (append-nil now))

  -- whether all words represent octets, where those before an index do
  pub left_at : (words : List W) (k : ℕ) (d : W) → k < length words → HasValue (Is (get_or words k d)) → SameValue (Are words) (Are (drop k words)) → SameValue (Are words) (Are (drop (k + 1) words))
  left_at words k d within own left =
      let split = drop_more words k d within in (
        λ all.
            let there = subst (λ (ws : List W). HasValue (Are ws)) split (left.0 all) in
            (order.parts (get_or words k d) (drop (k + 1) words) there.0 there.1).1,
        λ after.
            left.1 (subst (λ (ws : List W). HasValue (Are ws)) (sym split) (own.0 ++ after.0, order.both (get_or words k d) (drop (k + 1) words) own.0 after.0 own.1 after.1)),
      )

  -- If the word at an index represents no octets, the words represent none.
  pub none_at : (words : List W) (k : ℕ) (d : W) → k < length words → ((octets : List ℕ) → ¬ (Is (get_or words k d) octets)) → SameValue (Are words) (Are (drop k words))
      → IsTrue false ↔ HasValue (Are words)
  none_at words k d within none left = (
    λ t. absurd (cc t),
    λ all.
        let there = subst (λ (ws : List W). HasValue (Are ws)) (drop_more words k d within) (left.0 all) in
        let own = (order.parts (get_or words k d) (drop (k + 1) words) there.0 there.1).0 in
        absurd (none own.0 own.1),
  )

  -- If no word is left and each word represents octets, the words do.
  pub all_there : (words : List W) (k : ℕ) → length words ≤ k → SameValue (Are words) (Are (drop k words)) → IsTrue true ↔ HasValue (Are words)
  all_there words k past left =
      (λ t. left.1 (subst (λ (ws : List W). HasValue (Are ws)) (sym (drop_all k words past)) ([], order.none)), λ all. refl)
