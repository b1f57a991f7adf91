-- The marks of the types of words.
use Rattle.std.proofs.Common.{◌≡◌, ◌∙◌, ℕ, zero, suc, ◌+◌, ◌<◌, ◌≤◌, ◌⊎◌, ◌↔◌, Bool, true, false, List, [], ◌∷◌, length, get_or, drop, replicate, refl, sym, ap, subst, arith, inl, inr}
use Rattle.std.specs.Prelude.{Some, None, nat_lt, slice_set}
use Rattle.std.specs.Borrow.{Bor}
use Rattle.std.proofs.lemmas.Bool.{and_parts, cases_eq, false≢true, ltb-true}
use Rattle.std.proofs.lemmas.List.{drop_all, drop_more, get_or-set_other, get_or-set_same, length-replicate, length-set}
use Rattle.fields_lists.specs.TypeBits.{AreSmallTypes, HaveSmallMarks, IsSmallType, is_marked, is_small_type}
use Rattle.fields_lists.specs.TypeMapWords.{HasType}
use Rattle.fields_plain.specs.TypeWords.{IsTypeWord}
use Rattle.fields_plain.proofs.theory.RegisteredLemmas.{one_word}

-- Small types are from 1 to 127.
pub small_range : (n : ℕ) → is_small_type n ≡ true → (0 < n) × (n < 128)
small_range n small = let parts = and_parts (nat_lt 0 n) (nat_lt n 128) small in (ltb-true 0 n parts.0, ltb-true n 128 parts.1)

-- A word represents its type as a small one if that is small.
pub small_word : (word : List ℕ) (k number : ℕ) → ((n : ℕ) → IsTypeWord word n ↔ (Some k ≡ Some n)) → number ≡ k → is_small_type number ≡ true
    → (n : ℕ) → IsSmallType word n ↔ (Some number ≡ Some n)
small_word word k number is same small n = (
  λ s. ap (λ (m : ℕ). Some m) same ∙ (is n).0 s.0,
  λ e.
      let at : number ≡ n = cc e in
      ((is n).1 (ap (λ (m : ℕ). Some m) (sym same ∙ at)), ap is_small_type (sym at) ∙ small),
)

-- Else it represents no small type.
pub large_word : (word : List ℕ) (k number : ℕ) → ((n : ℕ) → IsTypeWord word n ↔ (Some k ≡ Some n)) → number ≡ k → is_small_type number ≡ false
    → (n : ℕ) → IsSmallType word n ↔ (None ≡ Some n)
large_word word k number is same large n = (
  λ s.
      let at : k ≡ n = (let e = (is n).0 s.0 in cc e) in
      absurd (false≢true (sym large ∙ ap is_small_type (same ∙ at) ∙ s.1)),
  λ e. absurd (cc e),
)

-- the marks are those of the words before an index, if these are small types: all are if those from the index on are
pub record AreSmallMarks (words : List (Bor (List ℕ))) (i : ℕ) (marks : List Bool) : Type 0 where
  pub whole : length marks ≡ 256
  pub small : AreSmallTypes words ↔ AreSmallTypes (drop i words)
  pub each : (n : ℕ) → HasType words n ↔ ((is_marked marks n ≡ true) ⊎ HasType (drop i words) n)

unmarked : (k n : ℕ) → is_marked (replicate k false) n ≡ false
unmarked zero zero = refl
unmarked zero (suc n) = refl
unmarked (suc k) zero = refl
unmarked (suc k) (suc n) = unmarked k n

-- the word at an index
module _ (words : List (Bor (List ℕ))) where
  -- No type is marked at first.
  pub none_marked : AreSmallMarks words 0 (replicate 256 false)
  none_marked = record {
    whole = length-replicate 256 false;
    small = (λ all. all, λ all. all);
    each = λ n. (λ h. inr h, λ s. elim s [ inl m ↦ absurd (false≢true (sym (unmarked 256 n) ∙ m)) | inr h ↦ h ]);
  }

  module _ (i : ℕ) (d : Bor (List ℕ)) (old : List Bool) (lt : i < length words) (before : AreSmallMarks words i old) where
    split_there : drop i words ≡ get_or words i d ∷ drop (i + 1) words
    split_there = drop_more words i d lt

    -- The type of the next word is marked.
    pub next_marked : (k at : ℕ) → ((n : ℕ) → IsSmallType (get_or words i d).now n ↔ (Some k ≡ Some n)) → at ≡ k → AreSmallMarks words (i + 1) (slice_set old at true)
    next_marked k at is same = record {
      whole = length-set old at true ∙ before.whole;
      small = (
        λ all. (subst AreSmallTypes split_there (before.small.0 all)).1,
        λ after. before.small.1 (subst AreSmallTypes (sym split_there) ((k, (is k).1 refl), after)),
      );
      each = λ n. (λ h. marked_or n ((before.each n).0 h), λ s. of_marked n s);
    } where
      whole : length old ≡ 256
      whole = before.whole

      read : IsTypeWord (get_or words i d).now k
      read = ((is k).1 refl).0

      few : k < 128
      few = (small_range k ((is k).1 refl).1).1

      here : (n : ℕ) → n ≡ at → is_marked (slice_set old at true) n ≡ true
      here n e = ap (is_marked (slice_set old at true)) e ∙ get_or-set_same old at true false (omega (arith, whole, same, few))

      kept : (n : ℕ) → (n ≡ at → ⊥) → is_marked (slice_set old at true) n ≡ is_marked old n
      kept n other = get_or-set_other old at n true false other

      still : (n : ℕ) → is_marked old n ≡ true → is_marked (slice_set old at true) n ≡ true
      still n m = elim (cases_eq n at) [ inl e ↦ here n e | inr other ↦ kept n other ∙ m ]

      first_or : (n : ℕ) → HasType (get_or words i d ∷ drop (i + 1) words) n → (is_marked (slice_set old at true) n ≡ true) ⊎ HasType (drop (i + 1) words) n
      first_or n (inl w) = inl (here n (sym (same ∙ one_word (get_or words i d).now k n read w)))
      first_or n (inr h) = inr h

      marked_or : (n : ℕ) → (is_marked old n ≡ true) ⊎ HasType (drop i words) n → (is_marked (slice_set old at true) n ≡ true) ⊎ HasType (drop (i + 1) words) n
      marked_or n (inl m) = inl (still n m)
      marked_or n (inr h) = first_or n (subst (λ (ws : List (Bor (List ℕ))). HasType ws n) split_there h)

      back : (n : ℕ) → HasType (get_or words i d ∷ drop (i + 1) words) n → HasType words n
      back n h = (before.each n).1 (inr (subst (λ (ws : List (Bor (List ℕ))). HasType ws n) (sym split_there) h))

      of_marked : (n : ℕ) → (is_marked (slice_set old at true) n ≡ true) ⊎ HasType (drop (i + 1) words) n → HasType words n
      of_marked n (inl m) =
          elim (cases_eq n at) [
            | inl e ↦ back n (inl (subst (IsTypeWord (get_or words i d).now) (sym (e ∙ same)) read))
            | inr other ↦ (before.each n).1 (inl (sym (kept n other) ∙ m))
          ]
      of_marked n (inr h) = back n (inr h)

    -- If the next word is no small type, not all words are.
    pub none_small : ((n : ℕ) → IsSmallType (get_or words i d).now n ↔ (None ≡ Some n)) → ¬ (AreSmallTypes words)
    none_small none all =
        let first = (subst AreSmallTypes split_there (before.small.0 all)).0 in
        let e = (none first.0).0 first.1 in
        cc e

  -- After the last word, the marks are those of all words.
  pub all_marked : (i : ℕ) (marks : List Bool) → length words ≤ i → AreSmallMarks words i marks → HaveSmallMarks words marks
  all_marked i marks past are =
      let none : drop i words ≡ [] = drop_all i words past in
      record {
        small = are.small.1 (subst AreSmallTypes (sym none) tt);
        each = λ n. (
          λ m. (are.each n).1 (inl m),
          λ h. elim ((are.each n).0 h) [ inl m ↦ m | inr g ↦ absurd (subst (λ (ws : List (Bor (List ℕ))). HasType ws n) none g) ],
        );
      }
