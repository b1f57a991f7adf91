-- Octets that are overwritten, as fields of four octets that cover them and the four octets before them.
use Rattle.std.proofs.Common.{ℕ, zero, suc, ◌+◌, ◌≤◌, ◌⊎◌, inl, inr, List, [], ◌∷◌, length, All, arith}
use Rattle.std.proofs.lemmas.List.Elements.{All-nil, All-cons, All-head, All-tail}
use Rattle.dns_octets.specs.Octets.{overwritten}
use Rattle.dns_edit.specs.Uses.{Apart}
use Rattle.dns_edit.proofs.AgreeLemmas.{as_long}
use Rattle.dns_edit.proofs.StayLemmas.{SameApart, outside}

-- The fields that cover the four octets from p on and the n after them.
abbrev pub cover : ℕ → ℕ → List ℕ
cover p zero = p ∷ []
cover p (suc n) = p ∷ cover (p + 1) n

-- They begin at p or after it.
pub cover_begins : (p n q : ℕ) → q ≤ p → All (λ f. q ≤ f) (cover p n)
cover_begins p zero q l = All-cons (λ f. q ≤ f) p [] l (All-nil _)
cover_begins p (suc n) q l = All-cons (λ f. q ≤ f) p (cover (p + 1) n) l (cover_begins (p + 1) n q (omega arith))

-- They end with the octets.
pub cover_ends : (p n q : ℕ) → p + 4 + n ≤ q → All (λ f. f + 4 ≤ q) (cover p n)
cover_ends p zero q l = All-cons (λ f. f + 4 ≤ q) p [] (omega arith) (All-nil _)
cover_ends p (suc n) q l = All-cons (λ f. f + 4 ≤ q) p (cover (p + 1) n) (omega arith) (cover_ends (p + 1) n q (omega arith))

-- an octet that is apart from the fields is before or after them
uncovered : (p n k : ℕ) → Apart (cover p n) k (k + 1) → (p + 4 + n ≤ k) ⊎ (k + 1 ≤ p)
uncovered p zero k a = elim (All-head (λ f. (f + 4 ≤ k) ⊎ (k + 1 ≤ f)) p [] a) [ inl l ↦ inl (omega arith) | inr l ↦ inr l ]
uncovered p (suc n) k a =
    let P : ℕ → Type 0 = λ f. (f + 4 ≤ k) ⊎ (k + 1 ≤ f) in
    elim (All-head P p (cover (p + 1) n) a) [
      | inr l ↦ inr l
      | inl l ↦ elim (uncovered (p + 1) n k (All-tail P p (cover (p + 1) n) a)) [ inl m ↦ inl (omega arith) | inr m ↦ absurd (omega arith) ]
    ]

-- Octets that are overwritten four octets after p change nothing outside of the fields.
pub overwritten_same : (b xs : List ℕ) (p : ℕ) → p + 4 + length xs ≤ length b → SameApart (cover p (length xs)) b (overwritten b (p + 4) xs)
overwritten_same b xs p l = record {
  long = as_long b xs (p + 4) (omega arith);
  same = λ k a.
      let where_is : (p + 4 + length xs ≤ k) ⊎ (k + 1 ≤ p + 4) = elim (uncovered p (length xs) k a) [ inl m ↦ inl m | inr m ↦ inr (omega arith) ] in
      outside b xs (p + 4) (p + 4 + length xs) k (omega arith) l where_is;
}
