-- The names in a chain of aliases.
use Rattle.std.proofs.Common.{◌≡◌, ◌∙◌, ℕ, zero, suc, ◌+◌, ◌-◌, ◌≤◌, inl, inr, ap, sym, refl, subst, add-one, add-zero, add-suc, arith}
use Rattle.std.proofs.lemmas.Bool.Decides.{leb_tells}
use Rattle.std.specs.Prelude.{min, Option, Some, None, option_map, option_and_then}
use Rattle.dns_name.specs.Names.{Labels}
use Rattle.dns_code.specs.Ttl.{most_seconds}
use Rattle.dns_item.specs.Questions.{QuestionItem}
use Rattle.dns_reply.specs.Chains.{next_alias, nth_name, ChainEnds}
use Rattle.dns_reply.specs.Chains.ChainEnds.{ends, goes_on}
use Rattle.dns_reply.specs.Laws.{OneEnd}
use Rattle.dns_reply.specs.Records.{Records}

-- a name and the least TTL so far, after an alias
abbrev pub after_alias : ℕ → Labels × ℕ → Labels × ℕ
after_alias ttl next = (next.0, min ttl next.1)

module _ (zone : Labels) (q : QuestionItem) (answers : Records) where
  -- the first name is the question's
  pub first_name : nth_name zone q answers 0 ≡ Some (q.name, most_seconds)
  unfolding nth_name
  first_name = refl

  -- each other name is what the one before is an alias of
  pub next_name : (i : ℕ) (x : Labels × ℕ) → nth_name zone q answers i ≡ Some x → nth_name zone q answers (suc i) ≡ option_map (after_alias x.1) (next_alias zone q answers x.0)
  unfolding nth_name
  next_name i x e = ap (option_and_then (λ (y : Labels × ℕ). option_map (after_alias y.1) (next_alias zone q answers y.0))) e

  -- if the i-th name is an alias of a target, the next name in the chain is this target
  pub next_target : (i : ℕ) (name target : Labels) (ttl seconds : ℕ) → nth_name zone q answers i ≡ Some (name, ttl) → Some (target, seconds) ≡ next_alias zone q answers name
      → nth_name zone q answers (i + 1) ≡ Some (target, min ttl seconds)
  next_target i name target ttl seconds e alias = rw add-one (next_name i (name, ttl) e ∙ sym (ap (option_map (after_alias ttl)) alias))

  -- the chain has no name after the one from which it doesn't go on
  last_name : (i : ℕ) (x : Labels × ℕ) → nth_name zone q answers i ≡ Some x → next_alias zone q answers x.0 ≡ None → nth_name zone q answers (suc i) ≡ None
  last_name i x e none = next_name i x e ∙ ap (option_map (after_alias x.1)) none

  -- after the chain's end there is no name
  pub none_next : (i : ℕ) → nth_name zone q answers i ≡ None → nth_name zone q answers (suc i) ≡ None
  unfolding nth_name
  none_next i e = ap (option_and_then (λ (y : Labels × ℕ). option_map (after_alias y.1) (next_alias zone q answers y.0))) e

  ended : (i k : ℕ) → nth_name zone q answers i ≡ None → nth_name zone q answers (i + k) ≡ None
  ended i zero e = rw add-zero e
  ended i (suc k) e = rw add-suc (none_next (i + k) (ended i k e))

  -- if the chain has a name, it has all names before it
  before_some : (i j : ℕ) (x : Labels × ℕ) → nth_name zone q answers i ≡ None → nth_name zone q answers j ≡ Some x → i ≤ j → ⊥
  before_some i j x none some l =
      let k : i + (j - i) ≡ j = omega arith in
      let e : nth_name zone q answers j ≡ None = subst (λ n. nth_name zone q answers n ≡ None) k (ended i (j - i) none) in
      absurd (let same = sym e ∙ some in cc)

  -- the last name of the chain is unique
  one_last : (i j : ℕ) (x y : Labels × ℕ) → nth_name zone q answers i ≡ Some x → nth_name zone q answers (suc i) ≡ None → nth_name zone q answers j ≡ Some y → nth_name zone q answers (suc j) ≡ None
      → Some x ≡ Some y
  one_last i j x y at_i after_i at_j after_j =
      elim (leb_tells (suc i) j) [
        | inl l ↦ absurd (before_some (suc i) j y after_i at_j l.1)
        | inr l ↦ elim (leb_tells (suc j) i) [
          | inl k ↦ absurd (before_some (suc j) i x after_j at_i k.1)
          | inr k ↦ let same : i ≡ j = omega (arith, l.1, k.1) in sym at_i ∙ ap (nth_name zone q answers) same ∙ at_j
        ]
      ]

  one_answer : (x y : Option (Labels × ℕ)) → ChainEnds zone q answers x → ChainEnds zone q answers y → x ≡ y
  one_answer x y (ends i u l at_i none) (ends j v k at_j others) = one_last i j u v at_i (last_name i u at_i none) at_j (last_name j v at_j others)
  one_answer x y (ends i u l at_i none) (goes_on v at_end) = absurd (before_some (suc i) 20 v (last_name i u at_i none) at_end (omega arith))
  one_answer x y (goes_on u at_end) (ends j v k at_j none) = absurd (before_some (suc j) 20 u (last_name j v at_j none) at_end (omega arith))
  one_answer x y (goes_on u at_end) (goes_on v other) = refl

-- A chain has one end.
pub one_end : OneEnd
one_end zone q answers = one_answer zone q answers
