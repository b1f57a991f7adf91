-- What passes tests, and what searches find.
use Rattle.std.proofs.Common.{◌≡◌, ◌∙◌, ◌⊎◌, zero, suc, inl, inr, Bool, true, false, cond, List, [], ◌∷◌, sym, subst, refl, ap, arith}
use Rattle.std.proofs.lemmas.Bool.{cases_Bool}
use Rattle.std.specs.List.{list_any}
use Rattle.std.specs.Prelude.{◌&&◌, ◌||◌, Some, None, Contains, find}

-- No test passes and fails.
pub never : {A : Type 0} (b : Bool) → b ≡ true → b ≡ false → A
never b passes fails = absurd (let e = sym passes ∙ fails in cc)

-- Both of two tests pass.
pub both_pass : (a b : Bool) → (a && b) ≡ true → (a ≡ true) × (b ≡ true)
both_pass true true e = (refl, refl)
both_pass true false e = absurd (cc)
both_pass false b e = absurd (cc)

-- What passes both tests passes their conjunction.
pub passes_both : (a b : Bool) → a ≡ true → b ≡ true → (a && b) ≡ true
passes_both true b e f = f
passes_both false b e f = e

-- One of two tests passes.
pub either_passes : (a b : Bool) → (a || b) ≡ true → (a ≡ true) ⊎ (b ≡ true)
either_passes true b e = inl refl
either_passes false b e = inr e

-- What passes one of two tests passes their disjunction.
pub passes_either : (a b : Bool) → (a ≡ true) ⊎ (b ≡ true) → (a || b) ≡ true
passes_either true b h = refl
passes_either false b (inl e) = absurd (cc)
passes_either false b (inr e) = e

-- What holds of both values holds of the one that a test chooses.
pub by_test : {X : Type 0} (P : X → Type 0) (b : Bool) (x y : X) → (b ≡ true → P x) → (b ≡ false → P y) → P (cond b x y)
by_test P true x y passes fails = passes refl
by_test P false x y passes fails = fails refl

-- Nothing is in an empty list.
pub in_none : {X A : Type 0} (x : X) → Contains [] x → A
in_none x h = absurd (omega (arith, h.1))

module _ {X : Type 0} where
  -- The first item of a list, and the others, are in it.
  pub is_first : (y x : X) (ys : List X) → y ≡ x → Contains (y ∷ ys) x
  is_first y x ys same = (0, omega arith, same)

  -- An element of a list is one of a list with another before it.
  pub is_later : (y x : X) (ys : List X) → Contains ys x → Contains (y ∷ ys) x
  is_later y x ys h = (suc h.0, omega (arith, h.1), h.2)

  -- An element is the first one, or one of those after it.
  pub is_one_of : (y x : X) (ys : List X) → Contains (y ∷ ys) x → (y ≡ x) ⊎ Contains ys x
  is_one_of y x ys (zero, l, e) = inl e
  is_one_of y x ys (suc k, l, e) = inr (k, omega (arith, l), e)

module _ {X : Type 0} (p : X → Bool) where
  -- an item that passes is among the others, if the first doesn't pass
  is_past : (y x : X) (ys : List X) → (y ≡ x) ⊎ Contains ys x → p x ≡ true → p y ≡ false → Contains ys x
  is_past y x ys (inl same) passes fails = never (p y) (ap p same ∙ passes) fails
  is_past y x ys (inr h) passes fails = h

  -- What is found is an item that passes.
  pub found_one : (xs : List X) (x : X) → find p xs ≡ Some x → Contains xs x × (p x ≡ true)
  found_one [] x e = absurd (cc)
  found_one (y ∷ ys) x e =
      elim (cases_Bool (p y)) [
        | inl passes ↦ let f = subst (λ b. cond b (Some y) (find p ys) ≡ Some x) passes e in
            let same : y ≡ x = cc in (is_first y x ys same, subst (λ (z : X). p z ≡ true) same passes)
        | inr fails ↦ let h = found_one ys x (subst (λ b. cond b (Some y) (find p ys) ≡ Some x) fails e) in (is_later y x ys h.0, h.1)
      ]

  -- If nothing is found, no item passes.
  pub none_found : (xs : List X) → find p xs ≡ None → (x : X) → Contains xs x → p x ≡ true → ⊥
  none_found [] e x among passes = omega (arith, among.1)
  none_found (y ∷ ys) e x among passes =
      elim (cases_Bool (p y)) [
        | inl first ↦ (let f = subst (λ b. cond b (Some y) (find p ys) ≡ None) first e in cc)
        | inr fails ↦ none_found ys (subst (λ b. cond b (Some y) (find p ys) ≡ None) fails e) x (is_past y x ys (is_one_of y x ys among) passes fails) passes
      ]

  -- One of the items passes.
  pub found_any : (xs : List X) → list_any p xs ≡ true → (x : X) × Contains xs x × (p x ≡ true)
  found_any [] e = absurd (cc)
  found_any (y ∷ ys) e =
      elim (either_passes (p y) (list_any p ys) e) [
        | inl passes ↦ (y, is_first y y ys refl, passes)
        | inr later ↦ let h = found_any ys later in (h.0, is_later y h.0 ys h.1, h.2)
      ]

  any_of : (y x : X) (ys : List X) → (y ≡ x) ⊎ (list_any p ys ≡ true) → p x ≡ true → list_any p (y ∷ ys) ≡ true
  any_of y x ys (inl same) passes = passes_either (p y) (list_any p ys) (inl (ap p same ∙ passes))
  any_of y x ys (inr later) passes = passes_either (p y) (list_any p ys) (inr later)

  -- A list with an element that passes a test passes it.
  pub passes_any : (xs : List X) (x : X) → Contains xs x → p x ≡ true → list_any p xs ≡ true
  passes_any [] x among passes = absurd (omega (arith, among.1))
  passes_any (y ∷ ys) x among passes =
      elim (is_one_of y x ys among) [
        | inl same ↦ any_of y x ys (inl same) passes
        | inr later ↦ any_of y x ys (inr (passes_any ys x later passes)) passes
      ]
