-- What `find` and `list_any` find.
use Rattle.std.proofs.Common.{◌≡◌, ◌∙◌, zero, suc, inl, inr, Bool, true, false, cond, List, [], ◌∷◌, ap, sym, subst, refl, arith}
use Rattle.std.proofs.lemmas.Bool.{cases_Bool}
use Rattle.std.specs.List.{list_any}
use Rattle.std.specs.Prelude.{◌||◌, Some, Contains, find, is_some}

-- An item of a list that passes a test.
pub record Passes {X : Type 0} (p : X → Bool) (xs : List X) (x : X) : Type 0 where
  pub among : Contains xs x
  pub passes : p x ≡ true

module _ {X : Type 0} (p : X → Bool) where
  -- the first item of a list
  first_among : (y x : X) (ys : List X) → y ≡ x → p y ≡ true → Passes p (y ∷ ys) x
  first_among y x ys same is = record { among = (0, omega arith, same); passes = subst (λ (z : X). p z ≡ true) same is }

  -- an item of the remaining list
  later_among : (y x : X) (ys : List X) → Passes p ys x → Passes p (y ∷ ys) x
  later_among y x ys h = record { among = (suc h.among.0, omega (arith, h.among.1), h.among.2); passes = h.passes }

  -- What is found is an item that passes.
  pub found_passes : (xs : List X) (x : X) → find p xs ≡ Some x → Passes p xs x
  found_passes [] x e = absurd (cc)
  found_passes (y ∷ ys) x e =
      elim (cases_Bool (p y)) [
        | inl is ↦ let f = subst (λ b. cond b (Some y) (find p ys) ≡ Some x) is e in first_among y x ys (cc) is
        | inr fails ↦ later_among y x ys (found_passes ys x (subst (λ b. cond b (Some y) (find p ys) ≡ Some x) fails e))
      ]

  -- If an item passes, there is one that does.
  pub any_passes : (xs : List X) → list_any p xs ≡ true → (x : X) × Passes p xs x
  any_passes [] e = absurd (cc)
  any_passes (y ∷ ys) e =
      elim (cases_Bool (p y)) [
        | inl is ↦ (y, first_among y y ys refl is)
        | inr fails ↦ let h = any_passes ys (subst (λ b. (b || list_any p ys) ≡ true) fails e) in (h.0, later_among y h.0 ys h.1)
      ]

  -- an item that passes is among the remaining items, if the first doesn't pass
  after : (y x : X) (ys : List X) → Contains (y ∷ ys) x → p x ≡ true → p y ≡ false → Contains ys x
  after y x ys (zero, l, e) is fails = absurd (let same : p y ≡ p x = ap p e in let both = sym is ∙ sym same ∙ fails in cc)
  after y x ys (suc k, l, e) is fails = (k, omega (arith, l), e)

  -- Something is found if an item of the list passes.
  pub any_found : (xs : List X) (x : X) → Contains xs x → p x ≡ true → is_some (find p xs) ≡ true
  any_found [] x among is = absurd (omega (arith, among.1))
  any_found (y ∷ ys) x among is =
      elim (cases_Bool (p y)) [
        | inl first ↦ subst (λ b. is_some (cond b (Some y) (find p ys)) ≡ true) (sym first) refl
        | inr fails ↦ subst (λ b. is_some (cond b (Some y) (find p ys)) ≡ true) (sym fails) (any_found ys x (after y x ys among is fails) is)
      ]
