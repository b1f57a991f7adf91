-- The first fault of readings, and how many items an iterator had.
use Rattle.std.proofs.Common.{◌≡◌, ◌<◌, ◌∙◌, Bool, List, [], ◌∷◌, ◌++◌, length, ap, sym, refl, arith}
use Rattle.std.specs.Prelude.{◌↔◌, IsTrue, is_some, MatchOption, Option, Some, None, Result, Ok, Err}
use Rattle.dns_name.specs.Names.{Fault}
use Rattle.dns_reply.specs.Records.{first_fault}

module _ {X : Type 0} where
  -- A fault of the first of two readings is the first fault of both.
  pub fault_left : (xs ys : List (Result X Fault)) (f : Fault) → first_fault xs ≡ Some f → first_fault (xs ++ ys) ≡ Some f
  fault_left [] ys f e = absurd (cc)
  fault_left (Ok x ∷ xs) ys f e = fault_left xs ys f e
  fault_left (Err g ∷ xs) ys f e = e

  -- If the first of two readings has no fault, the first fault is that of the second.
  pub fault_right : (xs ys : List (Result X Fault)) → first_fault xs ≡ None → first_fault (xs ++ ys) ≡ first_fault ys
  fault_right [] ys e = refl
  fault_right (Ok x ∷ xs) ys e = fault_right xs ys e
  fault_right (Err g ∷ xs) ys e = absurd (cc)

-- A second call of an iterator yields something exactly if it had more than one item.
pub second_some : {A B : Type 0} (view : A → B) (first second : Option A) (given : Bool) (xs ys zs : List B) → given ≡ is_some second
    → MatchOption first ((xs ≡ []) × (ys ≡ [])) (λ x. xs ≡ view x ∷ ys) → MatchOption second ((ys ≡ []) × (zs ≡ [])) (λ x. ys ≡ view x ∷ zs) → IsTrue given ↔ (1 < length xs)
second_some view None None given xs ys zs is h k = let n = ap length h.0 in (λ some. absurd (cc), λ l. absurd (omega (arith, n, l)))
second_some view None (Some y) given xs ys zs is h k = absurd (let e = sym h.1 ∙ k in cc)
second_some view (Some x) None given xs ys zs is h k = let n = ap length h in let m = ap length k.0 in (λ some. absurd (cc), λ l. absurd (omega (arith, n, m, l)))
second_some view (Some x) (Some y) given xs ys zs is h k = let n = ap length h in let m = ap length k in (λ some. omega (arith, n, m), λ l. is)
