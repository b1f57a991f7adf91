-- What a cursor yields next.
use Rattle.std.proofs.Common.{◌≡◌, ◌∙◌, ℕ, suc, ◌-◌, ◌≤◌, List, [], ◌∷◌, ap, arith}
use Rattle.std.specs.Prelude.{Some, Result, Ok, Err}
use Rattle.std.specs.Result.{result_ok}
use Rattle.dns_name.specs.Names.{Fault}
use Rattle.dns_octets.specs.declared.error.ParseError.{ParseError}
use Rattle.dns_read.specs.Readings.{AreReadings}
use Rattle.dns_read.specs.Skipping.{items_left}

-- a result that holds n is `Ok n`
pub ok_of : (left : Result ℕ ParseError) (n : ℕ) → Some n ≡ result_ok left → left ≡ Ok n
ok_of (Ok m) n e = cc
ok_of (Err x) n e = cc

module _ {X : Type 0} {Reads : ℕ → ℕ → X → Type 0} {FaultOf : ℕ → Fault → Type 0} {from : ℕ → ℕ → List (Result X Fault)} (are : AreReadings Reads FaultOf from)
    (p : ℕ) (left : Result ℕ ParseError) (n : ℕ) (known : Some n ≡ result_ok left) where
  -- what is left if no error was yielded
  known_left : items_left (λ k. from k p) left ≡ from n p
  known_left = ap (items_left (λ k. from k p)) (ok_of left n known)

  -- nothing is left if no entry may come
  pub nothing_left : (1 ≤ n → ⊥) → items_left (λ k. from k p) left ≡ []
  nothing_left none = let zero : n ≡ 0 = omega (arith, none) in known_left ∙ ap (λ k. from k p) zero ∙ are.none p

  -- what is left if at least one entry may come
  one_more : (m : ℕ) → (1 ≤ n) × (m ≡ n - 1) → items_left (λ k. from k p) left ≡ from (suc m) p
  one_more m h = let more : n ≡ suc m = omega (arith, h.0, h.1) in known_left ∙ ap (λ k. from k p) more

  -- an entry is yielded, and what is left after it
  pub gives_entry : (m q : ℕ) (x : X) → (1 ≤ n) × (m ≡ n - 1) → Reads p q x → items_left (λ k. from k p) left ≡ Ok x ∷ from m q
  gives_entry m q x h reads = one_more m h ∙ are.entry m p q x reads

  -- a fault is yielded, and nothing is left after it
  pub gives_fault : (m : ℕ) (f : Fault) → (1 ≤ n) × (m ≡ n - 1) → FaultOf p f → items_left (λ k. from k p) left ≡ Err f ∷ []
  gives_fault m f h fault = one_more m h ∙ are.stop m p f fault
