-- What reading consecutive entries gives. RFC 1035 section 4.1. These definitions have no cursor and no stored error.
use Rattle.std.specs.Prelude.{ℕ, suc, List, [], ◌∷◌, Result, Ok, Err}
use Rattle.dns_name.specs.Names.{Fault}

-- n consecutive entries, which can be skipped, extend from p to q
pub data Skipped (Skips : ℕ → ℕ → Type 0) : ℕ → ℕ → ℕ → Type 0 where
  none : {p : ℕ} → Skipped Skips 0 p p
  more : {n p q r : ℕ} → Skips p q → Skipped Skips n q r → Skipped Skips (suc n) p r

-- of n entries from offset p, one can't be skipped, and this is the fault of the first such
pub data StopsSkipping (Skips : ℕ → ℕ → Type 0) (FaultOf : ℕ → Fault → Type 0) : ℕ → ℕ → Fault → Type 0 where
  here : {n p : ℕ} {f : Fault} → FaultOf p f → StopsSkipping Skips FaultOf (suc n) p f
  after : {n p q : ℕ} {f : Fault} → Skips p q → StopsSkipping Skips FaultOf n q f → StopsSkipping Skips FaultOf (suc n) p f

-- The reading of at most n entries from offset p: the consecutive readable ones and, if an entry isn't readable, its fault as the last item.
pub data Reading {X : Type 0} (Reads : ℕ → ℕ → X → Type 0) (FaultOf : ℕ → Fault → Type 0) : ℕ → ℕ → List (Result X Fault) → Type 0 where
  none : {p : ℕ} → Reading Reads FaultOf 0 p []
  entry : {n p q : ℕ} {x : X} {xs : List (Result X Fault)} → Reads p q x → Reading Reads FaultOf n q xs → Reading Reads FaultOf (suc n) p (Ok x ∷ xs)
  stop : {n p : ℕ} {f : Fault} → FaultOf p f → Reading Reads FaultOf (suc n) p (Err f ∷ [])
