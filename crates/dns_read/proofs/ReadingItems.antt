-- When readings have items.
use Rattle.std.proofs.Common.{◌≡◌, ℕ, suc, List, []}
use Rattle.std.specs.Prelude.{Result}
use Rattle.dns_name.specs.Names.{Fault}
use Rattle.dns_read.specs.Reading.{Reading}
use Rattle.dns_read.specs.Reading.Reading.{entry, stop}

-- a reading has an item if an entry is asked for
pub has_item : {X : Type 0} {Reads : ℕ → ℕ → X → Type 0} {FaultOf : ℕ → Fault → Type 0} (n p : ℕ) (xs : List (Result X Fault)) → Reading Reads FaultOf (suc n) p xs → xs ≡ [] → ⊥
has_item n p xs (entry reads rest) e = absurd (cc)
has_item n p xs (stop fault) e = absurd (cc)
