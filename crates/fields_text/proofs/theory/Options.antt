-- Values that may be there.
use Rattle.std.proofs.Common.{◌≡◌, Some, ℕ, List, ◌++◌, refl}
use Rattle.std.specs.Prelude.{Option, Some, None, is_some}
use Rattle.std.specs.Fmt.{◌++?◌}

-- Two values that are there are the same.
pub some_same : {A : Type 0} (x y : A) → Some x ≡ Some y → x ≡ y
some_same x y e = cc

-- a text before others is there if they are
pub some_after : (text : List ℕ) (others : Option (List ℕ)) → is_some (Some text ++? others) ≡ is_some others
some_after text None = refl
some_after text (Some others) = refl
