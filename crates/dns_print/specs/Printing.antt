-- Texts that are printed.
use Rattle.std.specs.Prelude.{ℕ, List, IsOk, Result}
use Rattle.std.specs.declared.fmt.Error.{Error}
use Rattle.std.specs.declared.fmt.Formatter.{Formatter}
use Rattle.std.specs.Fmt.{WritesInCalls, HasWrittenStyled, IsFlush}

-- A formatter takes a text as it is, whatever its options are.
pub record FormatterTakes {W : Type 0} (gives : W → List ℕ → W → Type 0) (old : Formatter W) (text : List ℕ) (new : Formatter W) : Type 0 where
  pub written : IsFlush old → HasWrittenStyled gives old text new

-- If the result is `Ok`, the writer took the text, in one part or more.
abbrev pub PrintsOnOk : {W : Type 0} → (W → List ℕ → W → Type 0) → W → Result (Unit {0}) Error → List ℕ → W → Type 0
PrintsOnOk takes old r text new = IsOk r → WritesInCalls takes old text new
