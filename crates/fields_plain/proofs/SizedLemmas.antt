-- Octets after their length, and their words. RFC 8945 section 4.2.
use Rattle.std.proofs.Common.{◌≡◌, ℕ, List, refl, inl, inr}
use Rattle.std.specs.Prelude.{IfErr, IfOk, Result, Ok, Err}
use Rattle.std.specs.Borrow.{Bor}
use Rattle.std.specs.Global.{Vec}
use Rattle.fields_text.specs.declared.text_error.TextError.{TextError}
use Rattle.fields_text.specs.declared.text_error.TextError.TheVariants.{OutOfMemory}
use Rattle.fields_text.specs.LengthOctets.{sized}
use Rattle.fields_text.specs.Reading.{Fails, ReadsWords}
use Rattle.fields_plain.specs.SizedWords.{AreSized, IsSizedWords}

-- Octets that words represent are read with their length before them, unless an allocation fails.
pub sized_read : (words : List (Bor (List ℕ))) (octets : List ℕ) (result : Result (Vec ℕ) TextError) → AreSized words octets → IfOk result (λ all. all.items ≡ sized octets)
    → IfErr result (λ error. error ≡ OutOfMemory) → ReadsWords (IsSizedWords words) result
sized_read words octets (Ok all) are ok err = (octets, are, ok)
sized_read words octets (Err e) are ok err = inl (err, (sized octets, (octets, are, refl)))

-- Why there are no octets with their length before them.
pub sized_fails : (words : List (Bor (List ℕ))) (e : TextError) → Fails (AreSized words) e → Fails (IsSizedWords words) e
sized_fails words e (inl memory) = inl (memory.0, (sized memory.1.0, (memory.1.0, memory.1.1, refl)))
sized_fails words e (inr bad) = inr (bad.0, λ all is. bad.1 is.0 is.1)
