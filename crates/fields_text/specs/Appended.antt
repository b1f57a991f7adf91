-- Appending what was read.
use Rattle.std.specs.Prelude.{◌≡◌, ℕ, List, ◌++◌, Result, Ok, Err, OnOk, IfErr}
use Rattle.std.specs.Global.{Vec}
use Rattle.fields_text.specs.declared.text_error.TextError.{TextError}
use Rattle.fields_text.specs.declared.text_error.TextError.TheVariants.{OutOfMemory}

-- the octets that were read are appended, or an allocation fails; or the error is that of reading
abbrev pub AppendsRead : Result (Vec ℕ) TextError → List ℕ → List ℕ → Result Unit TextError → Type 0
AppendsRead (Ok more) old new result = OnOk result (new ≡ old ++ more.items) × IfErr result (λ error. error ≡ OutOfMemory)
AppendsRead (Err error) old new result = result ≡ Err error
