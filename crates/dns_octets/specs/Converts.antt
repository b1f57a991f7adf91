use Rattle.std.specs.Prelude.{Result, Ok, Err}
use Rattle.dns_octets.specs.declared.error.AppendError.{AppendError}
use Rattle.dns_octets.specs.declared.error.AppendError.TheVariants.{ShortBuf, OutOfMemory}

-- A conversion yields a value that keeps what the source holds. It is `ShortBuf` exactly if that exceeds the capacity (`TooLong`), and `OutOfMemory` only if it allocates (`Memory`).
abbrev pub Converts : {T : Type 0} → Result T AppendError → (T → Type 0) → Type 0 → Type 0 → Type 0
Converts (Ok value) Keeps TooLong Memory = Keeps value × (TooLong → ⊥)
Converts (Err ShortBuf) Keeps TooLong Memory = TooLong
Converts (Err OutOfMemory) Keeps TooLong Memory = Memory × (TooLong → ⊥)

-- The joined result of two conversions: both values, or an error. `ShortBuf` comes before `OutOfMemory`.
abbrev pub joined : {A B : Type 0} → Result A AppendError → Result B AppendError → Result (A × B) AppendError
joined (Ok a) (Ok b) = Ok (a, b)
joined (Ok a) (Err e) = Err e
joined (Err ShortBuf) second = Err ShortBuf
joined (Err OutOfMemory) (Ok b) = Err OutOfMemory
joined (Err OutOfMemory) (Err e) = Err e
