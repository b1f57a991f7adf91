use Rattle.std.proofs.Common.{Err, Ok, Result, refl}
use Rattle.std.specs.Prelude.{IsOk}
use Rattle.dns_message.specs.Wire.{Converts}
use Rattle.dns_message.specs.declared.wire.AppendError.{AppendError}
use Rattle.dns_message.specs.declared.wire.AppendError.TheVariants.{OutOfMemory, ShortBuf}
use Rattle.example_response.proofs.answer.owned.Goals as goal

-- a conversion without a limit that allocates nothing never fails
always : {T : Type 0} (r : Result T AppendError) (Keeps : T → Type 0) → Converts r Keeps ⊥ ⊥ → IsOk r
always (Ok value) Keeps h = refl
always (Err ShortBuf) Keeps h = absurd h
always (Err OutOfMemory) Keeps h = absurd h.0

pub unwrap-requires : goal.unwrap-requires
unwrap-requires c = always c.try_flatten_into-copy.result _ c.try_flatten_into-copy.ensures

pub returns : goal.returns
returns c = (rw c.unwrap.ensures at c.try_flatten_into-copy.ensures).0
