use Rattle.std.proofs.Common.{◌≡◌, ℕ, List, subst}
use Rattle.std.specs.Prelude.{IfOk}
use Rattle.fields_text.specs.LengthOctets.{sized}
use Rattle.fields_plain.proofs.SizedLemmas.{sized_fails, sized_read}
use Rattle.fields_plain.proofs.sized.read_sized.Goals as goal

pub returns-in-Ok : goal.returns-in-Ok
returns-in-Ok c =
    sized_read c.args.words.now c.in-Ok.octets.items c.after_length.result c.in-Ok.ensures
    (subst (λ (octets : List ℕ). IfOk c.after_length.result (λ all. all.items ≡ sized octets)) c.as_slice.ensures.value c.after_length.ensures.ok) c.after_length.ensures.err

pub returns-in-Err : goal.returns-in-Err
returns-in-Err c = sized_fails c.args.words.now c.in-Err.error c.in-Err.ensures
