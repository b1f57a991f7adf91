use Rattle.std.proofs.Common.{◌≡◌, arith}
use Rattle.std.specs.Prelude.{None}
use Rattle.fields_forms.proofs.theory.LocationLemmas.{seconds_read}
use Rattle.fields_forms.proofs.location_words.read_seconds.Goals as goal

pub returns-in_err-seconds-clause-read : goal.returns-in_err-seconds-clause-read
returns-in_err-seconds-clause-read c =
    let none : c.from_residual.result ≡ None = c.from_residual.ensures in
    rw none (seconds_read c.args.words.now _ None (omega arith) c.in_err-seconds.ensures)
