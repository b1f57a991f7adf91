use Rattle.std.proofs.Common.{◌≡◌}
use Rattle.std.specs.Prelude.{None}
use Rattle.fields_forms.proofs.theory.LocationLemmas.{no_decimals}
use Rattle.fields_forms.proofs.location_words.read_decimals.Goals as goal

pub returns-in_err-digits-clause-read : goal.returns-in_err-digits-clause-read
returns-in_err-digits-clause-read c =
    let none : c.from_residual.result ≡ None = c.from_residual.ensures in
    rw none (no_decimals c.args.places c.args.word.now c.requires c.in_err-digits.ensures)
