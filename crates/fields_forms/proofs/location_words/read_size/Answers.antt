use Rattle.std.proofs.Common.{◌≡◌}
use Rattle.std.specs.Prelude.{None}
use Rattle.fields_forms.proofs.theory.LocationLemmas.{no_size}
use Rattle.fields_forms.proofs.location_words.read_size.Goals as goal

pub returns-in_err-centimetres : goal.returns-in_err-centimetres
returns-in_err-centimetres c =
    let none : c.from_residual.result ≡ None = c.from_residual.ensures in
    rw none (no_size c.args.word.now c.in_err-centimetres.ensures.read)
