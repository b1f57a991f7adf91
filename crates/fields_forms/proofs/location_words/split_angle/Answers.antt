use Rattle.std.proofs.Common.{◌≡◌}
use Rattle.std.specs.Prelude.{None}
use Rattle.fields_forms.proofs.theory.LocationLemmas.{no_direction, no_parts}
use Rattle.fields_forms.proofs.location_words.split_angle.Goals as goal

pub returns-in_err-index : goal.returns-in_err-index
returns-in_err-index c =
    let none : c.from_residual.result ≡ None = c.from_residual.ensures in
    rw none (no_direction c.args.positive.now c.args.negative.now c.requires.letters c.args.most c.args.words.now c.in_err-index.ensures)

pub returns-in_err-angle : goal.returns-in_err-angle
returns-in_err-angle c =
    let none : c.from_residual-in_err-angle.result ≡ None = c.from_residual-in_err-angle.ensures in
    rw none
    (no_parts c.args.positive.now c.args.negative.now c.requires.letters c.args.most c.args.words.now c.in_ok-index.index c.args.positive c.in_ok-index.ensures c.in_err-angle.ensures.read)
