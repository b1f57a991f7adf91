use Rattle.std.proofs.Common.{[], ◌∷◌, ◌++◌, rules}
use Rattle.dns_print.proofs.theory.Prints.{print_append, print_two}
use Rattle.fields_forms.specs.Locations.{angle_text}
use Rattle.fields_forms.proofs.location.write_direction.Goals as goal

pub returns-clause-text : goal.returns-clause-text
returns-clause-text g c =
    λ ok.
    let angle = c.write_angle.ensures.text (search rules) in
    let space = c.write_text.ensures.text (search rules) in
    let side = c.write_text-2.ensures.text ok in
    print_two _ _ _ _ _ _ _ (print_append _ _ _ _ _ _ angle space) side (λ i. (angle_text (c.abs_diff.ensures i) ++ 32 ∷ []) ++ c.direction.ensures i)
