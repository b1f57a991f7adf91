use Rattle.std.proofs.Common.{refl, rules}
use Rattle.dns_print.proofs.theory.Prints.{print_four}
use Rattle.fields_forms.proofs.location.write_position.Goals as goal

pub returns-clause-text : goal.returns-clause-text
returns-clause-text g c =
    λ ok.
    let first = c.write_direction.ensures.text (search rules) in
    let second = c.write_text.ensures.text (search rules) in
    let third = c.write_direction-2.ensures.text (search rules) in
    let fourth = c.write_text-2.ensures.text ok in
    print_four _ _ _ _ _ _ _ _ _ _ _ first second third fourth refl
