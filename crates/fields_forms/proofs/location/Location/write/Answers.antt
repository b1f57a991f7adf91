use Rattle.std.proofs.Common.{refl, rules}
use Rattle.dns_print.proofs.theory.Prints.{print_append, print_four}
use Rattle.fields_forms.proofs.location.Location.write.Goals as goal

pub returns-clause-text : goal.returns-clause-text
returns-clause-text g c =
    λ ok.
    let position = c.write_position.ensures.text (search rules) in
    let altitude = c.write_altitude.ensures.text (search rules) in
    let size = c.write_size.ensures.text (search rules) in
    let horizontal = c.write_size-2.ensures.text (search rules) in
    let vertical = c.write_size-3.ensures.text ok in
    print_four _ _ _ _ _ _ _ _ _ _ _ position altitude size (print_append _ _ _ _ _ _ horizontal vertical) refl
