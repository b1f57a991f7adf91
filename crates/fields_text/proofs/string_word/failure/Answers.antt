use Rattle.std.proofs.Common.{◌≡◌, [], ◌∷◌, ◌++◌, Some, length, refl, inl, arith}
use Rattle.std.proofs.lemmas.Grind.{common_steps}
use Rattle.fields_text.specs.Strings.{octet_at}
use Rattle.fields_text.proofs.StringSteps.{all_read, nothing_read, octet_read}
use Rattle.fields_text.proofs.string_word.failure.Goals as goal

pub octets-init : goal.octets-init
octets-init c = ([], nothing_read c.args.text.now)

pub octets-preserved : goal.octets-preserved
octets-preserved c =
    let read = c.octets.invariant in
    let split : octet_at c.octets.left.now ≡ Some (c.in-Some._octet, c.in-Some.after.now) = cc c.in-Some.ensures in
    (read.0 ++ c.in-Some._octet ∷ [], octet_read c.args.text.now read.0 c.octets.left.now c.in-Some.after.now c.in-Some._octet read.1 split)

pub returns : goal.returns
returns c =
    let read = c.octets.invariant in
    let none : length c.octets.left.now ≡ 0 = grind (arith, common_steps) in
    inl (refl, (read.0, all_read c.args.text.now read.0 c.octets.left.now read.1 none))
