use Rattle.std.proofs.Common.{◌≡◌, arith}
use Rattle.std.specs.Prelude.{None, Some}
use Rattle.std.proofs.lemmas.Str.Pattern.{split_parts}
use Rattle.fields_plain.proofs.theory.LocatorLemmas.{no_group, no_split}
use Rattle.fields_plain.proofs.locator.split_group.Goals as goal

pub returns-in_err-group : goal.returns-in_err-group
returns-in_err-group c =
    let none : c.from_residual.result ≡ None = c.from_residual.ensures in
    rw none (no_split c.args.text.now (split_parts 58 c.args.text.now None c.in_err-group.ensures.cases (omega arith)))

pub returns-in_err-number : goal.returns-in_err-number
returns-in_err-number c =
    let none : c.from_residual-in_err-number.result ≡ None = c.from_residual-in_err-number.ensures in
    let parts = split_parts 58 c.args.text.now (Some (c.in_ok-group.group, c.in_ok-group.after)) c.in_ok-group.ensures.cases (omega arith) in
    rw none (no_group c.args.text.now c.in_ok-group.group.now c.in_ok-group.after.now parts.0 parts.1 c.in_err-number.ensures)
