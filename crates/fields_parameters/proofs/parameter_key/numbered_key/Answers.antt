use Rattle.std.proofs.Common.{◌++◌, ◌∙◌, List, ℕ, sym, ap}
use Rattle.std.specs.Prelude.{codes}
use Rattle.fields_parameters.proofs.KeyLemmas.{not_numbered, numbered_is}
use Rattle.fields_parameters.proofs.parameter_key.numbered_key.Goals as goal

pub returns-in_default : goal.returns-in_default
returns-in_default c = not_numbered c.args.name.now c.in_default.ensures.cases

pub returns : goal.returns
returns c =
    let strip = c.in-Some.ensures.cases in
    numbered_is c.args.name.now c.in-Some.digits.now c.plain_number.result (strip.1.1 ∙ ap (λ (xs : List ℕ). codes "key" ++ xs) (sym strip.2)) c.plain_number.ensures
