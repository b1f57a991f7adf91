use Rattle.std.proofs.Common.{List, [], ◌∷◌, arith, subst}
use Rattle.fields_values.specs.ValueData.{MakesData}
use Rattle.fields_values.specs.declared.new_value.NewValue.{NewValue}
use Rattle.fields_values.specs.declared.new_value.NewValue.TheVariants.{Name, Number}
use Rattle.fields_values.proofs.NamedValues.{made_srv}
use Rattle.fields_values.proofs.named.srv.Goals as goal

pub returns : goal.returns
returns g c =
    made_srv c.names_are_bounded.ensures c.args.priority c.args.weight c.args.port c.as_parsed.result _ c.from_values.result
    (omega (arith, c.ranges.priority.fits)) (omega (arith, c.ranges.weight.fits)) (omega (arith, c.ranges.port.fits)) c.as_parsed.ensures.labels
    (subst (λ (values : List NewValue). MakesData 33 values c.from_values.result)
    (λ i. Number (c.from.ensures i) ∷ Number (c.from-2.ensures i) ∷ Number (c.from-3.ensures i) ∷ Name c.as_parsed.result ∷ []) c.from_values.ensures)
