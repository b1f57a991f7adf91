use Rattle.std.proofs.Common.{List, [], ◌∷◌, arith, subst}
use Rattle.fields_values.specs.ValueData.{MakesData}
use Rattle.fields_values.specs.declared.new_value.NewValue.{NewValue}
use Rattle.fields_values.specs.declared.new_value.NewValue.TheVariants.{Name, Number}
use Rattle.fields_values.proofs.NamedValues.{made_mx}
use Rattle.fields_values.proofs.named.mx.Goals as goal

pub returns : goal.returns
returns g c =
    made_mx c.names_are_bounded.ensures c.args.preference c.as_parsed.result _ c.from_values.result (omega (arith, c.ranges.preference.fits)) c.as_parsed.ensures.labels
    (subst (λ (values : List NewValue). MakesData 15 values c.from_values.result) (λ i. Number (c.from.ensures i) ∷ Name c.as_parsed.result ∷ []) c.from_values.ensures)
