use Rattle.std.proofs.Common.{List, [], ◌∷◌, arith, subst}
use Rattle.fields_values.specs.ValueData.{MakesData}
use Rattle.fields_values.specs.declared.new_value.NewValue.{NewValue}
use Rattle.fields_values.specs.declared.new_value.NewValue.TheVariants.{Name, Number}
use Rattle.fields_values.proofs.NamedValues.{made_soa}
use Rattle.fields_values.proofs.named.soa.Goals as goal

pub returns : goal.returns
returns g c =
    made_soa c.names_are_bounded.ensures c.as_parsed.result c.as_parsed-2.result _ _ c.args.serial c.args.refresh c.args.retry c.args.expire c.args.minimum c.from_values.result
    (omega (arith, c.ranges.serial.fits)) (omega (arith, c.ranges.refresh.fits)) (omega (arith, c.ranges.retry.fits)) (omega (arith, c.ranges.expire.fits)) (omega (arith, c.ranges.minimum.fits))
    c.as_parsed.ensures.labels c.as_parsed-2.ensures.labels
    (subst (λ (values : List NewValue). MakesData 6 values c.from_values.result)
    (λ i. Name c.as_parsed.result ∷ Name c.as_parsed-2.result ∷ Number (c.from.ensures i) ∷ Number (c.from-2.ensures i)
    ∷ Number (c.from-3.ensures i) ∷ Number (c.from-4.ensures i) ∷ Number (c.from-5.ensures i) ∷ []) c.from_values.ensures)
