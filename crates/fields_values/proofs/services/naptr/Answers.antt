use Rattle.std.proofs.Common.{List, [], ◌∷◌, subst}
use Rattle.fields_values.specs.ValueData.{MakesData}
use Rattle.fields_values.specs.declared.new_value.NewValue.{NewValue}
use Rattle.fields_values.specs.declared.new_value.NewValue.TheVariants.{Name, Number, String}
use Rattle.fields_values.proofs.services.naptr.Goals as goal

pub returns : goal.returns
returns g c = (
  c.as_parsed.result,
  c.as_parsed.ensures.labels,
  subst (λ (values : List NewValue). MakesData 35 values c.from_values.result)
      (λ i. Number (c.from.ensures i) ∷ Number (c.from-2.ensures i) ∷ String c.args.flags ∷ String c.args.services ∷ String c.args.regexp ∷ Name c.as_parsed.result ∷ []) c.from_values.ensures,
)
