use Rattle.std.proofs.Common.{List, [], ◌∷◌, subst}
use Rattle.fields_values.specs.ValueData.{MakesData}
use Rattle.fields_values.specs.declared.new_value.NewValue.{NewValue}
use Rattle.fields_values.specs.declared.new_value.NewValue.TheVariants.{Name, Number, Parameters}
use Rattle.fields_values.proofs.services.binding.Goals as goal

pub returns : goal.returns
returns g c = (
  c.as_parsed.result,
  c.as_parsed.ensures.labels,
  subst (λ (values : List NewValue). MakesData c.args.rtype values c.from_values.result)
      (λ i. Number (c.from.ensures i) ∷ Name c.as_parsed.result ∷ Parameters c.args.parameters ∷ []) c.from_values.ensures,
)
