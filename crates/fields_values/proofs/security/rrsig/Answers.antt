use Rattle.std.proofs.Common.{List, [], ◌∷◌, subst}
use Rattle.fields_values.specs.ValueData.{MakesData}
use Rattle.fields_values.specs.declared.new_value.NewValue.{NewValue}
use Rattle.fields_values.specs.declared.new_value.NewValue.TheVariants.{Name, Number, Octets, RecordType}
use Rattle.fields_values.proofs.security.rrsig.Goals as goal

pub returns : goal.returns
returns g c = (
  c.as_parsed.result,
  c.as_parsed.ensures.labels,
  subst (λ (values : List NewValue). MakesData 46 values c.from_values.result)
      (λ i. RecordType c.args.type_covered ∷ Number (c.from.ensures i) ∷ Number (c.from-2.ensures i) ∷ Number (c.from-3.ensures i) ∷ Number (c.from-4.ensures i)
      ∷ Number (c.from-5.ensures i) ∷ Number (c.from-6.ensures i) ∷ Name c.as_parsed.result ∷ Octets c.args.signature ∷ []) c.from_values.ensures,
)
