use Rattle.std.proofs.Common.{◌∷◌, ◌+◌, refl, inl, inr}
use Rattle.std.specs.Prelude.{if◌then◌else◌}
use Rattle.fields_values.specs.NewForms.{gateway_octets, gateway_type}
use Rattle.fields_values.proofs.forms.push_relay_octets.Goals as goal

pub returns-then-not-is_whole : goal.returns-then-not-is_whole
returns-then-not-is_whole c = inr (refl, λ octets is. let is_true = c.is_whole.ensures.1 is.0 in cc (is_true, c.if-not-is_whole.true))

pub returns-in-Err : goal.returns-in-Err
returns-in-Err c =
    let value = c.args.value.now in
    inl (
      c.in-Err.ensures.err,
      (
        ((if value.optional then 128 else 0) + gateway_type value.relay) ∷ gateway_octets value.relay,
        (c.is_whole.ensures.0 c.if-not-is_whole.false, refl),
      ),
    )

pub returns-in-Err-push_gateway_octets : goal.returns-in-Err-push_gateway_octets
returns-in-Err-push_gateway_octets c =
    let value = c.args.value.now in
    inl (
      c.in-Err-push_gateway_octets.ensures.err,
      (
        ((if value.optional then 128 else 0) + gateway_type value.relay) ∷ gateway_octets value.relay,
        (c.is_whole.ensures.0 c.if-not-is_whole.false, refl),
      ),
    )
