use Rattle.std.proofs.Common.{◌∷◌, ◌++◌, refl, inl, inr}
use Rattle.fields_values.specs.NewForms.{gateway_octets, gateway_type}
use Rattle.fields_values.proofs.forms.push_gateway_and_key.Goals as goal

pub returns-then-not-is_whole : goal.returns-then-not-is_whole
returns-then-not-is_whole c = inr (refl, λ octets is. let is_true = c.is_whole.ensures.1 is.0 in cc (is_true, c.if-not-is_whole.true))

pub returns-in-Err : goal.returns-in-Err
returns-in-Err c =
    let value = c.args.value.now in
    inl (
      c.in-Err.ensures.err,
      (
        gateway_type value.gateway ∷ value.algorithm ∷ (gateway_octets value.gateway ++ value.key.now),
        (c.is_whole.ensures.0 c.if-not-is_whole.false, refl),
      ),
    )

pub returns-in-Err-push_gateway_octets : goal.returns-in-Err-push_gateway_octets
returns-in-Err-push_gateway_octets c =
    let value = c.args.value.now in
    inl (
      c.in-Err-push_gateway_octets.ensures.err,
      (
        gateway_type value.gateway ∷ value.algorithm ∷ (gateway_octets value.gateway ++ value.key.now),
        (c.is_whole.ensures.0 c.if-not-is_whole.false, refl),
      ),
    )

pub returns-in-Err-push : goal.returns-in-Err-push
returns-in-Err-push c =
    let value = c.args.value.now in
    inl (
      c.in-Err-push.ensures.err,
      (
        gateway_type value.gateway ∷ value.algorithm ∷ (gateway_octets value.gateway ++ value.key.now),
        (c.is_whole.ensures.0 c.if-not-is_whole.false, refl),
      ),
    )
