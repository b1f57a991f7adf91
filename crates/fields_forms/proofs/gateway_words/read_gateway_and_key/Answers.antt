use Rattle.std.proofs.Common.{refl, inl, inr}
use Rattle.fields_forms.proofs.GatewayLemmas.{gateway_fails, gateway_there, key_fails, no_gateway}
use Rattle.fields_forms.proofs.gateway_words.read_gateway_and_key.Goals as goal

pub returns-then-not-is_gateway : goal.returns-then-not-is_gateway
returns-then-not-is_gateway c =
    inr (
      refl,
      no_gateway c.args.gateway_type.now c.args.algorithm.now c.args.gateway.now c.args.key.now c.in-Some.gateway_type c.in-Some.ensures
          c.is_gateway.result c.if-not-is_gateway.true c.is_gateway.ensures,
    )

pub returns-in-Err : goal.returns-in-Err
returns-in-Err c =
    key_fails c.args.gateway_type.now c.args.algorithm.now c.args.gateway.now c.args.key.now c.in-Some.gateway_type c.in-Some.ensures c.in-Err.error
    (λ key. gateway_there c.args.gateway_type.now c.args.algorithm.now c.args.gateway.now c.args.key.now c.in-Some.gateway_type c.in-Some.ensures
    c.in-Some-read_octet.algorithm c.is_gateway.result c.in-Some-read_octet.ensures c.if-not-is_gateway.false c.is_gateway.ensures key) c.in-Err.ensures

pub returns-in-Err-push_octets : goal.returns-in-Err-push_octets
returns-in-Err-push_octets c =
    inl (
      c.in-Err-push_octets.ensures.err,
      gateway_there c.args.gateway_type.now c.args.algorithm.now c.args.gateway.now c.args.key.now c.in-Some.gateway_type c.in-Some.ensures
          c.in-Some-read_octet.algorithm c.is_gateway.result c.in-Some-read_octet.ensures c.if-not-is_gateway.false c.is_gateway.ensures (c.in-Ok.key.items, c.in-Ok.ensures),
    )

pub returns-in-Err-push_gateway : goal.returns-in-Err-push_gateway
returns-in-Err-push_gateway c =
    gateway_fails c.args.gateway_type.now c.args.algorithm.now c.args.gateway.now c.args.key.now c.in-Some.gateway_type c.in-Some.ensures c.in-Err-push_gateway.error
    (gateway_there c.args.gateway_type.now c.args.algorithm.now c.args.gateway.now c.args.key.now c.in-Some.gateway_type c.in-Some.ensures
    c.in-Some-read_octet.algorithm c.is_gateway.result c.in-Some-read_octet.ensures c.if-not-is_gateway.false c.is_gateway.ensures (c.in-Ok.key.items, c.in-Ok.ensures))
    c.in-Err-push_gateway.ensures

pub returns : goal.returns
returns c = inl (
  c.in-Err-push_octets-2.ensures.err,
  gateway_there c.args.gateway_type.now c.args.algorithm.now c.args.gateway.now c.args.key.now c.in-Some.gateway_type c.in-Some.ensures
      c.in-Some-read_octet.algorithm c.is_gateway.result c.in-Some-read_octet.ensures c.if-not-is_gateway.false c.is_gateway.ensures (c.in-Ok.key.items, c.in-Ok.ensures),
)
