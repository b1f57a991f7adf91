use Rattle.std.proofs.Common.{refl, inl, inr}
use Rattle.fields_forms.proofs.GatewayLemmas.{no_relay, relay_fails, relay_there}
use Rattle.fields_forms.proofs.gateway_words.read_typed_relay.Goals as goal

pub returns-then-not-is_gateway : goal.returns-then-not-is_gateway
returns-then-not-is_gateway c =
    inr (
      refl,
      no_relay c.args.bit.now c.args.relay_type.now c.args.relay.now c.in-Some-read_octet.relay_type c.in-Some-read_octet.ensures c.is_gateway.result
          c.if-not-is_gateway.true c.is_gateway.ensures,
    )

pub returns-in-Err : goal.returns-in-Err
returns-in-Err c =
    inl (
      c.in-Err.ensures.err,
      relay_there c.args.bit.now c.args.relay_type.now c.args.relay.now c.in-Some-read_octet.relay_type c.in-Some-read_octet.ensures
          c.in-Some.bit c.is_gateway.result c.in-Some.ensures c.if-not-is_gateway.false c.is_gateway.ensures,
    )

pub returns-in-Err-push_gateway : goal.returns-in-Err-push_gateway
returns-in-Err-push_gateway c =
    relay_fails c.args.bit.now c.args.relay_type.now c.args.relay.now c.in-Some-read_octet.relay_type c.in-Some-read_octet.ensures c.in-Err-push_gateway.error
    (relay_there c.args.bit.now c.args.relay_type.now c.args.relay.now c.in-Some-read_octet.relay_type c.in-Some-read_octet.ensures c.in-Some.bit
    c.is_gateway.result c.in-Some.ensures c.if-not-is_gateway.false c.is_gateway.ensures) c.in-Err-push_gateway.ensures
