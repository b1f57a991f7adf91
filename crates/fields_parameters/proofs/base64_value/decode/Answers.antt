use Rattle.std.proofs.Common.{subst, sym}
use Rattle.fields_parameters.specs.PushedValues.{DecodesInto}
use Rattle.fields_parameters.proofs.Base64Lemmas.{decoded}
use Rattle.fields_parameters.proofs.base64_value.decode.Goals as goal

pub returns : goal.returns
returns c =
    subst (DecodesInto c.args.text.now c.args.octets.now c.decode_slice.new.output) (sym c.ok.ensures.value)
    (decoded c.args.text.now c.as_bytes.result.now c.args.octets.now c.decode_slice.new.output c.decode_slice.result c.as_bytes.ensures.value c.decode_slice.auto.output
    c.decode_slice.ensures.value c.decode_slice.ensures.written)
