use Rattle.std.proofs.Common.{◌≡◌, ◌∙◌, ℕ, List, subst}
use Rattle.std.proofs.lemmas.Str.{IsUtf8-from_ascii}
use Rattle.std.specs.Fmt.{WritesInCalls}
use Rattle.base64.specs.Engines.{standard}
use Rattle.base64.specs.GeneralPurpose.{encode_of}
use Rattle.base64.proofs.EngineFacts.{IsAscii-encode_of, encoded_prefix}
use Rattle.fields_text.proofs.base64_text.write_piece.Goals as goal

pub unreachable-requires-in_default-from_utf8 : goal.unreachable-requires-in_default-from_utf8
unreachable-requires-in_default-from_utf8 g c =
    let octets = c.args.octets.now in
    let text = encoded_prefix (encode_of standard octets) _ c.encode_slice.new.output _ c.in-Ok.size c.encode_slice.result _
    c.encode_slice.auto.output c.encode_slice.ensures.fits c.encode_slice.ensures.too_small c.in-Ok.is c.in-Ok.ensures.written in
    c.in_default-from_utf8.ensures.cases.0 (rw text (IsUtf8-from_ascii (encode_of standard octets) (IsAscii-encode_of standard octets)))

pub returns-clause-text : goal.returns-clause-text
returns-clause-text g c = λ ok.
    let octets = c.args.octets.now in
    let text = encoded_prefix (encode_of standard octets) _ c.encode_slice.new.output _ c.in-Ok.size c.encode_slice.result _
    c.encode_slice.auto.output c.encode_slice.ensures.fits c.encode_slice.ensures.too_small c.in-Ok.is c.in-Ok.ensures.written in
    let shown : c.in-Ok-from_utf8.text.now ≡ encode_of standard octets = c.in-Ok-from_utf8.ensures.cases.0 ∙ text in
    subst (λ (t : List ℕ). WritesInCalls g.W.TextWriter.takes c.args.f.now t c.write_text.new.self) shown (c.write_text.ensures.text ok)
