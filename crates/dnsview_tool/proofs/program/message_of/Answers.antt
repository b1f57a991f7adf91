use Rattle.std.proofs.Common.{◌∙◌, ap, sym, inl, inr}
use Rattle.hex.specs.Hex.{decode_of}
use Rattle.dns_lines.specs.Digits.{unspaced}
use Rattle.dnsview_tool.specs.Viewing.{is_digits}
use Rattle.dnsview_tool.proofs.Viewed.{odd_digits}
use Rattle.dnsview_tool.proofs.program.message_of.Goals as goal

pub returns-in-Err-OddLength : goal.returns-in-Err-OddLength
returns-in-Err-OddLength c =
    let digits = ap is_digits (sym c.deref.ensures.value) ∙ sym c.is_digits.ensures ∙ c.if-not-is_digits.false in
    let left = c.in_ok-digits.ensures ∙ ap unspaced c.deref-2.ensures.value in
    elim c.in-Err-OddLength.ensures.err [
      | inl memory ↦ let clash = sym memory ∙ c.in-Err-OddLength.field-0-is in absurd (cc clash)
      | inr faulty ↦ odd_digits c.args.input.items _ digits (ap decode_of (sym left) ∙ faulty)
    ]
