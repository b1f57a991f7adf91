use Rattle.std.proofs.Common.{sym}
use Rattle.dns_name.proofs.OctetTexts.{no_escape, bad_escape, escaped_first, nil_of}
use Rattle.dns_name.proofs.name_text.read_escaped.Goals as goal

pub returns-in_default : goal.returns-in_default
returns-in_default c = rw (nil_of c.args.text.now (c.in_default.ensures.cases)) no_escape

pub returns-then-is_ascii_digit : goal.returns-then-is_ascii_digit
returns-then-is_ascii_digit c = rw c.in-Some.ensures.cases.0 c.read_decimal.ensures

pub returns-then-not-is_ascii_graphic : goal.returns-then-not-is_ascii_graphic
returns-then-not-is_ascii_graphic c =
    rw c.in-Some.ensures.cases.0 (bad_escape _ _ (sym c.if-not-is_ascii_graphic.ensures.value) (sym c.if-is_ascii_digit.ensures.value))

pub returns : goal.returns
returns c = rw c.in-Some.ensures.cases.0 (escaped_first _ _ (sym c.if-not-is_ascii_graphic.ensures.value) (sym c.if-is_ascii_digit.ensures.value))
