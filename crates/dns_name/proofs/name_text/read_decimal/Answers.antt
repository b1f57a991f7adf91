use Rattle.std.proofs.Common.{arith, sym}
use Rattle.dns_name.proofs.OctetTexts.{bad_decimal, decimal_first, fails}
use Rattle.dns_name.proofs.name_text.read_decimal.Goals as goal
use Rattle.dns_name.proofs.name_text.read_decimal.Goals.{then-not-is_ascii_digit-via-then-not-is_ascii_digit, then-not-is_ascii_digit-via-else-not-is_ascii_digit+then-not-is_ascii_digit-2}

pub returns-in_default : goal.returns-in_default
returns-in_default c = bad_decimal c.args.hundreds c.args.text.now c.requires (λ long x y z. omega (arith, long, c.in_default.len_below))

pub returns-then-not-is_ascii_digit : goal.returns-then-not-is_ascii_digit
returns-then-not-is_ascii_digit c =
    bad_decimal c.args.hundreds c.args.text.now c.requires (λ long x y z.
    elim c.then-not-is_ascii_digit.branch [
      | then-not-is_ascii_digit-via-then-not-is_ascii_digit w ↦ fails _ w.if-not-is_ascii_digit.ensures.value x
      | then-not-is_ascii_digit-via-else-not-is_ascii_digit+then-not-is_ascii_digit-2 w ↦ fails _ w.if-not-is_ascii_digit-2.ensures.value y
    ])

pub returns-then-value-gt255 : goal.returns-then-value-gt255
returns-then-value-gt255 c = bad_decimal c.args.hundreds c.args.text.now c.requires (λ long x y z. omega (arith, z, c.from.ensures, c.from-2.ensures, c.from-3.ensures, c.if-value-gt255.true))

pub returns : goal.returns
returns c =
    decimal_first _ _ _ c.requires (omega (arith, c.in-len2-up.len_at_least))
    (sym c.if-not-is_ascii_digit.ensures.value)
    (sym c.if-not-is_ascii_digit-2.ensures.value)
    (omega (arith, c.from.ensures, c.from-2.ensures, c.from-3.ensures))
    (omega (arith, c.if-value-gt255.false))
