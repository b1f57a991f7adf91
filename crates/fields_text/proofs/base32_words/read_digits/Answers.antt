use Rattle.std.proofs.Common.{ℕ, ◌^◌, ◌≤◌, arith, sym}
use Rattle.std.proofs.Math.Nat.{pow-le-pow_right}
use Rattle.fields_text.proofs.theory.Base32Lemmas.{digits_none, no_digit, small_more, text_more}
use Rattle.fields_text.proofs.base32_words.read_digits.Goals as goal

pub loop-digit-init : goal.loop-digit-init
loop-digit-init c = record { small = omega arith; text = sym digits_none }

pub returns-in_default : goal.returns-in_default
returns-in_default c = λ n. no_digit c.args.digits.now c.loop-digit.digit-index n c.loop-digit-test.true c.in_default.ensures

-- at most seven digits are a number below 32 to the seventh power
small : (k : ℕ) → k ≤ 7 → 32 ^ k ≤ 32 ^ 7
small k h = pow-le-pow_right (omega arith) h

pub overflow_add-number : goal.overflow_add-number
overflow_add-number c = let p = small c.loop-digit.digit-index (omega arith) in omega (arith, p, c.in-Some.ensures.0)

pub loop-digit-preserved : goal.loop-digit-preserved
loop-digit-preserved c = record {
  small = small_more c.args.digits.now c.loop-digit.digit-index c.loop-digit.number c.in-Some.value c.loop-digit-test.true c.loop-digit.invariant.small c.in-Some.ensures.0;
  text = text_more c.args.digits.now c.loop-digit.digit-index c.loop-digit.number c.in-Some.value c.loop-digit-test.true c.loop-digit.invariant.small
      c.in-Some.ensures.0 c.loop-digit.invariant.text c.in-Some.ensures.1;
}
