use Rattle.std.proofs.Common.{arith}
use Rattle.fields_text.specs.Base32Words.{last_octets}
use Rattle.fields_text.proofs.theory.Base32Lemmas.{both_tested, empty_tested, group_tested, none_tested}
use Rattle.fields_text.proofs.base32_words.+is_base32.Goals as goal

pub returns-then-is_empty : goal.returns-then-is_empty
returns-then-is_empty t c = empty_tested c.args.digits.now c.is_empty.result c.is_empty.ensures c.if-is_empty.true

pub returns-then-digits-le8 : goal.returns-then-digits-le8
returns-then-digits-le8 t c = group_tested c.args.digits.now c.read_group.result c.is_some.result c.is_some.ensures c.read_group.ensures

pub returns-in-Some : goal.returns-in-Some
returns-in-Some t c =
    let front = c.split_at.ensures.front in
    let back = c.split_at.ensures.back in
    both_tested c.args.digits.now c.is_base32.result (omega (arith, c.if-digits-le8.false))
    (last_octets c.in-Some.field-0.0 c.in-Some.field-0.1, rw front at c.in-Some.ensures) (rw back at c.is_base32.ensures)

pub returns-in-None : goal.returns-in-None
returns-in-None t c =
    let front = c.split_at.ensures.front in
    none_tested c.args.digits.now (omega (arith, c.if-digits-le8.false)) (rw front at c.in-None.ensures)
