use Rattle.std.proofs.Common.{arith}
use Rattle.fields_text.specs.Base32Words.{IsBase32}
use Rattle.fields_text.specs.Reading.{HasValue}
use Rattle.fields_text.proofs.theory.Base32Lemmas.{appends_more}
use Rattle.fields_text.proofs.theory.WordLists.{why}
use Rattle.fields_text.proofs.base32_words.+push_digits.Goals as goal

pub returns-in-Ok : goal.returns-in-Ok
returns-in-Ok t c =
    let front = c.split_at.ensures.front in
    let back = c.split_at.ensures.back in
    appends_more c.args.digits.now c.args.octets.now.items c.push_group-2.new.octets.items c.push_digits.new.octets.items c.in-Ok.field-0 c.push_digits.result (omega (arith, c.if-digits-le8.false))
    (rw front at c.in-Ok.ensures) (rw back at c.push_digits.ensures)

pub returns-in-Err : goal.returns-in-Err
returns-in-Err t c =
    why (HasValue (IsBase32 c.args.digits.now)) (IsBase32 c.args.digits.now) c.is_base32.result c.failure.result c.failure.ensures c.is_base32.ensures.0 c.is_base32.ensures.1
