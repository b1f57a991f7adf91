use Rattle.std.proofs.Common.{◌≢◌, get_or, arith, None, Some}
use Rattle.std.specs.Prelude.{codes}
use Rattle.std.proofs.lemmas.Str.Pattern.{starts_char}
use Rattle.fields_parameters.proofs.KeyLemmas.{leading_zero, other_text, plain_number, same_text, zero_number}
use Rattle.fields_parameters.proofs.parameter_key.plain_number.Goals as goal

pub returns-then-eq : goal.returns-then-eq
returns-then-eq c = zero_number c.args.digits.now (same_text c.args.digits.now (codes "0") c.eq.result c.eq.ensures c.if-eq.true)

pub returns-then-starts_with : goal.returns-then-starts_with
returns-then-starts_with c =
    let zero = starts_char 48 c.args.digits.now c.starts_with.result c.starts_with.ensures.cases (omega arith) (omega arith) in
    leading_zero c.args.digits.now (other_text c.args.digits.now (codes "0") c.eq.result c.eq.ensures c.if-eq.false) (zero.0 c.if-starts_with.true)

pub returns-in_default : goal.returns-in_default
returns-in_default c =
    let zero = starts_char 48 c.args.digits.now c.starts_with.result c.starts_with.ensures.cases (omega arith) (omega arith) in
    let other : get_or c.args.digits.now 0 0 ≢ 48 = λ e. let yes = zero.1 e in let no = c.if-starts_with.false in cc in
    plain_number c.args.digits.now None other c.in_default.ensures

pub returns : goal.returns
returns c =
    let zero = starts_char 48 c.args.digits.now c.starts_with.result c.starts_with.ensures.cases (omega arith) (omega arith) in
    let other : get_or c.args.digits.now 0 0 ≢ 48 = λ e. let yes = zero.1 e in let no = c.if-starts_with.false in cc in
    plain_number c.args.digits.now (Some c.in-Some.number) other c.in-Some.ensures
