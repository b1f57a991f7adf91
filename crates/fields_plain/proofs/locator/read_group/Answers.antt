use Rattle.std.proofs.Common.{◌≢◌, get_or, arith}
use Rattle.std.proofs.lemmas.Str.Pattern.{starts_char}
use Rattle.fields_plain.proofs.theory.LocatorLemmas.{group_read}
use Rattle.fields_plain.proofs.locator.read_group.Goals as goal

pub returns : goal.returns
returns c =
    let plus = starts_char 43 c.args.word.now c.starts_with.result c.starts_with.ensures.cases (omega arith) (omega arith) in
    let other : get_or c.args.word.now 0 0 ≢ 43 = λ e. let yes = plus.1 e in let no = c.if-starts_with.false in cc in
    rw c.ok.ensures.value (group_read c.args.word.now c.from_str_radix.result (omega arith) other c.from_str_radix.ensures.value)
