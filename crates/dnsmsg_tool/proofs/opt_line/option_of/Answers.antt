use Rattle.std.proofs.Common.{sym, subst, arith}
use Rattle.std.specs.Prelude.{Some}
use Rattle.std.proofs.lemmas.Str.Pattern.{split_once_first}
use Rattle.dnsmsg_tool.specs.ScriptWords.{IsNumberUpTo}
use Rattle.dnsmsg_tool.proofs.opt_line.option_of.Goals as goal

pub returns-in_default-number : goal.returns-in_default-number
returns-in_default-number c = λ x is.
    let parts = split_once_first 58 c.args.word.now (Some (c.in-Some.code, c.in-Some.digits)) c.in-Some.ensures.cases (omega arith) in
    c.in_default-number.ensures x.code (subst (λ t. IsNumberUpTo 65535 t x.code) (sym parts.1) is.code)
