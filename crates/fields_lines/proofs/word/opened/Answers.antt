use Rattle.std.proofs.Common.{arith}
use Rattle.std.specs.Prelude.{None, Some}
use Rattle.std.proofs.lemmas.Str.Pattern.{strip_prefix_char, strip_suffix_char}
use Rattle.fields_lines.proofs.WordLemmas.{in_quotes, no_first_quote, no_last_quote}
use Rattle.fields_lines.proofs.word.opened.Goals as goal

pub returns-in_default : goal.returns-in_default
returns-in_default c = no_first_quote c.args.word.now (strip_prefix_char 34 c.args.word.now None c.in_default.ensures.cases (omega arith))

pub returns-in-Some-strip_suffix : goal.returns-in-Some-strip_suffix
returns-in-Some-strip_suffix c =
    let first = strip_prefix_char 34 c.args.word.now (Some c.in-Some.after) c.in-Some.ensures.cases (omega arith) in
    let last = strip_suffix_char 34 c.in-Some.after.now (Some c.in-Some-strip_suffix.text) c.in-Some-strip_suffix.ensures.cases (omega arith) in
    in_quotes c.args.word.now c.in-Some.after.now c.in-Some-strip_suffix.text.now first last

pub returns-in-None : goal.returns-in-None
returns-in-None c =
    let first = strip_prefix_char 34 c.args.word.now (Some c.in-Some.after) c.in-Some.ensures.cases (omega arith) in
    no_last_quote c.args.word.now c.in-Some.after.now first (strip_suffix_char 34 c.in-Some.after.now None c.in-None.ensures.cases (omega arith))
