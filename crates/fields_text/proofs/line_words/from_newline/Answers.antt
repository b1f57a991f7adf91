use Rattle.std.proofs.Common.{◌∙◌, arith, sym}
use Rattle.std.specs.Prelude.{None, Some}
use Rattle.std.proofs.lemmas.Str.Pattern.{find_char}
use Rattle.fields_text.proofs.theory.LineLemmas.{newline_at, no_newline}
use Rattle.fields_text.proofs.line_words.from_newline.Goals as goal

pub returns-in-Some : goal.returns-in-Some
returns-in-Some c =
    let parts = find_char 10 c.args.text.now (Some c.in-Some.start) c.in-Some.ensures.cases (omega arith) in
    c.split_at.ensures.back ∙ sym (newline_at c.args.text.now c.in-Some.start parts.0 parts.1 parts.2)

pub returns-in-None : goal.returns-in-None
returns-in-None c = sym (no_newline c.args.text.now (find_char 10 c.args.text.now None c.in-None.ensures.cases (omega arith)))
