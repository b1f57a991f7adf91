use Rattle.std.proofs.Common.{◌∙◌, ◌+◌, Bool, drop, get_or, ap, sym}
use Rattle.std.proofs.lemmas.List.{at_drop_all, at_drop_more}
use Rattle.fields_lines.specs.NameWords.{ends_with_dot, is_separator}
use Rattle.fields_lines.proofs.name_word.ends_with_dot.Goals as goal

pub loop-octet-preserved : goal.loop-octet-preserved
loop-octet-preserved c =
    let i = c.loop-octet.octet-index in
    let word = c.args.word.now in
    let escaped = c.loop-octet.escaped in
    let octet = get_or word i 0 in
    let rest = drop (i + 1) word in
    ap (λ (s : Bool). ends_with_dot s c.is_escape-escaped.result rest) c.is_separator-separated.ensures
    ∙ ap (λ (e : Bool). ends_with_dot (is_separator escaped octet) e rest) c.is_escape-escaped.ensures
    ∙ sym (at_drop_more (ends_with_dot c.loop-octet.separated escaped) word i 0 c.loop-octet-test.true)
    ∙ c.loop-octet.invariant

pub returns : goal.returns
returns c = sym (at_drop_all (ends_with_dot c.loop-octet.separated c.loop-octet.escaped) c.args.word.now c.loop-octet.octet-index c.loop-octet-test.false) ∙ c.loop-octet.invariant
