use Rattle.std.proofs.Common.{◌∙◌, refl, arith, rules}
use Rattle.std.specs.Prelude.{None, Some}
use Rattle.std.proofs.lemmas.Str.Pattern.{strip_suffix_char}
use Rattle.fields_lines.proofs.WordLemmas.{padding_end, padding_step}
use Rattle.fields_lines.proofs.word.without_padding.Goals as goal

pub padding-init : goal.padding-init
padding-init c = record { utf8 = search rules; same = refl }

pub padding-preserved : goal.padding-preserved
padding-preserved c =
    let last = strip_suffix_char 61 c.padding.left.now (Some c.in-Some.before) c.in-Some.ensures.cases (omega arith) in
    record { utf8 = search rules; same = padding_step c.padding.left.now c.in-Some.before.now last ∙ c.padding.invariant.same }

pub returns : goal.returns
returns c = padding_end c.padding.left.now (strip_suffix_char 61 c.padding.left.now None c.in_default.ensures.cases (omega arith)) ∙ c.padding.invariant.same
