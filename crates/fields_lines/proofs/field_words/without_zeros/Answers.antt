use Rattle.std.proofs.Common.{◌∙◌, refl, arith, rules}
use Rattle.std.specs.Prelude.{None, Some}
use Rattle.std.proofs.lemmas.Str.Pattern.{strip_prefix_char}
use Rattle.fields_lines.proofs.WordLemmas.{zero_step, zeros_end}
use Rattle.fields_lines.proofs.field_words.without_zeros.Goals as goal

pub zeros-init : goal.zeros-init
zeros-init c = record { utf8 = search rules; same = refl }

pub zeros-preserved : goal.zeros-preserved
zeros-preserved c =
    let first = strip_prefix_char 48 c.zeros.left.now (Some c.in-Some.after) c.in-Some.ensures.cases (omega arith) in
    record { utf8 = search rules; same = zero_step c.zeros.left.now c.in-Some.after.now first ∙ c.zeros.invariant.same }

pub returns : goal.returns
returns c = zeros_end c.zeros.left.now (strip_prefix_char 48 c.zeros.left.now None c.in_default.ensures.cases (omega arith)) ∙ c.zeros.invariant.same
