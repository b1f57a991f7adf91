use Rattle.std.proofs.Common.{ap, ◌∙◌}
use Rattle.fields_lists.specs.Prefixes.{is_trimmed}
use Rattle.fields_lists.proofs.theory.PrefixLemmas.{trimmed_end}
use Rattle.fields_lists.proofs.prefix_words.+trimmed.Goals as goal

pub returns-then-last-ne0-clause-trimmed : goal.returns-then-last-ne0-clause-trimmed
returns-then-last-ne0-clause-trimmed t c =
    ap is_trimmed c.in-Some.ensures.cases.0 ∙ trimmed_end c.in-Some.before.now c.in-Some.last.now c.if-last-ne0.true
