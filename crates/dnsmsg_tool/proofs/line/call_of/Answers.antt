use Rattle.std.proofs.Common.{◌∙◌, ap}
use Rattle.dns_name.specs.NameReading.{name_labels}
use Rattle.dnsmsg_tool.specs.ScriptWords.{texts, words_of}
use Rattle.dnsmsg_tool.proofs.CallLemmas.{line_result, not_both, utf8_without_tabs}
use Rattle.dnsmsg_tool.proofs.line.call_of.Goals as goal

pub returns-then-not-is_ascii-clause-reads : goal.returns-then-not-is_ascii-clause-reads
returns-then-not-is_ascii-clause-reads g c = λ s is ascii. absurd (not_both c.is_ascii.result c.args.line.now c.is_ascii.ensures.cases c.if-not-is_ascii.true ascii)

pub returns-in-Ok-clause-reads : goal.returns-in-Ok-clause-reads
returns-in-Ok-clause-reads g c = λ s is ascii.
    line_result name_labels s.stage s.header c.args.line.now c.deref-in-Ok.result.now c.call_of_words.result
    (ap texts c.deref-in-Ok.ensures.value ∙ c.in_ok-words-in-Ok.ensures ∙ ap words_of (c.in-Ok.ensures.cases.0 ∙ c.deref.ensures.value ∙ c.in_ok-spaced.ensures))
    (c.call_of_words.ensures s is)

pub returns-clause-reads : goal.returns-clause-reads
returns-clause-reads g c = λ s is ascii.
    absurd (c.in-Err.ensures.cases.0 (utf8_without_tabs c.args.line.now c.deref.result.now (c.deref.ensures.value ∙ c.in_ok-spaced.ensures) ascii))
