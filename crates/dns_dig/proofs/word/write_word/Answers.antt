use Rattle.std.proofs.Common.{ℕ, List, sym, subst}
use Rattle.std.specs.Fmt.{WritesInCalls}
use Rattle.dns_dig.proofs.WordTexts.{word_there, word_missing}
use Rattle.dns_dig.proofs.word.write_word.Goals as goal

pub returns-in-Some-clause-text : goal.returns-in-Some-clause-text
returns-in-Some-clause-text g c = λ ok.
    let found = rw c.in-Some.is at c.entry_of.ensures in
    subst (λ (t : List ℕ). WritesInCalls g.T.TextWriter.takes c.args.writer.now t c.write_text.new.self)
    (sym (word_there c.args.entries.now c.args.number c.in-Some.entry.now (sym found) c.args.other.now)) (c.write_text.ensures.text ok)

pub returns-in-None-clause-text : goal.returns-in-None-clause-text
returns-in-None-clause-text g c = λ ok.
    let found = rw c.in-None.is at c.entry_of.ensures in
    subst (λ (t : List ℕ). WritesInCalls g.T.TextWriter.takes c.args.writer.now t c.write_numbered.new.writer)
    (sym (word_missing c.args.entries.now c.args.number (sym found) c.args.other.now)) (c.write_numbered.ensures.text ok)
