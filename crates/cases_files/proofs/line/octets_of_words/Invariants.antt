use Rattle.std.proofs.Common.{take}
use Rattle.cases_files.specs.Line.{texts, AreOctetWords}
use Rattle.cases_files.proofs.line.octets_of_words.Given as goal

abbrev pub invariant-loop-word : goal.invariant-loop-word
invariant-loop-word l = AreOctetWords (texts (take l.word-index l.words)) l.octets.items
