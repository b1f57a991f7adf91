use Rattle.std.proofs.Common.{◌≡◌, take}
use Rattle.fields_text.specs.LineWords.{texts}
use Rattle.fields_lines.specs.Completing.{texts_of}
use Rattle.fields_lines.proofs.line.texts_of.Given as goal

abbrev pub invariant-loop-word : goal.invariant-loop-word
invariant-loop-word l = texts l.words.items ≡ texts_of (take l.word-index l.completed)
