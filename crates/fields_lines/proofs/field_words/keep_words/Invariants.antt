use Rattle.std.proofs.Common.{◌≡◌, ◌++◌, take}
use Rattle.fields_text.specs.LineWords.{texts}
use Rattle.fields_lines.specs.Completing.{texts_of}
use Rattle.fields_lines.proofs.field_words.keep_words.Given as goal

abbrev pub invariant-loop-word : goal.invariant-loop-word
invariant-loop-word l = texts_of l.completed.items ≡ texts_of l.fn.completed.items ++ texts (take l.word-index l.words)
