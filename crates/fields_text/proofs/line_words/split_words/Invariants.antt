use Rattle.std.proofs.Common.{◌+◌, ◌<◌, ◌^◌, length}
use Rattle.fields_text.specs.LineWords.{texts}
use Rattle.fields_text.proofs.theory.LineLemmas.{AreRead}
use Rattle.fields_text.proofs.line_words.split_words.Given as goal

abbrev pub invariant-words : goal.invariant-words
invariant-words l = record {
  read : AreRead l.fn.line (texts l.words.items) l.left;
  fits : l.left.depth + length l.left.text.now < 2 ^ 64;
}

abbrev pub decreases-words : goal.decreases-words
decreases-words l = length l.left.text.now
