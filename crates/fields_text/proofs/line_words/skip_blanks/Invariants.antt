use Rattle.std.proofs.Common.{◌+◌, ◌≤◌, length, List, ℕ}
use Rattle.std.specs.Prelude.{◌↔◌}
use Rattle.fields_text.specs.LineWords.{AreWordsLeft}
use Rattle.fields_text.proofs.line_words.skip_blanks.Given as goal

abbrev pub invariant-blanks : goal.invariant-blanks
invariant-blanks l = record {
  same : (words : List (List ℕ)) → AreWordsLeft l.fn.start words ↔ AreWordsLeft l.left words;
  shorter : length l.left.text.now ≤ length l.fn.start.text.now;
  fits : l.left.depth + length l.left.text.now ≤ l.fn.start.depth + length l.fn.start.text.now;
}

abbrev pub decreases-blanks : goal.decreases-blanks
decreases-blanks l = length l.left.text.now
