use Rattle.std.proofs.Common.{◌≡◌, ◌++◌, length, false}
use Rattle.std.specs.Prelude.{string_bytes}
use Rattle.fields_lines.specs.NameWords.{spaced}
use Rattle.fields_lines.proofs.name_word.push_spaced.Given as goal
use denote.Shadow.{shadow}
use denote.Text.{Utf8}

-- the text so far and what is left, spaced, are the text at the start and the word, spaced
abbrev pub invariant-escapes : goal.invariant-escapes
invariant-escapes l = record {
  utf8 : shadow (Utf8 l.left);
  same : string_bytes l.text ++ spaced false l.left ≡ string_bytes l.fn.text ++ spaced false l.fn.word;
}

abbrev pub decreases-escapes : goal.decreases-escapes
decreases-escapes l = length l.left
