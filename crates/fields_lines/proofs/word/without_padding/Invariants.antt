use Rattle.std.proofs.Common.{◌≡◌, length}
use Rattle.fields_lines.specs.WordTexts.{without_padding}
use Rattle.fields_lines.proofs.word.without_padding.Given as goal
use denote.Shadow.{shadow}
use denote.Text.{Utf8}

abbrev pub invariant-padding : goal.invariant-padding
invariant-padding l = record {
  utf8 : shadow (Utf8 l.left);
  same : without_padding l.left ≡ without_padding l.fn.word;
}

abbrev pub decreases-padding : goal.decreases-padding
decreases-padding l = length l.left
