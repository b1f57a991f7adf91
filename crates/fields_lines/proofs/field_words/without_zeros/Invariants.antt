use Rattle.std.proofs.Common.{◌≡◌, length}
use Rattle.fields_lines.specs.FieldWays.{without_zeros}
use Rattle.fields_lines.proofs.field_words.without_zeros.Given as goal
use denote.Shadow.{shadow}
use denote.Text.{Utf8}

abbrev pub invariant-zeros : goal.invariant-zeros
invariant-zeros l = record {
  utf8 : shadow (Utf8 l.left);
  same : without_zeros l.left ≡ without_zeros l.fn.word;
}

abbrev pub decreases-zeros : goal.decreases-zeros
decreases-zeros l = length l.left
