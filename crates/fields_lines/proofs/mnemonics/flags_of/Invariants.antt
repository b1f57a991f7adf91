use Rattle.std.proofs.Common.{◌≡◌, length}
use Rattle.fields_lines.specs.Mnemonics.{flags_after, flags_of, parts_of}
use Rattle.fields_lines.proofs.mnemonics.flags_of.Given as goal
use denote.Shadow.{shadow}
use denote.Text.{Utf8}

-- the names that are left decide
abbrev pub invariant-flags : goal.invariant-flags
invariant-flags l = record {
  utf8 : shadow (Utf8 l.left);
  same : flags_after l.flags (parts_of l.left) ≡ flags_of l.fn.text;
}

abbrev pub decreases-flags : goal.decreases-flags
decreases-flags l = length l.left
