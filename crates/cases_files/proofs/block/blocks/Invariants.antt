use Rattle.std.proofs.Common.{◌++◌}
use Rattle.std.specs.Str.Lines.{lines}
use Rattle.cases_files.specs.Block.{all_lines}
use Rattle.cases_files.specs.Line.{texts}
use Rattle.cases_files.proofs.ReadLines.{HasRead}
use Rattle.cases_files.proofs.block.blocks.Given as goal

abbrev pub invariant-loop-line : goal.invariant-loop-line
invariant-loop-line l = HasRead (lines l.text) (all_lines l.ended.items ++ texts l.block.items) l.line-iterator
