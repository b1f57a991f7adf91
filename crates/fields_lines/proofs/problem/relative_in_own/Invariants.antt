use Rattle.std.proofs.Common.{◌≡◌, drop}
use Rattle.fields_text.specs.LineWords.{texts}
use Rattle.fields_lines.specs.Completing.{completed_own}
use Rattle.fields_lines.specs.FieldWays.{Texts}
use Rattle.fields_lines.specs.Lines.{text_of_name}
use Rattle.fields_lines.proofs.problem.relative_in_own.Given as goal

-- each word so far can be completed, and the words that are left decide
abbrev pub invariant-loop-index : goal.invariant-loop-index
invariant-loop-index l =
    (done : Texts)
    → (more : Texts) × (completed_own (text_of_name l.fn.origin) l.at l.way (texts l.own) 0 done (texts l.own)
    ≡ completed_own (text_of_name l.fn.origin) l.at l.way (texts l.own) l.index more (texts (drop l.index l.own)))
