use Rattle.std.proofs.Common.{◌≡◌, drop}
use Rattle.std.specs.Option.{option_copied}
use Rattle.fields_text.specs.LineWords.{texts}
use Rattle.fields_lines.specs.Completing.{completed_own, texts_of}
use Rattle.fields_lines.proofs.field_words.complete_own.Given as goal

-- the words that are left decide
abbrev pub invariant-loop-index : goal.invariant-loop-index
invariant-loop-index l =
    completed_own (option_copied l.fn.origin) l.at l.way (texts l.own) l.index (texts_of l.completed.items) (texts (drop l.index l.own))
    ≡ completed_own (option_copied l.fn.origin) l.at l.way (texts l.own) 0 (texts_of l.fn.completed.items) (texts l.own)
