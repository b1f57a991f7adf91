use Rattle.std.proofs.Common.{◌≡◌, length, false}
use Rattle.fields_text.proofs.theory.WordLemmas.{string_after}
use Rattle.fields_text.proofs.word.after_string.Given as goal

abbrev pub invariant-characters : goal.invariant-characters
invariant-characters l = string_after l.escaped l.left ≡ string_after false l.fn.text

abbrev pub decreases-characters : goal.decreases-characters
decreases-characters l = length l.left
