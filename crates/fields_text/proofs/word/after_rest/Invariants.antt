use Rattle.std.proofs.Common.{◌≡◌, length, false}
use Rattle.fields_text.proofs.theory.WordLemmas.{rest_after}
use Rattle.fields_text.proofs.word.after_rest.Given as goal

abbrev pub invariant-characters : goal.invariant-characters
invariant-characters l = rest_after l.quoted l.escaped l.left ≡ rest_after false false l.fn.text

abbrev pub decreases-characters : goal.decreases-characters
decreases-characters l = length l.left
