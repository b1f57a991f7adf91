use Rattle.std.proofs.Common.{drop}
use Rattle.fields_forms.specs.IdentityWords.{AreNames}
use Rattle.fields_text.proofs.theory.WordLists.{SameValue}
use Rattle.fields_forms.proofs.host_identity_words.are_names.Given as goal

abbrev pub invariant-loop-word : goal.invariant-loop-word
invariant-loop-word l = SameValue (AreNames l.words) (AreNames (drop l.word-index l.words))
