use Rattle.std.proofs.Common.{ℕ, List, Bor}
use Rattle.std.specs.List.{AllWithin}
use Rattle.fields_forms.specs.LocationWords.{IsEither}
use Rattle.fields_forms.proofs.location_words.direction_index.Given as goal

abbrev pub invariant-loop-index : goal.invariant-loop-index
invariant-loop-index l = AllWithin (λ (word : Bor (List ℕ)). ¬ (IsEither l.positive l.negative word.now)) l.words 0 l.index
