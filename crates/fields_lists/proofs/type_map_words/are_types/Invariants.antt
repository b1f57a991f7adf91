use Rattle.std.proofs.Common.{◌↔◌, drop}
use Rattle.fields_lists.specs.TypeMapWords.{AreTypes}
use Rattle.fields_lists.proofs.type_map_words.are_types.Given as goal

abbrev pub invariant-loop-word : goal.invariant-loop-word
invariant-loop-word l = AreTypes l.words ↔ AreTypes (drop l.word-index l.words)
