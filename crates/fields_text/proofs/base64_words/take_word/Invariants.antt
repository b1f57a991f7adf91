use Rattle.std.proofs.Common.{true, take}
use Rattle.fields_text.specs.Base64Characters.{TakesCharacters}
use Rattle.fields_text.proofs.base64_words.take_word.Given as goal

-- the characters so far are taken
abbrev pub invariant-loop-character : goal.invariant-loop-character
invariant-loop-character l = TakesCharacters (take l.character-index l.word) l.fn.group.items l.group.items true
