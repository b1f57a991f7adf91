use Rattle.std.proofs.Common.{true, take}
use Rattle.std.specs.Option.{option_to_list}
use Rattle.fields_text.specs.HexCharacters.{TakesDigits}
use Rattle.fields_text.specs.JoinedWords.{joined}
use Rattle.fields_text.proofs.hex_words.push_hex_words.Given as goal

-- the words so far are taken
abbrev pub invariant-loop-word : goal.invariant-loop-word
invariant-loop-word g l = TakesDigits (joined (take l.word-index l.words)) (option_to_list l.first) g.row.N l.fn.octets.items l.octets.items true
