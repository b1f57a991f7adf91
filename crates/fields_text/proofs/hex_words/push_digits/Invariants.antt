use Rattle.std.proofs.Common.{true, ◌++◌, take}
use Rattle.std.specs.Option.{option_to_list}
use Rattle.fields_text.specs.HexCharacters.{TakesDigits}
use Rattle.fields_text.proofs.hex_words.push_digits.Given as goal

-- the digits so far are taken
abbrev pub invariant-loop-digit : goal.invariant-loop-digit
invariant-loop-digit g l = TakesDigits (option_to_list l.fn.first ++ take l.digit-index l.word) (option_to_list l.first) g.row.N l.fn.octets.items l.octets.items true
