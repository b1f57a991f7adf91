use Rattle.std.proofs.Common.{◌<◌}
use Rattle.fields_text.proofs.HexDigits.{AreDigitsLeft}
use Rattle.fields_text.proofs.hex_words.are_hex.Given as goal

-- the words that are left are digits, and their number is even with those before, exactly if all words are digits of octets
abbrev pub invariant-loop-word : goal.invariant-loop-word
invariant-loop-word l = (l.odd < 2) × AreDigitsLeft l.words l.odd l.word-index
