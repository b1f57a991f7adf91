use Rattle.std.proofs.Common.{◌≡◌, true, take}
use Rattle.std.specs.Char.{is_ascii_digit}
use Rattle.std.specs.List.{list_all}
use Rattle.fields_lines.proofs.word.are_digits.Given as goal

abbrev pub invariant-loop-octet : goal.invariant-loop-octet
invariant-loop-octet l = list_all is_ascii_digit (take l.octet-index l.word) ≡ true
