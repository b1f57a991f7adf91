use Rattle.std.proofs.Common.{◌≡◌, drop}
use Rattle.fields_plain.specs.NameWords.{is_unquoted}
use Rattle.fields_plain.proofs.name.is_unquoted.Given as goal

-- the octets that are left decide
abbrev pub invariant-loop-octet : goal.invariant-loop-octet
invariant-loop-octet l = is_unquoted l.fn.escaped l.word ≡ is_unquoted l.escaped (drop l.octet-index l.word)
