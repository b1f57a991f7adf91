use Rattle.std.proofs.Common.{◌≡◌, drop, false}
use Rattle.fields_lines.specs.NameWords.{ends_with_dot}
use Rattle.fields_lines.proofs.name_word.ends_with_dot.Given as goal

-- the octets that are left decide
abbrev pub invariant-loop-octet : goal.invariant-loop-octet
invariant-loop-octet l = ends_with_dot l.separated l.escaped (drop l.octet-index l.word) ≡ ends_with_dot false false l.word
