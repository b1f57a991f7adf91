use Rattle.std.proofs.Common.{◌≡◌, find, drop}
use Rattle.std.specs.Str.{str_eq_ignore_ascii_case}
use Rattle.fields_lines.proofs.mnemonics.number_of.Given as goal

-- no earlier entry has the name
abbrev pub invariant-loop-number : goal.invariant-loop-number
invariant-loop-number l = find (λ entry. str_eq_ignore_ascii_case entry.1.now l.name) (drop l.number-index l.entries) ≡ find (λ entry. str_eq_ignore_ascii_case entry.1.now l.name) l.entries
