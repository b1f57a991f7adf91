use Rattle.std.proofs.Common.{◌≡◌, find, drop}
use Rattle.std.specs.Str.{str_eq_ignore_ascii_case}
use Rattle.dns_iana.proofs.mnemonic.named.Given as goal

abbrev pub invariant-loop-number : goal.invariant-loop-number
invariant-loop-number l = find (λ entry. str_eq_ignore_ascii_case entry.1.now l.text) (drop l.number-index l.entries) ≡ find (λ entry. str_eq_ignore_ascii_case entry.1.now l.text) l.entries
