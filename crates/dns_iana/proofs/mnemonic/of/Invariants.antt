use Rattle.std.proofs.Common.{◌≡◌, ◌==◌, find, drop}
use Rattle.dns_iana.proofs.mnemonic.of.Given as goal

abbrev pub invariant-loop-known : goal.invariant-loop-known
invariant-loop-known l = find (λ entry. entry.0 == l.number) (drop l.known-index l.entries) ≡ find (λ entry. entry.0 == l.number) l.entries
