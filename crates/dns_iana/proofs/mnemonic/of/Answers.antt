use Rattle.dns_iana.proofs.TableLemmas.{number_here, number_nowhere}
use Rattle.dns_iana.proofs.mnemonic.of.Goals as goal

pub returns-then-known-number : goal.returns-then-known-number
returns-then-known-number c = number_here _ _ _ _ c.loop-known.invariant c.loop-known-test.true c.if-known-number.true

pub returns : goal.returns
returns c = number_nowhere _ _ _ c.loop-known.invariant c.loop-known-test.false
