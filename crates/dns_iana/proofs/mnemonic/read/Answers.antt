use Rattle.dns_iana.proofs.theory.NumberedLemmas.{spells_mnemonic, spells_numbered}
use Rattle.dns_iana.proofs.mnemonic.read.Goals as goal

pub returns-in-Some : goal.returns-in-Some
returns-in-Some c = spells_mnemonic _ _ _ _ c.requires.apart (rw c.in-Some.is at c.named.ensures)

pub returns : goal.returns
returns c = spells_numbered _ _ _ _ (rw c.in_default.is at c.named.ensures) c.numbered.ensures
