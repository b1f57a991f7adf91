use Rattle.dns_iana.specs.Mnemonics.{class_mnemonics}
use Rattle.dns_iana.specs.Classes.{SpellsClass}
use Rattle.dns_iana.proofs.TextLemmas.{reads_ok, reads_err}
use Rattle.dns_iana.proofs.class.ClassFromStr.from_str.Goals as goal

pub returns-in_err-number : goal.returns-in_err-number
unfolding class_mnemonics
returns-in_err-number c = reads_err (SpellsClass c.args.text.now) _ _ _ _ _ c.read.ensures c.ok_or.ensures.value c.in_err-number.was c.from_residual.ensures.0

pub returns : goal.returns
unfolding class_mnemonics
returns c = reads_ok (SpellsClass c.args.text.now) _ _ _ _ c.read.ensures c.ok_or.ensures.value c.in_ok-number.was
