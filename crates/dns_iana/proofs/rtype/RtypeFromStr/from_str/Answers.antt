use Rattle.dns_iana.specs.Mnemonics.{type_mnemonics}
use Rattle.dns_iana.specs.Types.{SpellsType}
use Rattle.dns_iana.proofs.TextLemmas.{reads_ok, reads_err}
use Rattle.dns_iana.proofs.rtype.RtypeFromStr.from_str.Goals as goal

pub returns-in_err-number : goal.returns-in_err-number
unfolding type_mnemonics
returns-in_err-number c = reads_err (SpellsType c.args.text.now) _ _ _ _ _ c.read.ensures c.ok_or.ensures.value c.in_err-number.was c.from_residual.ensures.0

pub returns : goal.returns
unfolding type_mnemonics
returns c = reads_ok (SpellsType c.args.text.now) _ _ _ _ c.read.ensures c.ok_or.ensures.value c.in_ok-number.was
