use Rattle.dns_iana.specs.RegisteredTexts.{SpellsRegisteredType}
use Rattle.dns_iana.specs.Registry.{registered_types}
use Rattle.dns_iana.proofs.TextLemmas.{none_read, number_read}
use Rattle.dns_iana.proofs.rtype.Rtype.from_registered_name.Goals as goal

pub returns-in_err-number : goal.returns-in_err-number
unfolding registered_types
returns-in_err-number c = none_read (SpellsRegisteredType c.args.text.now) _ c.read.ensures c.in_err-number.was _ c.from_residual.ensures

pub returns : goal.returns
unfolding registered_types
returns c = number_read (SpellsRegisteredType c.args.text.now) _ c.read.ensures _ c.in_ok-number.was
