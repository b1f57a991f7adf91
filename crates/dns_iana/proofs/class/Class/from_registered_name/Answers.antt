use Rattle.dns_iana.specs.RegisteredTexts.{SpellsRegisteredClass}
use Rattle.dns_iana.specs.Registry.{registered_classes}
use Rattle.dns_iana.proofs.TextLemmas.{none_read, number_read}
use Rattle.dns_iana.proofs.class.Class.from_registered_name.Goals as goal

pub returns-in_err-number : goal.returns-in_err-number
unfolding registered_classes
returns-in_err-number c = none_read (SpellsRegisteredClass c.args.text.now) _ c.read.ensures c.in_err-number.was _ c.from_residual.ensures

pub returns : goal.returns
unfolding registered_classes
returns c = number_read (SpellsRegisteredClass c.args.text.now) _ c.read.ensures _ c.in_ok-number.was
