use Rattle.dns_iana.specs.RegisteredTexts.{SpellsOption}
use Rattle.dns_iana.specs.Registry.{registered_options}
use Rattle.dns_iana.proofs.TextLemmas.{none_read, number_read}
use Rattle.dns_iana.proofs.option_code.OptionCode.from_registered_name.Goals as goal

pub returns-in_err-number : goal.returns-in_err-number
unfolding registered_options
returns-in_err-number c = none_read (SpellsOption c.args.text.now) _ c.read.ensures c.in_err-number.was _ c.from_residual.ensures

pub returns : goal.returns
unfolding registered_options
returns c = number_read (SpellsOption c.args.text.now) _ c.read.ensures _ c.in_ok-number.was
