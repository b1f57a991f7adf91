use Rattle.std.specs.Prelude.{codes}
use Rattle.dns_iana.specs.NumberTexts.{Spells}
use Rattle.dns_iana.specs.Registry.{registered_rcodes}
use Rattle.dns_iana.proofs.TextLemmas.{read_below, read_above, none_below}
use Rattle.dns_iana.proofs.rcode.Rcode.from_registered_name.Goals as goal

pub returns-in_err-rcode : goal.returns-in_err-rcode
unfolding registered_rcodes
returns-in_err-rcode c =
    none_below (Spells registered_rcodes (codes "RCODE") c.args.text.now) _ c.read.ensures 16 c.in_err-rcode.was _ c.from_residual.ensures

pub returns-then-rcode-lt16 : goal.returns-then-rcode-lt16
unfolding registered_rcodes
returns-then-rcode-lt16 c =
    read_below (Spells registered_rcodes (codes "RCODE") c.args.text.now) _ c.read.ensures 16 _ c.in_ok-rcode.was c.if-rcode-lt16.true

pub returns-else-rcode-lt16 : goal.returns-else-rcode-lt16
unfolding registered_rcodes
returns-else-rcode-lt16 c =
    read_above (Spells registered_rcodes (codes "RCODE") c.args.text.now) _ c.read.ensures 16 _ c.in_ok-rcode.was c.if-rcode-lt16.false
