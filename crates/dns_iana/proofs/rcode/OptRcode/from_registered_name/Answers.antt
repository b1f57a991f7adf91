use Rattle.std.specs.Prelude.{codes}
use Rattle.dns_iana.specs.NumberTexts.{Spells}
use Rattle.dns_iana.specs.Registry.{registered_opt_rcodes}
use Rattle.dns_iana.proofs.TextLemmas.{read_below, read_above, none_below}
use Rattle.dns_iana.proofs.rcode.OptRcode.from_registered_name.Goals as goal

pub returns-in_err-number : goal.returns-in_err-number
unfolding registered_opt_rcodes
returns-in_err-number c =
    none_below (Spells registered_opt_rcodes (codes "RCODE") c.args.text.now) _ c.read.ensures 4096 c.in_err-number.was _ c.from_residual.ensures

pub returns-then-number-lt4096 : goal.returns-then-number-lt4096
unfolding registered_opt_rcodes
returns-then-number-lt4096 c =
    read_below (Spells registered_opt_rcodes (codes "RCODE") c.args.text.now) _ c.read.ensures 4096 _ c.in_ok-number.was c.if-number-lt4096.true

pub returns-else-number-lt4096 : goal.returns-else-number-lt4096
unfolding registered_opt_rcodes
returns-else-number-lt4096 c =
    read_above (Spells registered_opt_rcodes (codes "RCODE") c.args.text.now) _ c.read.ensures 4096 _ c.in_ok-number.was c.if-number-lt4096.false
