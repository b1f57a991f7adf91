use Rattle.std.specs.Prelude.{codes}
use Rattle.dns_iana.specs.NumberTexts.{Spells}
use Rattle.dns_iana.specs.Registry.{registered_opcodes}
use Rattle.dns_iana.proofs.TextLemmas.{read_below, read_above, none_below}
use Rattle.dns_iana.proofs.opcode.Opcode.from_registered_name.Goals as goal

pub returns-in_err-number : goal.returns-in_err-number
unfolding registered_opcodes
returns-in_err-number c =
    none_below (Spells registered_opcodes (codes "OPCODE") c.args.text.now) _ c.read.ensures 256 c.in_err-number.was _ c.from_residual.ensures

pub returns-then-number-lt256 : goal.returns-then-number-lt256
unfolding registered_opcodes
returns-then-number-lt256 c =
    read_below (Spells registered_opcodes (codes "OPCODE") c.args.text.now) _ c.read.ensures 256 _ c.in_ok-number.was c.if-number-lt256.true

pub returns-else-number-lt256 : goal.returns-else-number-lt256
unfolding registered_opcodes
returns-else-number-lt256 c =
    read_above (Spells registered_opcodes (codes "OPCODE") c.args.text.now) _ c.read.ensures 256 _ c.in_ok-number.was c.if-number-lt256.false
