use Rattle.std.proofs.Common.{◌≡◌}
use Rattle.std.specs.Prelude.{None}
use Rattle.dnsmsg_tool.proofs.LineLemmas.{no_field, no_id, no_opcode, no_rcode}
use Rattle.dnsmsg_tool.proofs.line.number_change.Goals as goal

pub returns-in_err-number-in-id : goal.returns-in_err-number-in-id
returns-in_err-number-in-id c =
    let none : c.from_residual.result ≡ None = c.from_residual.ensures in
    rw none (no_id c.args.field.now c.args.digits.now c.in-id.is c.in_err-number-in-id.ensures)

pub returns-in_err-number-in-opcode : goal.returns-in_err-number-in-opcode
returns-in_err-number-in-opcode c =
    let none : c.from_residual-in_err-number-in-opcode.result ≡ None = c.from_residual-in_err-number-in-opcode.ensures in
    rw none (no_opcode c.args.field.now c.args.digits.now c.in-opcode.is c.in_err-number-in-opcode.ensures)

pub returns-in_err-number-in-rcode : goal.returns-in_err-number-in-rcode
returns-in_err-number-in-rcode c =
    let none : c.from_residual-in_err-number-in-rcode.result ≡ None = c.from_residual-in_err-number-in-rcode.ensures in
    rw none (no_rcode c.args.field.now c.args.digits.now c.in-rcode.is c.in_err-number-in-rcode.ensures)

pub returns-in_default : goal.returns-in_default
returns-in_default c = no_field c.args.field.now c.args.digits.now c.in_default.not-id c.in_default.not-opcode c.in_default.not-rcode
