use Rattle.std.proofs.Common.{◌≡◌, refl}
use Rattle.std.specs.Prelude.{None}
use Rattle.dnsmsg_tool.specs.ScriptCalls.{IsNumberCall}
use Rattle.dnsmsg_tool.proofs.CallLemmas.{no_limit_call, number_reads}
use Rattle.dnsmsg_tool.proofs.line.number_call.Goals as goal

pub returns-in_err-limit-in-limit : goal.returns-in_err-limit-in-limit
returns-in_err-limit-in-limit g c = λ s is.
    let none : c.from_residual.result ≡ None = c.from_residual.ensures in
    rw none (no_limit_call s.header c.args.verb.now c.args.digits.now c.in-limit.is c.in_err-limit-in-limit.ensures)

pub returns-in_ok-limit-in-limit : goal.returns-in_ok-limit-in-limit
returns-in_ok-limit-in-limit g c = λ s is. IsNumberCall.limit c.in_ok-limit-in-limit.limit c.in-limit.is c.in_ok-limit-in-limit.ensures refl

pub returns-in_default : goal.returns-in_default
returns-in_default g c = λ s is.
    number_reads s.header c.args.verb.now c.args.digits.now c.in_default.not-limit c.number_change.result c.header_call.result c.number_change.ensures
    (c.header_call.ensures s is)
