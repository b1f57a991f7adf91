use Rattle.std.proofs.Common.{◌∙◌, ℕ, Bool, ap}
use Rattle.std.specs.Prelude.{if◌then◌else◌}
use Rattle.dns_code.specs.Header.{fields}
use Rattle.dns_lines.proofs.theory.PrintedLines.{printed_as}
use Rattle.dns_lines.proofs.ShownHeader.{bit_number, printed_header}
use Rattle.dns_lines.proofs.print.print_header.Goals as goal

pub returns : goal.returns
returns g c =
    printed_as _ _ _ _ c.writeln.result
    (printed_header (fields c.args.header) c.id-id.result c.to_int-opcode.result c.to_int-rcode.result c.from-z.result c.flags-flags.result
    c.id-id.ensures (c.to_int-opcode.ensures ∙ c.opcode.ensures) (c.to_int-rcode.ensures.value ∙ c.rcode.ensures)
    (c.from-z.ensures ∙ bit_number c.z.result ∙ ap (λ (b : Bool). let n : ℕ = if b then 1 else 0 in n) c.z.ensures) c.flags-flags.ensures)
    c.writeln.ensures.bytes
