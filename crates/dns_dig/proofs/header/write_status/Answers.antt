use Rattle.std.proofs.Common.{refl, rules}
use Rattle.dns_print.proofs.theory.Prints.{print_three}
use Rattle.dns_dig.proofs.header.write_status.Goals as goal

pub returns-clause-text : goal.returns-clause-text
returns-clause-text g c = λ ok.
    let opcode = rw c.opcode.ensures at (c.write_opcode.ensures.text (search rules)) in
    let others = rw c.id.ensures at (c.write_rcode_and_id.ensures.text ok) in
    print_three _ _ _ _ _ _ _ _ _ (c.write_text.ensures.text (search rules)) opcode others refl
