use Rattle.std.proofs.Common.{codes, rules}
use Rattle.dns_print.proofs.theory.Prints.{print_four}
use Rattle.json_print.proofs.theory.Pieces.{four_members}
use Rattle.dns_json.proofs.header.write_kind.Goals as goal
use Rattle.json.specs.Json.{boolean}
use Rattle.dns_code.specs.Header.{fields}
use Rattle.json_print.specs.Values.{numeral}

pub returns-clause-text : goal.returns-clause-text
returns-clause-text g c = λ ok.
    let f = fields c.args.header in
    let qr = rw c.qr.ensures at (c.write_boolean_member.ensures.text (search rules)) in
    let opcode = rw (c.from.ensures, c.to_int.ensures, c.opcode.ensures) at (c.write_number_member.ensures.text (search rules)) in
    let aa = rw c.aa.ensures at (c.write_boolean_member-2.ensures.text (search rules)) in
    let tc = rw c.tc.ensures at (c.write_boolean_member-3.ensures.text ok) in
    print_four _ _ _ _ _ _ _ _ _ _ _ qr opcode aa tc (four_members (codes "QR", boolean f.qr) (codes "Opcode", numeral f.opcode) (codes "AA", boolean f.aa) (codes "TC", boolean f.tc))
