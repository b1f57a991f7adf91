use Rattle.std.proofs.Common.{codes, length, rules}
use Rattle.dns_print.proofs.theory.Prints.{print_two}
use Rattle.json_print.proofs.theory.Pieces.{two_members}
use Rattle.dns_json.proofs.record.write_octets.Goals as goal
use Rattle.json.specs.Json.{string}
use Rattle.json_print.specs.Values.{numeral}
use Rattle.dns_json.specs.Records.{hex_text}

pub returns-clause-text : goal.returns-clause-text
returns-clause-text g c = λ ok.
    let size = c.write_number_member.ensures.text (search rules) in
    print_two _ _ _ _ _ _ _ size (c.write_string_member.ensures.text ok)
    (two_members (codes "RDLENGTH", numeral (length c.args.octets.now)) (codes "RDATAHEX", string (hex_text c.args.octets.now)))
