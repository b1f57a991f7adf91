use Rattle.std.proofs.Common.{rules}
use Rattle.dns_print.proofs.theory.Prints.{print_two}
use Rattle.json_print.proofs.theory.Pieces.{two_members}
use Rattle.dns_json.proofs.header.write_class.Goals as goal
use Rattle.json.specs.Json.{string}
use Rattle.dns_iana.specs.Classes.{class_text}
use Rattle.json_print.specs.Values.{numeral}

pub returns-clause-text : goal.returns-clause-text
returns-clause-text g c = λ ok.
    let number = rw (c.from.ensures, c.to_int.ensures) at (c.write_number_member.ensures.text (search rules)) in
    print_two _ _ _ _ _ _ _ number (c.write_string_member.ensures.text ok) (two_members (c.args.number.now, numeral c.args.class) (c.args.name.now, string (class_text c.args.class)))
