use Rattle.std.proofs.Common.{codes, rules}
use Rattle.dns_print.proofs.theory.Prints.{print_three}
use Rattle.json_print.proofs.theory.Pieces.{single_made}
use Rattle.dns_json.proofs.message.write_octets_object.Goals as goal
use Rattle.json.specs.Json.{string}
use Rattle.dns_json.specs.Records.{hex_text}

pub returns-clause-text : goal.returns-clause-text
returns-clause-text g c = λ ok.
    print_three _ _ _ _ _ _ _ _ _ (c.begin_object.ensures.text (search rules)) (c.write_string.ensures.text (search rules)) (c.write_text.ensures.text ok)
    (single_made (codes "messageOctetsHEX") (string (hex_text c.args.octets.now)))
