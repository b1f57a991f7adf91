use Rattle.std.proofs.Common.{codes, rules, sym}
use Rattle.dns_print.proofs.theory.Prints.{print_two}
use Rattle.json_print.proofs.theory.JsonTexts.{number_text}
use Rattle.json_print.proofs.theory.Pieces.{member_made}
use Rattle.dns_json.specs.Records.{ttl_text}
use Rattle.dns_json.proofs.record.write_ttl.Goals as goal
use Rattle.json.specs.Json.{number}

pub returns-clause-text : goal.returns-clause-text
returns-clause-text g c = λ ok.
    print_two _ _ _ _ _ _ _ (c.write_member_name.ensures.text (search rules)) (c.write_signed.ensures.text ok)
    (member_made (codes "TTL") (ttl_text c.args.ttl) (number (ttl_text c.args.ttl)) (sym (number_text (ttl_text c.args.ttl))))
