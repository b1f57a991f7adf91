use Rattle.std.proofs.Common.{codes, rules}
use Rattle.dns_print.proofs.theory.Prints.{print_four}
use Rattle.json_print.proofs.theory.Pieces.{front_made}
use Rattle.dns_json.proofs.header.write_owner.Goals as goal
use Rattle.json.specs.Json.{string}
use Rattle.dns_name.specs.ParsedName.{labels}
use Rattle.fields_plain.specs.ZoneNames.{zone_name_text}
use Rattle.dns_json.specs.Header.{class_members, type_members}

pub returns-clause-text : goal.returns-clause-text
returns-clause-text g c = λ ok.
    let brace = c.begin_object.ensures.text (search rules) in
    let name = c.write_string.ensures.text (search rules) in
    let rtype = c.write_type.ensures.text (search rules) in
    let class = c.write_class.ensures.text ok in
    print_four _ _ _ _ _ _ _ _ _ _ _ brace name rtype class
    (front_made (codes "NAME") (string (zone_name_text (labels c.args.name.now))) (type_members (codes "TYPE") (codes "TYPEname") c.args.rtype)
    (class_members (codes "CLASS") (codes "CLASSname") c.args.class))
