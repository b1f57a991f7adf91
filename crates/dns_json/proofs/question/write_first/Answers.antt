use Rattle.std.proofs.Common.{codes, rules}
use Rattle.dns_print.proofs.theory.Prints.{print_three}
use Rattle.json_print.proofs.theory.Pieces.{members_made}
use Rattle.dns_json.proofs.question.write_first.Goals as goal
use Rattle.json.specs.Json.{string}
use Rattle.dns_item.specs.Question.{parsed_question}
use Rattle.fields_plain.specs.ZoneNames.{zone_name_text}
use Rattle.dns_json.specs.Header.{class_members, type_members}

pub returns-clause-text : goal.returns-clause-text
returns-clause-text g c = λ ok.
    let q = parsed_question c.args.question.now in
    let name = rw c.qname.ensures at (c.write_string_member.ensures.text (search rules)) in
    let rtype = rw c.qtype.ensures at (c.write_type.ensures.text (search rules)) in
    let class = rw c.qclass.ensures at (c.write_class.ensures.text ok) in
    print_three _ _ _ _ _ _ _ _ _ name rtype class
    (members_made (codes "QNAME", string (zone_name_text q.name)) (type_members (codes "QTYPE") (codes "QTYPEname") q.rtype) (class_members (codes "QCLASS") (codes "QCLASSname") q.class))
