use Rattle.std.proofs.Common.{rules}
use Rattle.dns_print.proofs.theory.Prints.{print_two}
use Rattle.json_print.proofs.theory.Pieces.{object_closed}
use Rattle.dns_json.proofs.question.write_object.Goals as goal
use Rattle.dns_item.specs.Question.{parsed_question}
use Rattle.dns_json.specs.Header.{owner_members}

pub returns-clause-text : goal.returns-clause-text
returns-clause-text g c = λ ok.
    let q = parsed_question c.args.question.now in
    let front = rw (c.qname.ensures, c.qtype.ensures, c.qclass.ensures) at (c.write_owner.ensures.text (search rules)) in
    print_two _ _ _ _ _ _ _ front (c.write_text.ensures.text ok) (object_closed (owner_members q.name q.rtype q.class))
