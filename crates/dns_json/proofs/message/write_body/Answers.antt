use Rattle.std.proofs.Common.{codes, rules}
use Rattle.dns_print.proofs.theory.Prints.{print_four}
use Rattle.json_print.proofs.theory.Pieces.{around_member}
use Rattle.dns_json.proofs.message.write_body.Goals as goal
use Rattle.dns_read.specs.Message.{message_octets}
use Rattle.dns_read.specs.Searches.{asked_first, questions_of}
use Rattle.dns_json.specs.Entries.{entries_json}
use Rattle.dns_json.specs.Messages.{asked_members, octets_members, question_json, sections_members}

pub returns-clause-text : goal.returns-clause-text
returns-clause-text g c = λ ok.
    let b = message_octets c.args.message.now in
    let asked = rw c.first_question.ensures at (c.write_asked.ensures.text (search rules)) in
    let questions = rw c.question.ensures.questions at (c.write_questions.ensures.text (search rules)) in
    let sections = c.write_sections.ensures.text (search rules) in
    let octets = c.write_octets.ensures.text ok in
    print_four _ _ _ _ _ _ _ _ _ _ _ asked questions sections octets
    (around_member (asked_members (asked_first b)) (codes "questionRRs", entries_json question_json (questions_of b)) (sections_members b) (octets_members b))
