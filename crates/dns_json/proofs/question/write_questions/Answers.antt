use Rattle.std.proofs.Common.{codes, map, rules}
use Rattle.dns_print.proofs.theory.Prints.{print_four}
use Rattle.dns_read.specs.QuestionSection.{questions_left}
use Rattle.json_print.proofs.theory.Pieces.{array_made}
use Rattle.dns_json.specs.Entries.{readable}
use Rattle.dns_json.specs.Messages.{question_json}
use Rattle.dns_json.proofs.question.write_questions.Goals as goal

pub returns-clause-text : goal.returns-clause-text
returns-clause-text g c = λ ok.
    let name = c.write_member_name.ensures.text (search rules) in
    let bracket = c.write_text.ensures.text (search rules) in
    let items = c.write_each.ensures.text (search rules) in
    let close = c.write_text-2.ensures.text ok in
    print_four _ _ _ _ _ _ _ _ _ _ _ name bracket items close (array_made (codes "questionRRs") (map question_json (readable (questions_left c.args.questions))))
