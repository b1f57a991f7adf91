use Rattle.std.proofs.Common.{refl, rules}
use Rattle.dns_print.proofs.theory.Prints.{print_two}
use Rattle.dns_dig.proofs.message.write_sections.Goals as goal

pub returns-clause-text : goal.returns-clause-text
returns-clause-text g c = λ ok.
    let questions = rw (c.opcode.ensures, c.header.ensures, c.question.ensures.questions) at (c.write_questions.ensures.text (search rules)) in
    print_two _ _ _ _ _ _ _ questions (c.write_record_sections.ensures.text ok) refl
