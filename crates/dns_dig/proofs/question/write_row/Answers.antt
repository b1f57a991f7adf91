use Rattle.std.proofs.Common.{◌∙◌, ◌+◌, ap, rules}
use Rattle.dns_print.proofs.theory.Prints.{print_two}
use Rattle.dns_dig.specs.Columns.{begins_at}
use Rattle.dns_dig.specs.Near.{near}
use Rattle.dns_dig.proofs.Rows.{question_made}
use Rattle.dns_dig.proofs.question.write_row.Goals as goal

pub returns-clause-text : goal.returns-clause-text
returns-clause-text g c = λ ok.
    let class_end = c.end_in-class_end.ensures.value ∙ ap (λ n. near (begins_at c.name_length-name_end.result 32 + n)) c.class_length.ensures.value in
    print_two _ _ _ _ _ _ _ (c.write_zone_name.ensures.text (search rules)) (c.write_class_and_type.ensures.text ok)
    (question_made _ _ _ _ _ c.name_length-name_end.ensures.value class_end)
