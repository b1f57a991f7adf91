use Rattle.std.proofs.Common.{◌∙◌, ◌+◌, ap, rules}
use Rattle.dns_print.proofs.theory.Prints.{print_four}
use Rattle.dns_dig.specs.Columns.{begins_at}
use Rattle.dns_dig.specs.Near.{near}
use Rattle.dns_dig.proofs.Rows.{front_made}
use Rattle.dns_dig.proofs.record.write_front.Goals as goal

pub returns-clause-text : goal.returns-clause-text
returns-clause-text g c = λ ok.
    let ttl_end = c.end_in-ttl_end.ensures.value ∙ ap (λ n. near (begins_at c.name_length-owner_end.result 24 + n)) c.number_length.ensures.value in
    let class_end = c.end_in-class_end.ensures.value ∙ ap (λ n. near (begins_at c.end_in-ttl_end.result 32 + n)) c.class_length.ensures.value in
    let type_end = c.end_in-type_end.ensures.value ∙ ap (λ n. near (begins_at c.end_in-class_end.result 40 + n)) c.type_length.ensures.value in
    print_four _ _ _ _ _ _ _ _ _ _ _ (c.write_zone_name.ensures.text (search rules)) (c.write_ttl.ensures.text (search rules)) (c.write_class_and_type.ensures.text (search rules))
    (c.write_gap.ensures.text ok)
    (front_made _ _ _ _ _ _ _ _ c.name_length-owner_end.ensures.value ttl_end class_end type_end)
