use Rattle.std.proofs.Common.{Err, ap, ◌∙◌}
use Rattle.std.proofs.lemmas.Result.{err_from_is_err_and}
use Rattle.dns_message.specs.declared.message.Section.TheVariants.{Answer, Authority, Additional}
use Rattle.example_rewrite.specs.Rewriting.HasFault.{before}
use Rattle.example_rewrite.proofs.Checking.{checked, faulty_section}
use Rattle.example_rewrite.proofs.rewriting.check.Goals as goal

pub returns-in_err-questions : goal.returns-in_err-questions
returns-in_err-questions g c =
    let p = err_from_is_err_and c.from_residual.result c.from_residual.ensures.1 in
    rw (p.1 ∙ ap Err p.2) (before Additional c.in_err-questions.ensures.fault)

pub returns-in_err-check_records : goal.returns-in_err-check_records
returns-in_err-check_records g c =
    let p = err_from_is_err_and c.from_residual-in_err-check_records.result c.from_residual-in_err-check_records.ensures.1 in
    rw (p.1 ∙ ap Err p.2) (faulty_section _ Answer _ c.in_ok-questions.ensures.answer _ c.in_err-check_records.ensures)

pub returns-in_err-check_records-2 : goal.returns-in_err-check_records-2
returns-in_err-check_records-2 g c =
    let p = err_from_is_err_and c.from_residual-in_err-check_records-2.result c.from_residual-in_err-check_records-2.ensures.1 in
    rw (p.1 ∙ ap Err p.2) (faulty_section _ Authority _ c.in_ok-questions.ensures.authority _ c.in_err-check_records-2.ensures)

pub returns : goal.returns
returns g c =
    checked _ _ _ _ _ c.check_records-3.result c.in_ok-questions.ensures.question c.in_ok-questions.ensures.answer c.in_ok-questions.ensures.authority c.in_ok-questions.ensures.additional
    c.in_ok-check_questions.ensures c.in_ok-check_records.ensures c.in_ok-check_records-2.ensures c.check_records-3.ensures
