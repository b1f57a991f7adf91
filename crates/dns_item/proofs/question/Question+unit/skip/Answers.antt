use Rattle.std.proofs.Common.{refl}
use Rattle.std.proofs.lemmas.Result.{err_from_is_err_and}
use Rattle.dns_item.specs.AfterNames.FieldsSkipFaultAt.{name}
use Rattle.dns_item.proofs.QuestionLemmas.{unended}
use Rattle.dns_item.proofs.question.Question+unit.skip.Goals as goal

pub returns-in_err-skip : goal.returns-in_err-skip
returns-in_err-skip c =
    let p = err_from_is_err_and c.from_residual.result c.from_residual.ensures.1 in
    rw (p.1, p.2) (name c.in_err-skip.ensures.0, refl)

pub returns-in_err-advance : goal.returns-in_err-advance
returns-in_err-advance c =
    let p = err_from_is_err_and c.from_residual-in_err-advance.result c.from_residual-in_err-advance.ensures.1 in
    rw (p.1, p.2) (unended _ _ _ c.in_ok-skip.ensures c.in_err-advance.ensures.0 c.in_err-advance.ensures.1, refl)
