use Rattle.std.proofs.lemmas.Result.{err_from_is_err_and}
use Rattle.dns_message.specs.Targets.{Static}
use Rattle.example_rewrite.proofs.Beginning.{begins}
use Rattle.example_rewrite.proofs.Reasons.{not_begun}
use Rattle.example_rewrite.proofs.rewriting.begun.Goals as goal

pub returns-clause-begun : goal.returns-clause-begun
returns-clause-begun g c =
    let gives = rw c.in_ok-builder.was at c.start_answer.ensures _ c.in_ok-from_target.ensures.fresh in
    begins Static _ c.in_ok-builder.builder c.set_header.new.self c.header.result gives.1 c.header.ensures c.set_header.ensures

pub returns-in_err-builder-clause-memory : goal.returns-in_err-builder-clause-memory
returns-in_err-builder-clause-memory g c =
    let p = err_from_is_err_and c.from_residual-in_err-builder.result c.from_residual-in_err-builder.ensures.1 in
    rw (p.1, p.2) (not_begun _ _ c.in_err-builder.field-0.0 c.counts_fit.ensures.questions (c.in_err-builder.ensures _ c.in_ok-from_target.ensures.fresh))
