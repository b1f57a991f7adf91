use Rattle.std.proofs.Common.{◌≡◌, ◌+◌, ◌≤◌, ◌<◌, ◌∷◌, arith, add-one, length, refl, subst}
use Rattle.std.proofs.lemmas.Result.{err_from_is_err_and}
use Rattle.dns_edit.specs.Acceptance.{AcceptsQuestion, AllAccepted, RefusesQuestion}
use Rattle.dns_edit.specs.Acceptance.AllAccepted.{none}
use Rattle.dns_edit.proofs.AcceptLemmas.{accepted_last, refused_next}
use Rattle.dns_edit.proofs.entries.check_questions.Goals as goal

pub loop-question-init : goal.loop-question-init
loop-question-init c = (c.requires, λ names m. (names, none, m))

pub loop-question-preserved : goal.loop-question-preserved
loop-question-preserved c =
    let x = c.loop-question.invariant in
    let p = c.loop-question.pos in
    let r = c.in_ok-name_end.name_end in
    let b = c.args.octets.now in
    let walked = c.in_ok-name_end.ensures in
    let inside : r + 4 ≤ length b = omega (arith, walked.within) in (
      inside,
      λ names m.
          let before = x.1 names m in
          let this = walked.accepts before.0 before.2 in
          let there : AcceptsQuestion b before.0 p (r + 4) (p ∷ before.0) = record { name_end = r; name = this.0; end = refl; within = inside } in
          (p ∷ before.0, rw add-one (accepted_last before.1 there), this.1),
    )

pub returns-in_err-name_end-clause-refuses : goal.returns-in_err-name_end-clause-refuses
returns-in_err-name_end-clause-refuses c =
    let p = err_from_is_err_and c.from_residual.result c.from_residual.ensures.1 in
    rw (p.1, p.2) (λ names m.
    let before = c.loop-question.invariant.1 names m in
    refused_next c.args.count before.1 (RefusesQuestion.name (c.in_err-name_end.ensures.refuses before.0 before.2)) (omega arith))

pub returns-then-octets-name_end-lt4-clause-refuses : goal.returns-then-octets-name_end-lt4-clause-refuses
returns-then-octets-name_end-lt4-clause-refuses c =
    λ names m.
    let before = c.loop-question.invariant.1 names m in
    let walked = c.in_ok-name_end.ensures in
    let this = walked.accepts before.0 before.2 in
    let short : length c.args.octets.now < c.in_ok-name_end.name_end + 4 = omega (arith, walked.within) in
    refused_next c.args.count before.1 (RefusesQuestion.short this.0 short) (omega arith)

pub returns-clause-accepts : goal.returns-clause-accepts
returns-clause-accepts c =
    λ names m.
    let all = c.loop-question.invariant.1 names m in
    let n : c.loop-question._question ≡ c.args.count = omega arith in
    (all.0, subst (λ n. AllAccepted (AcceptsQuestion c.args.octets.now) n names c.args.start c.loop-question.pos all.0) n all.1, all.2)
