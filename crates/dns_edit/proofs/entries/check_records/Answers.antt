use Rattle.std.proofs.Common.{◌≡◌, arith, add-one, subst}
use Rattle.std.proofs.lemmas.Result.{err_from_is_err_and}
use Rattle.dns_edit.specs.Acceptance.{AcceptsRecord, AllAccepted}
use Rattle.dns_edit.specs.Acceptance.AllAccepted.{none}
use Rattle.dns_edit.proofs.AcceptLemmas.{accepted_last, refused_next}
use Rattle.dns_edit.proofs.entries.check_records.Goals as goal

pub loop-record-init : goal.loop-record-init
loop-record-init c = (c.requires, λ names m. (names, none, m))

pub loop-record-preserved : goal.loop-record-preserved
loop-record-preserved c =
    let new = c.in_ok-pos.ensures in (
      new.within,
      λ names m.
          let before = c.loop-record.invariant.1 names m in
          let this = new.accepts before.0 before.2 in
          (this.0, rw add-one (accepted_last before.1 this.1), this.2),
    )

pub returns-in_err-pos-clause-refuses : goal.returns-in_err-pos-clause-refuses
returns-in_err-pos-clause-refuses c =
    let p = err_from_is_err_and c.from_residual.result c.from_residual.ensures.1 in
    rw (p.1, p.2) (λ names m.
    let before = c.loop-record.invariant.1 names m in
    refused_next c.args.count before.1 (c.in_err-pos.ensures.refuses before.0 before.2) (omega arith))

pub returns-clause-accepts : goal.returns-clause-accepts
returns-clause-accepts c =
    λ names m.
    let all = c.loop-record.invariant.1 names m in
    let n : c.loop-record._record ≡ c.args.count = omega arith in
    (c.loop-record.pos, all.0, subst (λ n. AllAccepted (AcceptsRecord c.args.octets.now) n names c.args.start c.loop-record.pos all.0) n all.1)
