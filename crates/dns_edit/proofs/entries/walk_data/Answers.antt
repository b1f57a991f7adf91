use Rattle.std.proofs.Common.{◌≡◌, ◌≢◌, ◌∷◌, ◌∙◌, ℕ, arith, add-one, subst, sym}
use Rattle.std.proofs.lemmas.Result.{err_from_is_err_and}
use Rattle.dns_edit.specs.Acceptance.{AcceptsData, AllAccepted, OneRefused, RefusesData}
use Rattle.dns_edit.specs.Acceptance.AllAccepted.{none}
use Rattle.dns_edit.specs.Pointers.{AcceptsName, RefusesName}
use Rattle.dns_edit.specs.Rdata.{names_start}
use Rattle.dns_edit.proofs.AcceptLemmas.{accepted_last, refused_next}
use Rattle.dns_edit.proofs.entries.walk_data.Goals as goal

pub returns-then-start-end-clause-accepts : goal.returns-then-start-end-clause-accepts
returns-then-start-end-clause-accepts c = λ names m. (names, AcceptsData.empty c.if-start-end.true, m)

pub loop-name-init : goal.loop-name-init
loop-name-init c =
    let b = c.args.octets.now in
    λ names m. (names, subst (λ n. AllAccepted (AcceptsName b) 0 names (names_start b c.args.rtype c.args.start) n names) (sym c.names_offset-pos.ensures.value) none, m)

pub loop-name-preserved : goal.loop-name-preserved
loop-name-preserved c =
    λ names m.
    let before = c.loop-name.invariant names m in
    let this = c.in_ok-pos.ensures.accepts before.0 before.2 in
    (c.loop-name.pos ∷ before.0, rw add-one (accepted_last before.1 this.0), this.1)

pub returns-in_err-pos-clause-refuses : goal.returns-in_err-pos-clause-refuses
returns-in_err-pos-clause-refuses c =
    let p = err_from_is_err_and c.from_residual.result c.from_residual.ensures.1 in
    rw (p.1, p.2) (λ names m.
    let b = c.args.octets.now in
    let before = c.loop-name.invariant names m in
    let some : c.args.start ≢ c.args.end = c.if-start-end.false in
    let count = c.names_in-name-end.result in
    let e = c.in_err-pos.field-0.0 in
    let one : OneRefused (AcceptsName b) (RefusesName b) count names (names_start b c.args.rtype c.args.start) e =
    refused_next count before.1 (c.in_err-pos.ensures.refuses before.0 before.2) (omega arith) in
    RefusesData.name some (subst (λ n. OneRefused (AcceptsName b) (RefusesName b) n names (names_start b c.args.rtype c.args.start) e) c.names_in-name-end.ensures one))

pub returns-then-pos-end-clause-refuses : goal.returns-then-pos-end-clause-refuses
returns-then-pos-end-clause-refuses c =
    λ names m.
    let b = c.args.octets.now in
    let all = c.loop-name.invariant names m in
    let some : c.args.start ≢ c.args.end = c.if-start-end.false in
    let n : c.loop-name._name ≡ c.names_in-name-end.result = omega arith in
    let P : ℕ → Type 0 = λ n. AllAccepted (AcceptsName b) n names (names_start b c.args.rtype c.args.start) c.loop-name.pos all.0 in
    RefusesData.past some (subst P (n ∙ c.names_in-name-end.ensures) all.1) (omega arith)

pub returns-clause-accepts : goal.returns-clause-accepts
returns-clause-accepts c =
    λ names m.
    let b = c.args.octets.now in
    let all = c.loop-name.invariant names m in
    let some : c.args.start ≢ c.args.end = c.if-start-end.false in
    let n : c.loop-name._name ≡ c.names_in-name-end.result = omega arith in
    let P : ℕ → Type 0 = λ n. AllAccepted (AcceptsName b) n names (names_start b c.args.rtype c.args.start) c.loop-name.pos all.0 in
    (all.0, AcceptsData.all some (subst P (n ∙ c.names_in-name-end.ensures) all.1) (omega arith), all.2)
