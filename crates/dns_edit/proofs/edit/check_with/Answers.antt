use Rattle.std.proofs.Common.{[], subst}
use Rattle.std.proofs.lemmas.Result.{err_from_is_err_and}
use Rattle.dns_code.specs.HeaderSection.{header_size}
use Rattle.dns_edit.specs.Acceptance.{AcceptsQuestion, AcceptsRecord, AllAccepted, OneRefused, RefusesQuestion, RefusesRecord, RefusesTtls}
use Rattle.dns_edit.proofs.edit.check_with.Goals as goal

pub returns-in_err-start-clause-refuses : goal.returns-in_err-start-clause-refuses
returns-in_err-start-clause-refuses c =
    let b = c.args.octets.now in
    let one = c.in_err-start.ensures.refuses [] c.requires.none in
    let p = err_from_is_err_and c.from_residual.result c.from_residual.ensures.1 in
    rw (p.1, p.2) (RefusesTtls.question (subst (λ n. OneRefused (AcceptsQuestion b) (RefusesQuestion b) n [] header_size c.in_err-start.field-0.0) c.questions_in.ensures one))

pub returns-in_err-check_records-clause-refuses : goal.returns-in_err-check_records-clause-refuses
returns-in_err-check_records-clause-refuses c =
    let b = c.args.octets.now in
    let start = c.in_ok-start.start in
    let first = c.in_ok-start.ensures.accepts [] c.requires.none in
    let one = c.in_err-check_records.ensures.refuses first.0 first.2 in
    let p = err_from_is_err_and c.from_residual-in_err-check_records.result c.from_residual-in_err-check_records.ensures.1 in
    rw (p.1, p.2) (RefusesTtls.entry
    (subst (λ n. AllAccepted (AcceptsQuestion b) n [] header_size start first.0) c.questions_in.ensures first.1)
    (subst (λ n. OneRefused (AcceptsRecord b) (RefusesRecord b) n first.0 start c.in_err-check_records.field-0.0) c.record_count.ensures one))

pub returns-clause-accepts : goal.returns-clause-accepts
returns-clause-accepts c =
    let b = c.args.octets.now in
    let start = c.in_ok-start.start in
    let first = c.in_ok-start.ensures.accepts [] c.requires.none in
    let second = c.in_ok-check_records.ensures.accepts first.0 first.2 in
    record {
      end = second.0;
      asked = first.0;
      names = second.1;
      questions = subst (λ n. AllAccepted (AcceptsQuestion b) n [] header_size start first.0) c.questions_in.ensures first.1;
      records = subst (λ n. AllAccepted (AcceptsRecord b) n first.0 start second.0 second.1) c.record_count.ensures second.2;
    }
