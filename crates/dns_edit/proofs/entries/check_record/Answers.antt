use Rattle.std.proofs.Common.{◌+◌, ◌∷◌, subst}
use Rattle.std.proofs.lemmas.Result.{err_from_is_err_and}
use Rattle.dns_name.proofs.theory.Names.{one_end}
use Rattle.dns_edit.specs.Acceptance.{AcceptsData, RefusesData, RefusesRecord}
use Rattle.dns_edit.specs.Pointers.{AcceptsName}
use Rattle.dns_edit.proofs.SpanLemmas.{skips_of}
use Rattle.dns_edit.proofs.entries.check_record.Goals as goal

pub returns-in_err-span-clause-refuses : goal.returns-in_err-span-clause-refuses
returns-in_err-span-clause-refuses c =
    let p = err_from_is_err_and c.from_residual.result c.from_residual.ensures.1 in
    rw (p.1, p.2) (λ names m. RefusesRecord.skip c.in_err-span.ensures)

pub returns-in_err-walk_name-clause-refuses : goal.returns-in_err-walk_name-clause-refuses
returns-in_err-walk_name-clause-refuses c =
    let p = err_from_is_err_and c.from_residual-in_err-walk_name.result c.from_residual-in_err-walk_name.ensures.1 in
    rw (p.1, p.2) (λ names m. RefusesRecord.owner (skips_of c.in_ok-span.ensures) (c.in_err-walk_name.ensures.refuses names m))

pub returns-in_err-walk_data-clause-refuses : goal.returns-in_err-walk_data-clause-refuses
returns-in_err-walk_data-clause-refuses c =
    let p = err_from_is_err_and c.from_residual-in_err-walk_data.result c.from_residual-in_err-walk_data.ensures.1 in
    rw (p.1, p.2) (λ names m.
    let b = c.args.octets.now in
    let span = c.in_ok-span.span in
    let there = c.in_ok-span.ensures in
    let walked = c.in_ok-walk_name.ensures in
    let e = one_end b c.args.start _ _ walked.ends there.name_ends in
    let owner = walked.accepts names m in
    let rdata = c.in_err-walk_data.ensures.refuses (c.args.start ∷ names) owner.1 in
    RefusesRecord.rdata (skips_of there) (subst (λ r. AcceptsName b names c.args.start r (c.args.start ∷ names)) e owner.0)
    (subst (λ t. RefusesData b (c.args.start ∷ names) t (span.fields + 10) span.end c.in_err-walk_data.field-0.0) there.rtype rdata))

pub returns-clause-accepts : goal.returns-clause-accepts
returns-clause-accepts c =
    λ names m.
    let b = c.args.octets.now in
    let span = c.in_ok-span.span in
    let there = c.in_ok-span.ensures in
    let walked = c.in_ok-walk_name.ensures in
    let e = one_end b c.args.start _ _ walked.ends there.name_ends in
    let owner = walked.accepts names m in
    let rdata = c.in_ok-walk_data.ensures.accepts (c.args.start ∷ names) owner.1 in (
      rdata.0,
      record {
        skips = skips_of there;
        mid = c.args.start ∷ names;
        owner = subst (λ r. AcceptsName b names c.args.start r (c.args.start ∷ names)) e owner.0;
        rdata = subst (λ t. AcceptsData b (c.args.start ∷ names) t (span.fields + 10) span.end rdata.0) there.rtype rdata.1;
      },
      rdata.2,
    )
