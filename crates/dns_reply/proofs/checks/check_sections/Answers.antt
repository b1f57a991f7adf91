use Rattle.std.proofs.Common.{◌≡◌, ◌∙◌, subst, sym}
use Rattle.std.proofs.lemmas.Result.{err_from_is_err_and}
use Rattle.std.specs.Prelude.{MatchResult, None, Option, Some}
use Rattle.dns_name.specs.Names.{Fault, fault_of}
use Rattle.dns_read.specs.Limited.{limited}
use Rattle.dns_read.specs.RecordSearches.{cname_layout}
use Rattle.dns_read.specs.RecordSection.{records_left}
use Rattle.dns_reply.specs.Records.{dname_layout, ns_layout, opt_records, soa_layout}
use Rattle.dns_reply.proofs.FaultLemmas.{fault_left, fault_right}
use Rattle.dns_reply.proofs.checks.check_sections.Goals as goal

-- The n-th reading has a fault, and those before it have none.
pub returns-in_err-check : goal.returns-in_err-check
returns-in_err-check c =
    let p = err_from_is_err_and c.from_residual.result c.from_residual.ensures.1 in
    rw (p.1, p.2) (fault_left (limited cname_layout (records_left c.args.answers)) _ _ c.in_err-check.ensures)

pub returns-in_err-check-2 : goal.returns-in_err-check-2
returns-in_err-check-2 c =
    let p = err_from_is_err_and c.from_residual-in_err-check-2.result c.from_residual-in_err-check-2.ensures.1 in
    rw (p.1, p.2) (
    fault_right (limited cname_layout (records_left c.args.answers)) _ c.in_ok-check.ensures
    ∙ fault_left (limited dname_layout (records_left c.args.answers)) _ _ c.in_err-check-2.ensures)

pub returns-in_err-check-3 : goal.returns-in_err-check-3
returns-in_err-check-3 c =
    let p = err_from_is_err_and c.from_residual-in_err-check-3.result c.from_residual-in_err-check-3.ensures.1 in
    rw (p.1, p.2) (
    fault_right (limited cname_layout (records_left c.args.answers)) _ c.in_ok-check.ensures
    ∙ fault_right (limited dname_layout (records_left c.args.answers)) _ c.in_ok-check-2.ensures
    ∙ fault_left (limited soa_layout (records_left c.args.authorities)) _ _ c.in_err-check-3.ensures)

pub returns-in_err-check-4 : goal.returns-in_err-check-4
returns-in_err-check-4 c =
    let p = err_from_is_err_and c.from_residual-in_err-check-4.result c.from_residual-in_err-check-4.ensures.1 in
    rw (p.1, p.2) (
    fault_right (limited cname_layout (records_left c.args.answers)) _ c.in_ok-check.ensures
    ∙ fault_right (limited dname_layout (records_left c.args.answers)) _ c.in_ok-check-2.ensures
    ∙ fault_right (limited soa_layout (records_left c.args.authorities)) _ c.in_ok-check-3.ensures
    ∙ fault_left (limited ns_layout (records_left c.args.authorities)) _ _ c.in_err-check-4.ensures)

-- What is left is the reading of the OPT records, and the result is that of its check.
pub returns : goal.returns
returns c =
    let same =
    fault_right (limited cname_layout (records_left c.args.answers)) _ c.in_ok-check.ensures
    ∙ fault_right (limited dname_layout (records_left c.args.answers)) _ c.in_ok-check-2.ensures
    ∙ fault_right (limited soa_layout (records_left c.args.authorities)) _ c.in_ok-check-3.ensures
    ∙ fault_right (limited ns_layout (records_left c.args.authorities)) (opt_records (records_left c.args.additionals)) c.in_ok-check-4.ensures in
    subst (λ (o : Option Fault). MatchResult c.check-5.result (λ _. o ≡ None) (λ e. o ≡ Some (fault_of e))) (sym same) c.check-5.ensures
