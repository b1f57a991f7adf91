use Rattle.std.proofs.Common.{ℕ, length, subst, sym}
use Rattle.dnsm_put.specs.Responses.{ReportsNumber}
use Rattle.dnsm.proofs.ReasonLemmas.{refusal_reported}
use Rattle.dnsm.proofs.drafting.dnsm_respond.Goals as goal

pub returns-in-Err-clause-refused : goal.returns-in-Err-clause-refused
returns-in-Err-clause-refused c =
    let error = c.in-Err.error in
    let refused = c.in-Err.ensures.refused in
    let reported = refusal_reported c.args.query.now (length c.args.out.now) error c.into.result refused c.into.ensures in
    λ failed. (error, subst (λ (n : ℕ). ReportsNumber error n) (sym c.of_fault.ensures.number) reported, refused)
