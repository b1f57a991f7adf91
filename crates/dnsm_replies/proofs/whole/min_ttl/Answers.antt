use Rattle.std.proofs.Common.{ℕ, List, inr, subst}
use Rattle.dns_name.specs.Names.{fault_of}
use Rattle.dns_edit.specs.Edits.{RecordsFault}
use Rattle.dnsm_replies.proofs.FaultLemmas.{reported_records}
use Rattle.dnsm_replies.proofs.ReplyLemmas.{is_long}
use Rattle.dnsm_replies.proofs.whole.min_ttl.Goals as goal

pub returns-in-Err-clause-none : goal.returns-in-Err-clause-none
returns-in-Err-clause-none c =
    let b = c.args.octets.now in
    let f = fault_of c.in-Err.error in
    let fault = subst (λ (x : List ℕ). RecordsFault x f) c.in-Ok.ensures.octets c.in-Err.ensures.fault in
    inr (is_long b c.in-Ok.ensures.short.1, (f, fault, c.of_error.ensures (reported_records b f fault)))
