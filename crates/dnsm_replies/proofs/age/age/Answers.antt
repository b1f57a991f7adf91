use Rattle.std.proofs.Common.{ℕ, List, inr, subst}
use Rattle.dns_edit.specs.Acceptance.{RefusesTtls}
use Rattle.dnsm_replies.proofs.AgeLemmas.{reported_change}
use Rattle.dnsm_replies.proofs.age.age.Goals as goal

pub returns-in-Err-clause-refused : goal.returns-in-Err-clause-refused
returns-in-Err-clause-refused c =
    let b = c.args.octets.now in
    let e = c.in-Err.error in
    let refused : RefusesTtls b e = subst (λ (b : List ℕ). RefusesTtls b e) (λ i. (c.from_octets_unchecked-message.ensures i).now) c.in-Err.ensures.refused in
    inr (c.if-octets-lt-LEN.false, (e, refused, c.fault_of_edit.ensures (reported_change b e refused)))
