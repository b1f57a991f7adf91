use Rattle.std.proofs.Common.{◌-◌, length, drop, take, arith}
use Rattle.std.proofs.lemmas.Grind.{common_steps}
use Rattle.dnsm_put.proofs.Buffers.{all_left}
use Rattle.dnsm_put.proofs.RdataWritten.{two_names}
use Rattle.dnsm_put.proofs.rdata.are_two_names.Goals as goal

pub returns-then-is_name-clause-yes : goal.returns-then-is_name-clause-yes
returns-then-is_name-clause-yes c = λ t.
    let octets = c.args.octets.now in
    let first = c.first_name-first.result in
    let others = take (length octets - first) (drop first octets) in
    two_names octets others _ _ first c.first_name-second.result c.args.after (all_left octets first) (grind (arith, common_steps)) (grind (arith, common_steps))
    c.first_name-second.ensures.within (c.is_name.ensures.yes c.if-is_name.true) (c.is_name-then-is_name.ensures.yes t) (omega arith)
