use Rattle.std.proofs.Math.Numerals.{add-one-le}
use Rattle.dns_print.proofs.octets.plain_len.Goals as goal
use Rattle.dns_print.proofs.theory.PlainRuns.{one_more_plain}

pub loop-len-preserved : goal.loop-len-preserved
loop-len-preserved g c =
    (add-one-le c.loop-len-test.true, one_more_plain g.O.OctetText.text_of c.args.octets.now c.loop-len.len 0 c.loop-len-test.true c.loop-len.invariant.1 (c.is_plain.ensures c.if-is_plain.true))
