use Rattle.dns_read.specs.Message.{message_octets}
use Rattle.dnsm_read.proofs.WalkLemmas.{ends_in_next, left_in_next, moved_on}
use Rattle.dnsm_read.proofs.walk.settle.Goals as goal
use Rattle.std.proofs.Common.{◌∙◌, arith}

pub loop-cursor-preserved : goal.loop-cursor-preserved
loop-cursor-preserved c =
    let old = c.loop-cursor.cursor in
    record {
      same =
          moved_on (message_octets c.args.message.now) old.section old.left c.count_of-cursor.result old.place c.loop-cursor-test.true c.if-cursor-lt3.true c.count_of-cursor.ensures
          ∙ c.loop-cursor.invariant.same;
      section = omega arith;
      status = c.loop-cursor.invariant.status;
      place = c.loop-cursor.invariant.place;
      owner = c.loop-cursor.invariant.owner;
      left =
          left_in_next (message_octets c.args.message.now) c.args.cursor.now old.section old.left c.count_of-cursor.result c.loop-cursor.invariant.left
          c.loop-cursor-test.true c.count_of-cursor.ensures;
      end = λ end h.
          c.loop-cursor.invariant.end end
          (ends_in_next (message_octets c.args.message.now) old.section old.left c.count_of-cursor.result old.place end c.loop-cursor-test.true c.if-cursor-lt3.true c.count_of-cursor.ensures h);
    }
