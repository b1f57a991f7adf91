use Rattle.std.proofs.Common.{[], false}
use Rattle.fields_values.proofs.ListSteps.{prefixes_end, prefixes_more}
use Rattle.fields_values.proofs.lists.push_prefixes.Goals as goal

pub loop-prefix-preserved : goal.loop-prefix-preserved
loop-prefix-preserved c =
    prefixes_more c.args.prefixes.now c.loop-prefix.prefix-index
    (record { family = 0; size = 0; negated = false; address = record { ref_ptr = (0, 0); now = [] } }) c.args.octets.now.items c.loop-prefix.octets.items
    c.push_prefix.new.octets.items c.loop-prefix-test.true c.loop-prefix.invariant tt c.in-Ok.ensures

pub returns : goal.returns
returns c = prefixes_end c.args.prefixes.now c.loop-prefix.prefix-index c.args.octets.now.items c.loop-prefix.octets.items tt c.loop-prefix-test.false c.loop-prefix.invariant
