use Rattle.std.proofs.Common.{[]}
use Rattle.fields_values.proofs.ListSteps.{strings_end, strings_more}
use Rattle.fields_values.proofs.lists.push_strings.Goals as goal

pub loop-string-preserved : goal.loop-string-preserved
loop-string-preserved c =
    strings_more c.args.strings.now c.loop-string.string-index (record { ref_ptr = (0, 0); now = [] }) c.args.octets.now.items c.loop-string.octets.items
    c.push_counted.new.octets.items c.loop-string-test.true c.loop-string.invariant tt c.in-Ok.ensures

pub returns : goal.returns
returns c = strings_end c.args.strings.now c.loop-string.string-index c.args.octets.now.items c.loop-string.octets.items tt c.loop-string-test.false c.loop-string.invariant
