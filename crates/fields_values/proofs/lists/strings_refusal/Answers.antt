use Rattle.std.proofs.Common.{[], arith}
use Rattle.fields_values.specs.NewValues.{AreStringsIn}
use Rattle.fields_values.proofs.ListSteps.{same_start, string_fits, string_long, strings_fit}
use Rattle.fields_values.proofs.lists.strings_refusal.Goals as goal

pub loop-string-init : goal.loop-string-init
loop-string-init c = same_start (AreStringsIn c.args.strings.now)

pub loop-string-preserved : goal.loop-string-preserved
loop-string-preserved c =
    string_fits c.args.strings.now c.loop-string.string-index (record { ref_ptr = (0, 0); now = [] }) c.loop-string.invariant c.loop-string-test.true (omega (arith, c.if-string-gt-MOST_COUNTED.false))

pub returns-then-string-gt-MOST_COUNTED : goal.returns-then-string-gt-MOST_COUNTED
returns-then-string-gt-MOST_COUNTED c =
    string_long c.args.strings.now c.loop-string.string-index (record { ref_ptr = (0, 0); now = [] }) c.loop-string.invariant c.loop-string-test.true (omega (arith, c.if-string-gt-MOST_COUNTED.true))

pub returns : goal.returns
returns c = strings_fit c.args.strings.now c.loop-string.string-index (record { ref_ptr = (0, 0); now = [] }) c.loop-string.invariant c.loop-string-test.false
