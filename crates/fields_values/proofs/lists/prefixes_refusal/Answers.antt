use Rattle.std.proofs.Common.{[], false}
use Rattle.fields_values.specs.NewValues.{ArePrefixesIn}
use Rattle.fields_values.proofs.ListSteps.{prefix_fits, prefix_wrong, prefixes_fit, same_start}
use Rattle.fields_values.proofs.lists.prefixes_refusal.Goals as goal

pub loop-prefix-init : goal.loop-prefix-init
loop-prefix-init c = same_start (ArePrefixesIn c.args.prefixes.now)

pub loop-prefix-preserved : goal.loop-prefix-preserved
loop-prefix-preserved c =
    prefix_fits c.args.prefixes.now c.loop-prefix.prefix-index
    (record { family = 0; size = 0; negated = false; address = record { ref_ptr = (0, 0); now = [] } }) c.loop-prefix.invariant c.loop-prefix-test.true
    (c.is_prefix.ensures.0 c.if-not-is_prefix.false)

pub returns-then-not-is_prefix : goal.returns-then-not-is_prefix
returns-then-not-is_prefix c =
    prefix_wrong c.args.prefixes.now c.loop-prefix.prefix-index
    (record { family = 0; size = 0; negated = false; address = record { ref_ptr = (0, 0); now = [] } }) c.loop-prefix.invariant c.loop-prefix-test.true
    (λ has. let is_true = c.is_prefix.ensures.1 has in cc (is_true, c.if-not-is_prefix.true))

pub returns : goal.returns
returns c = prefixes_fit c.args.prefixes.now c.loop-prefix.prefix-index
    (record { family = 0; size = 0; negated = false; address = record { ref_ptr = (0, 0); now = [] } }) c.loop-prefix.invariant c.loop-prefix-test.false
