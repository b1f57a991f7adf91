use Rattle.std.proofs.Common.{◌∙◌, refl}
use Rattle.example_transfer.proofs.Printing.{all_printed, more_printed, none_printed}
use Rattle.example_transfer.proofs.transfer.print_steps.Goals as goal

pub loop-item-init : goal.loop-item-init
loop-item-init g c = record { printed = none_printed _ _ _ _; state = refl; asked = refl }

pub loop-item-preserved : goal.loop-item-preserved
loop-item-preserved g c = record {
  printed = more_printed _ _ _ _ _ _ _ _ _ _ _ c.loop-item.invariant.printed c.in-Some.ensures.steps c.in_ok-print_item.ensures;
  state = c.in-Some.ensures.state ∙ c.loop-item.invariant.state;
  asked = c.in-Some.ensures.asked ∙ c.loop-item.invariant.asked;
}

pub returns-clause-printed : goal.returns-clause-printed
returns-clause-printed g c = all_printed _ _ _ _ _ _ _ c.loop-item.invariant.printed c.in_default.ensures.steps.0
