use Rattle.dnsm_text.proofs.ReversedKeys.{LabelFrom}
use Rattle.dnsm_text.proofs.name_key.push_label.Given as goal

abbrev pub invariant-loop-i : goal.invariant-loop-i
invariant-loop-i l = LabelFrom l.key.items l.label l.i l.fn.key.items
