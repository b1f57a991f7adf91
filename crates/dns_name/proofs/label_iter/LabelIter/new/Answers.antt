use Rattle.std.proofs.Common.{arith, rules}
use Rattle.dns_name.proofs.theory.Steps.{all_labels, all_left}
use Rattle.dns_name.specs.Unique.{encoded_short}
use Rattle.dns_name.proofs.label_iter.LabelIter.new.Goals as goal

pub overflow_add-result : goal.overflow_add-result
overflow_add-result c = let n = c.requires in omega (arith, n.1, encoded_short n.0.1)

pub invariant_of-result : goal.invariant_of-result
invariant_of-result c = record { labels_at = all_labels _ _ _ c.requires }

pub returns : goal.returns
returns c = λ name s. search (rules, all_left)
