use Rattle.std.specs.Bool.{one_answer}
use Rattle.dns_name.specs.NameOrders.{names_equal-Decides}
use Rattle.dns_name.proofs.compare.ParsedNamePartialEq.eq.Goals as goal

pub returns : goal.returns
returns c = one_answer _ _ c.same_labels.ensures (names_equal-Decides _ _)
