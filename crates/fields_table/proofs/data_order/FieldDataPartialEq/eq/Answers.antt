use Rattle.std.proofs.Common.{ap, sym, ◌∙◌}
use Rattle.std.specs.Ordering.{is_eq}
use Rattle.fields_table.specs.OrderLaws.{data_order-ties}
use Rattle.fields_table.proofs.data_order.FieldDataPartialEq.eq.Goals as goal

pub returns : goal.returns
returns c = c.is_eq.ensures ∙ ap is_eq c.compare.ensures ∙ sym (data_order-ties c.args.self.now c.args.other.now)
