use Rattle.std.proofs.Common.{◌∙◌}
use Rattle.fields_table.proofs.OrderedData.{canonical_by_fields}
use Rattle.fields_table.proofs.data_order.FieldDataCanonicalOrd.canonical_cmp.Goals as goal

pub returns : goal.returns
returns c = c.compare.ensures ∙ canonical_by_fields c.args.self.now c.args.other.now
