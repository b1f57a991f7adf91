use Rattle.std.proofs.Common.{◌≡◌}
use Rattle.fields_table.specs.Rows.{types_left}
use Rattle.fields_table.proofs.RowLemmas.{ranges_left}
use Rattle.fields_table.proofs.rows.RecordTypes.fill.Given as goal

abbrev pub invariant-ranges-2 : goal.invariant-ranges-2
invariant-ranges-2 l = types_left l.self ≡ types_left l.fn.self

abbrev pub decreases-ranges-2 : goal.decreases-ranges-2
decreases-ranges-2 l = ranges_left l.self.range
