use Rattle.std.proofs.Common.{◌≡◌, ◌≤◌, true, length}
use Rattle.fields_table.specs.Table.{fields_in, types_in, are_above}
use Rattle.fields_table.proofs.table.fields_in.Given as goal

abbrev pub invariant-rows : goal.invariant-rows
invariant-rows l =
    (length l.left ≤ length l.rows) × (are_above 0 l.left ≡ true) × (fields_in (types_in l.rows) l.rtype ≡ fields_in (types_in l.left) l.rtype)

abbrev pub decreases-rows : goal.decreases-rows
decreases-rows l = length l.left
