use Rattle.std.proofs.Common.{◌≡◌, ◌+◌, take}
use Rattle.std.specs.List.{sum_by}
use Rattle.fields_table.specs.Table.{Field}
use Rattle.dnsm_read.specs.DataNames.{most_names}
use Rattle.dnsm_read.proofs.data_name.may_have_name.Given as goal

abbrev pub invariant-loop-field : goal.invariant-loop-field
invariant-loop-field l = l.fn.index ≡ sum_by (λ (field : Field). most_names field.1) (take l.field-index l.fields) + l.left
