use Rattle.std.proofs.Common.{◌≡◌, ◌≤◌, ◌+◌, ◌*◌, ◌-◌, ◌++◌, length, take, vec_len, vec_capacity}
use Rattle.std.specs.Int.{to_be_bytes, w16}
use Rattle.std.specs.List.{flat_map}
use Rattle.dns_edns_builder.proofs.options.append_numbers_option.Given as goal

abbrev pub invariant-loop-number : goal.invariant-loop-number
invariant-loop-number l = record {
  items : l.list.items ≡ l.initial.list.items ++ flat_map (to_be_bytes w16) (take l.number-index l.numbers);
  reserved : vec_len l.list + 2 * (length l.numbers - l.number-index) ≤ vec_capacity l.list;
}
