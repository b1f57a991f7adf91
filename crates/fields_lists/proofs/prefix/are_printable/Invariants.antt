use Rattle.std.proofs.Common.{◌≡◌, is_some, map, []}
use Rattle.fields_lists.specs.Prefixes.{prefixes_text, prefix_word}
use Rattle.fields_lists.specs.ItemsLeft.{prefixes_left}
use Rattle.fields_text.specs.Separated.{spaced_if_all}
use Rattle.fields_lists.proofs.prefix.are_printable.Given as goal

abbrev pub invariant-loop-prefix : goal.invariant-loop-prefix
invariant-loop-prefix l = record {
  can : goal.iterator-loop-prefix.can_next l.prefix-iterator;
  finite : goal.iterator-loop-prefix.is_finite l.prefix-iterator;
  same : is_some (prefixes_text l.fn.octets) ≡ is_some (spaced_if_all [] (map prefix_word (prefixes_left l.prefix-iterator)));
}
