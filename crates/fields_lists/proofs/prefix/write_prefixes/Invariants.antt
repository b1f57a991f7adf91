use Rattle.std.proofs.Common.{map}
use Rattle.fields_text.proofs.theory.Printing.{PrintingIfAll}
use Rattle.fields_lists.specs.Prefixes.{prefixes_text, prefix_word}
use Rattle.fields_lists.specs.ItemsLeft.{prefixes_left}
use Rattle.fields_text.specs.Separated.{spaced_if_all}
use Rattle.fields_lists.proofs.prefix.write_prefixes.Given as goal
use denote.Shadow.{shadow}
use denote.Text.{Utf8}

abbrev pub invariant-loop-prefix : goal.invariant-loop-prefix
invariant-loop-prefix g l = record {
  can : (goal.iterator-loop-prefix g).can_next l.prefix-iterator;
  finite : (goal.iterator-loop-prefix g).is_finite l.prefix-iterator;
  utf8 : shadow (Utf8 l.separator);
  printing : PrintingIfAll g.W.TextWriter.takes l.fn.f l.f (spaced_if_all l.separator (map prefix_word (prefixes_left l.prefix-iterator))) (prefixes_text l.fn.octets);
}
