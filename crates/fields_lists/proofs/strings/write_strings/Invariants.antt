use Rattle.std.proofs.Common.{codes, map}
use Rattle.fields_text.proofs.theory.Printing.{Printing}
use Rattle.fields_lists.specs.Strings.{strings_text}
use Rattle.fields_lists.specs.ItemsLeft.{strings_left}
use Rattle.fields_text.specs.Separated.{separated}
use Rattle.fields_text.specs.String.{quoted}
use Rattle.fields_lists.proofs.strings.write_strings.Given as goal
use denote.Shadow.{shadow}
use denote.Text.{Utf8}

abbrev pub invariant-loop-string : goal.invariant-loop-string
invariant-loop-string g l = record {
  can : (goal.iterator-loop-string g).can_next l.string-iterator;
  finite : (goal.iterator-loop-string g).is_finite l.string-iterator;
  utf8 : shadow (Utf8 l.separator);
  printing : Printing g.W.TextWriter.takes l.fn.f l.f (separated l.separator (codes " ") (map quoted (strings_left l.string-iterator))) (strings_text l.fn.octets);
}
