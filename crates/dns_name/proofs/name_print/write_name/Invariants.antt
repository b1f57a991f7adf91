use Rattle.std.proofs.Common.{◌≡◌, ◌++◌, List, ℕ}
use Rattle.std.specs.Fmt.{WritesInCalls}
use Rattle.dns_name.specs.ParsedName.{labels_left, labels}
use Rattle.dns_name.specs.NameTexts.{name_text}
use Rattle.dns_name.proofs.NameTextLemmas.{text_left}
use Rattle.dns_name.proofs.name_print.write_name.Given as goal
use denote.Shadow.{shadow}
use denote.Text.{Utf8}

abbrev pub invariant-loop-label : goal.invariant-loop-label
invariant-loop-label g l =
    (goal.iterator-loop-label g).can_next l.label-iterator
    × (goal.iterator-loop-label g).is_finite l.label-iterator
    × shadow (Utf8 l.separator)
    × ((printed : List ℕ) × WritesInCalls g.W.TextWriter.takes l.fn.writer printed l.writer × (printed ++ text_left l.separator (labels_left l.label-iterator) ≡ name_text (labels l.fn.name)))
