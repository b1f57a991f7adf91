use Rattle.std.proofs.Common.{ℕ, List}
use Rattle.dns_edit.specs.Acceptance.{AllAccepted}
use Rattle.dns_edit.specs.Marks.{MarksLabels}
use Rattle.dns_edit.specs.Pointers.{AcceptsName}
use Rattle.dns_edit.specs.Rdata.{names_start}
use Rattle.dns_edit.proofs.entries.walk_data.Given as goal

abbrev pub invariant-loop-name : goal.invariant-loop-name
invariant-loop-name l =
    (names : List ℕ) → MarksLabels l.octets names l.fn.marks
    → (mid : List ℕ) × AllAccepted (AcceptsName l.octets) l._name names (names_start l.octets l.rtype l.start) l.pos mid × MarksLabels l.octets mid l.marks
