use Rattle.std.proofs.Common.{◌≤◌, ℕ, List, length}
use Rattle.dns_edit.specs.Acceptance.{AcceptsRecord, AllAccepted}
use Rattle.dns_edit.specs.Marks.{MarksLabels}
use Rattle.dns_edit.proofs.entries.check_records.Given as goal

abbrev pub invariant-loop-record : goal.invariant-loop-record
invariant-loop-record l =
    (l.pos ≤ length l.octets)
    × ((names : List ℕ) → MarksLabels l.octets names l.fn.marks
    → (mid : List ℕ) × AllAccepted (AcceptsRecord l.octets) l._record names l.start l.pos mid × MarksLabels l.octets mid l.marks)
