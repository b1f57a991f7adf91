use Rattle.std.proofs.Common.{◌≤◌, ℕ, List, length}
use Rattle.dns_edit.specs.Acceptance.{AcceptsQuestion, AllAccepted}
use Rattle.dns_edit.specs.Marks.{MarksLabels}
use Rattle.dns_edit.proofs.entries.check_questions.Given as goal

abbrev pub invariant-loop-question : goal.invariant-loop-question
invariant-loop-question l =
    (l.pos ≤ length l.octets)
    × ((names : List ℕ) → MarksLabels l.octets names l.fn.marks
    → (mid : List ℕ) × AllAccepted (AcceptsQuestion l.octets) l._question names l.start l.pos mid × MarksLabels l.octets mid l.marks)
