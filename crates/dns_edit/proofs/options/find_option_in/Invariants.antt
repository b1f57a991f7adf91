use Rattle.std.proofs.Common.{◌≤◌, ◌-◌, ℕ}
use Rattle.dns_read.specs.Reading.{Skipped}
use Rattle.dns_edit.specs.Options.{OtherOption}
use Rattle.dns_edit.proofs.options.find_option_in.Given as goal

abbrev pub invariant-loop-pos : goal.invariant-loop-pos
invariant-loop-pos l = (l.pos ≤ l.end) × (n : ℕ) × Skipped (OtherOption l.code l.octets l.end) n l.start l.pos

abbrev pub decreases-loop-pos : goal.decreases-loop-pos
decreases-loop-pos l = l.end - l.pos
