use Rattle.std.proofs.Common.{◌≡◌, ◌-◌, ◌*◌, ◌≤◌}
use Rattle.fields_plain.specs.TimeWords.{days_to}
use Rattle.fields_plain.proofs.time.days_before_year.Given as goal

abbrev pub invariant-loop-earlier : goal.invariant-loop-earlier
invariant-loop-earlier l = record { days : l.days ≡ days_to (l.earlier - 1970); bound : l.days ≤ 366 * (l.earlier - 1970) }
