use Rattle.std.proofs.Common.{refl}
use Rattle.dns_print.proofs.theory.Prints.{print_three}
use Rattle.dns_dig.proofs.Durations.{five_units}
use Rattle.dns_dig.proofs.duration.write_units.Goals as goal

pub returns-clause-text : goal.returns-clause-text
returns-clause-text g c = λ ok.
    print_three _ _ _ _ _ _ _ _ _ c.in_ok-after_weeks.ensures.text c.in_ok-after_days.ensures.text
    (print_three _ _ _ _ _ _ _ _ _ c.in_ok-after_hours.ensures.text c.in_ok-after_minutes.ensures.text c.in_ok-write_if_any.ensures.text refl)
    (five_units c.args.seconds _ _ _ _ c.in_ok-after_weeks.ensures.later c.in_ok-after_days.ensures.later c.in_ok-after_hours.ensures.later c.in_ok-after_minutes.ensures.later)
