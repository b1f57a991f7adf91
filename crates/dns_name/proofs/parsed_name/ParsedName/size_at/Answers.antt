use Rattle.std.proofs.Common.{arith}
use Rattle.dns_octets.specs.declared.error.TheConstants.FormError.{BAD_POINTER}
use Rattle.dns_name.specs.Names.{Faulty}
use Rattle.dns_name.specs.Names.Fault.{Form}
use Rattle.dns_name.proofs.theory.CachedNames.{leading_row, leading_pointer, leading_root}
use Rattle.dns_name.proofs.parsed_name.ParsedName.size_at.Goals as goal

pub returns-in_default : goal.returns-in_default
returns-in_default c =
    let step = leading_row _ _ _ _ _ _ _ _ _ c.walk.invariant c.in_ok-row.ensures in
    leading_root _ _ _ _ _ _ step (rw c.in_default.is at c.in_ok-row.ensures.there)

pub returns-then-pos-row : goal.returns-then-pos-row
returns-then-pos-row c =
    let step = leading_row _ _ _ _ _ _ _ _ _ c.walk.invariant c.in_ok-row.ensures in
    step.faults (Form BAD_POINTER) (Faulty.ahead (rw c.in-Some.is at c.in_ok-row.ensures.there) (omega arith))

pub walk-preserved : goal.walk-preserved
walk-preserved c =
    let step = leading_row _ _ _ _ _ _ _ _ _ c.walk.invariant c.in_ok-row.ensures in
    rw c.from-pos-in-walk.ensures (leading_pointer _ _ _ _ _ _ _ step (rw c.in-Some.is at c.in_ok-row.ensures.there) (omega arith))
