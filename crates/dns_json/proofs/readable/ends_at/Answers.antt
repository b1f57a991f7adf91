use Rattle.std.proofs.Common.{ℕ, ◌==◌, ap}
use Rattle.dns_json.proofs.readable.ends_at.Goals as goal

pub returns-in-Ok : goal.returns-in-Ok
returns-in-Ok c = rw c.in-Ok.is (ap (λ (n : ℕ). n == c.args.len) c.end_of.ensures)

pub returns-in-Err : goal.returns-in-Err
returns-in-Err c = rw c.in-Err.is
