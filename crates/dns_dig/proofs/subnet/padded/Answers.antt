use Rattle.std.proofs.Common.{ℕ, List, ◌++◌, ap, drop, length, replicate}
use Rattle.dns_dig.proofs.subnet.padded.Goals as goal

pub returns : goal.returns
returns g c = ap (λ (o : List ℕ). o ++ drop (length c.args.octets.now) (replicate g.row.N 0)) c.copy_from_slice.ensures.after
