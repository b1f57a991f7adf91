use Rattle.std.specs.Cmp.{booleans_Decides}
use Rattle.dns_code.proofs.FlagsEquality.{flags_decided}
use Rattle.dns_code.proofs.laws.header_equality.Goals as goal

pub returns-clause-flags : goal.returns-clause-flags
returns-clause-flags c a b = flags_decided _ booleans_Decides a b
