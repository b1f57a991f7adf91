use Rattle.std.proofs.Common.{refl, rules}
use Rattle.dns_print.proofs.Values.{value_printed}
use Rattle.dns_print.proofs.value.write_value.Goals as goal

pub returns : goal.returns
returns g c = value_printed _ _ _ _ _ _ _ (search rules) refl c.write.ensures.writes
