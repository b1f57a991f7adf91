use Rattle.std.proofs.lemmas.Str.{IsUtf8-from_ascii}
use Rattle.dns_print.proofs.octets.write_ascii.Goals as goal

pub returns-in-Err-clause-err : goal.returns-in-Err-clause-err
returns-in-Err-clause-err g c = absurd (c.in-Err.ensures.cases.0 (IsUtf8-from_ascii _ c.requires))
