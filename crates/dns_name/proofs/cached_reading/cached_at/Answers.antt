use Rattle.std.proofs.Common.{arith}
use Rattle.dns_name.specs.ParsedName.{labels}
use Rattle.dns_name.proofs.theory.LabelsLemmas.{short_and_few}
use Rattle.dns_name.proofs.cached_reading.cached_at.Goals as goal

pub overflow_cast-result-2 : goal.overflow_cast-result-2
overflow_cast-result-2 c = let n = short_and_few _ _ _ _ c.args.name.now.name_at in omega (arith, n.0)

pub overflow_cast-result-3 : goal.overflow_cast-result-3
overflow_cast-result-3 c = let n = short_and_few _ _ _ _ c.args.name.now.name_at in omega (arith, n.0, n.1)

pub returns : goal.returns
returns c = λ b encoded known. let n = c.args.name.now.name_at in ((labels c.args.name.now, encoded), n.1, n.2)
