use Rattle.std.proofs.Common.{rules, arith}
use Rattle.dns_name.proofs.theory.LabelsLemmas.{name_encoded, short_and_few}
use Rattle.dns_name.proofs.theory.Names.{one_name, not_both}
use Rattle.dns_name.proofs.cached_reading.parse_cached.Goals as goal

pub returns-in_err-extent-clause-name : goal.returns-in_err-extent-clause-name
returns-in_err-extent-clause-name c other x = absurd (not_both _ _ other _ x c.in_err-extent.ensures.arrives)

pub overflow_cast-result : goal.overflow_cast-result
overflow_cast-result c = let n = short_and_few _ _ _ _ c.in_ok-extent.ensures.arrives.name in omega (arith, n.0)

pub overflow_cast-result-2 : goal.overflow_cast-result-2
overflow_cast-result-2 c = let n = short_and_few _ _ _ _ c.in_ok-extent.ensures.arrives.name in omega (arith, n.0, n.1)

pub returns-clause-name : goal.returns-clause-name
returns-clause-name c other x = one_name _ _ _ other (search (rules, name_encoded)) x
