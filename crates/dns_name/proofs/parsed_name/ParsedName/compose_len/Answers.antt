use Rattle.std.proofs.Common.{◌∙◌, ap, sym, arith, ◌+◌}
use Rattle.dns_name.specs.ParsedName.{labels}
use Rattle.dns_name.specs.Unique.{encoded_short}
use Rattle.dns_name.proofs.theory.LabelsLemmas.{length-uncompressed}
use Rattle.dns_name.proofs.parsed_name.ParsedName.compose_len.Goals as goal

pub overflow_add-result : goal.overflow_add-result
overflow_add-result c = let n = c.args.self.now.name_at in omega (arith, n.1, encoded_short n.0.1)

pub returns : goal.returns
returns c = ap (λ n. n + 1) (sym c.args.self.now.name_at.1) ∙ sym (length-uncompressed (labels c.args.self.now))
