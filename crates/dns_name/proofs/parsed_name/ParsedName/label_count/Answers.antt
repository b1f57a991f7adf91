use Rattle.std.proofs.Common.{◌∙◌, ap, sym, ◌+◌}
use Rattle.dns_name.specs.ParsedName.{labels}
use Rattle.dns_name.proofs.theory.LabelsLemmas.{length-with_root}
use Rattle.dns_name.proofs.parsed_name.ParsedName.label_count.Goals as goal

pub returns : goal.returns
returns c = ap (λ n. n + 1) (sym c.args.self.now.name_at.2) ∙ sym (length-with_root (labels c.args.self.now))
