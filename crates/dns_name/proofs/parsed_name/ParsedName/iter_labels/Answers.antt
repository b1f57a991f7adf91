use Rattle.dns_name.proofs.theory.LabelsLemmas.{name_of_size}
use Rattle.dns_name.proofs.parsed_name.ParsedName.iter_labels.Goals as goal

pub new-requires : goal.new-requires
new-requires c = name_of_size _ _ _ _ c.args.self.now.name_at
