use Rattle.dns_read.proofs.theory.SectionStartLemmas.{starts_are_found}
use Rattle.dns_read.proofs.search_laws.starts_are_found.Goals as goal

pub returns : goal.returns
returns c = starts_are_found
