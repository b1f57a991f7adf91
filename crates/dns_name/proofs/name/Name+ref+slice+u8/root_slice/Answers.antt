use Rattle.std.proofs.Common.{rules}
use Rattle.dns_name.proofs.theory.UncompressedNames.{root_whole, whole_is_root}
use Rattle.dns_name.proofs.name.Name+ref+slice+u8.root_slice.Goals as goal

pub invariant_of-result : goal.invariant_of-result
invariant_of-result c = record { whole = root_whole }

pub returns : goal.returns
returns c = search (rules, whole_is_root)
