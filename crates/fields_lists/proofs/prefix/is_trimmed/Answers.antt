use Rattle.std.proofs.Common.{sym}
use Rattle.fields_lists.proofs.PrefixLemmas.{trimmed_by_last}
use Rattle.fields_lists.proofs.prefix.is_trimmed.Goals as goal

pub returns-in-len1-up : goal.returns-in-len1-up
returns-in-len1-up c = sym (trimmed_by_last c.args.octets.now c.in-len1-up.len_at_least)
