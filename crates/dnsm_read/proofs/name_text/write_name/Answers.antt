use Rattle.std.proofs.Common.{refl, rules}
use Rattle.dnsm_status.proofs.theory.SinkLemmas.{printed}
use Rattle.dnsm_read.proofs.name_text.write_name.Goals as goal

pub returns : goal.returns
returns c = printed _ _ _ _ _ (search rules) refl refl (c.in-Ok.ensures.text (search rules))
