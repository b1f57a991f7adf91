use Rattle.std.proofs.Common.{refl, rules}
use Rattle.dnsm_status.proofs.theory.SinkLemmas.{printed}
use Rattle.dnsm_status.proofs.words.write_word.Goals as goal

pub returns : goal.returns
returns c = printed _ _ _ _ _ (search rules) refl refl (c.in-Ok.ensures.text (search rules))
