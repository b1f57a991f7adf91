use Rattle.dnsm_text.proofs.KeyLemmas as KeyLemmas
use Rattle.dnsm_text.proofs.laws.keys_are_ordered.Goals as goal

pub returns : goal.returns
returns c = KeyLemmas.keys_are_ordered
