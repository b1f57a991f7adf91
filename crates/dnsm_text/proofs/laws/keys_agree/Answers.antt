use Rattle.dnsm_text.proofs.KeyLemmas as KeyLemmas
use Rattle.dnsm_text.proofs.laws.keys_agree.Goals as goal

pub returns : goal.returns
returns c = KeyLemmas.keys_agree
