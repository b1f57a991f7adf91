use Rattle.dnsm_text.proofs.KeySizes as KeySizes
use Rattle.dnsm_text.proofs.laws.keys_are_short.Goals as goal

pub returns : goal.returns
returns c = KeySizes.keys_are_short
