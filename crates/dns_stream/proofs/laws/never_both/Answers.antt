use Rattle.dns_stream.proofs.theory.FrameLemmas as lemmas
use Rattle.dns_stream.proofs.laws.never_both.Goals as goal

pub returns : goal.returns
returns c = lemmas.never_both
