use Rattle.dns_stream.proofs.theory.FrameLemmas as lemmas
use Rattle.dns_stream.proofs.laws.partial_frames_can_grow.Goals as goal

pub returns : goal.returns
returns c = record { missing = lemmas.partial_lacks_octets; capacity = lemmas.none_leaves_capacity }
