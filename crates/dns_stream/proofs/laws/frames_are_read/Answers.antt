use Rattle.dns_stream.proofs.theory.FrameLemmas as lemmas
use Rattle.dns_stream.proofs.laws.frames_are_read.Goals as goal

pub returns : goal.returns
returns c = record { read = lemmas.frames_are_read; one = lemmas.one_frame }
