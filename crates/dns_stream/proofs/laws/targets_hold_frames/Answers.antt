use Rattle.dns_stream.proofs.theory.FrameLemmas as lemmas
use Rattle.dns_stream.proofs.laws.targets_hold_frames.Goals as goal

pub returns : goal.returns
returns c = record { one = lemmas.targets_hold_frames; all = lemmas.targets_hold_messages }
