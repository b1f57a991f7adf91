use Rattle.dns_stream.proofs.CallLemmas as lemmas
use Rattle.dns_stream.proofs.laws.calls_give_frames.Goals as goal

pub returns : goal.returns
returns c = record { taken = lemmas.calls_take_frames; frames = lemmas.calls_give_frames; pieces = lemmas.pieces_dont_matter }
