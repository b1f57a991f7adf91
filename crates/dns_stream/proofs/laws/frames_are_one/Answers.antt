use Rattle.dns_stream.proofs.theory.FrameLemmas.{one_framing, some_framing}
use Rattle.dns_stream.proofs.laws.frames_are_one.Goals as goal

pub returns : goal.returns
returns c = record { some = some_framing; one = one_framing }
