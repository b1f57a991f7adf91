use Rattle.std.proofs.Common.{arith}
use Rattle.dnsm_status.proofs.theory.CallerLemmas.{moved_text}
use Rattle.dnsm.proofs.texts.dnsm_opcode_text.Goals as goal

pub returns-clause-writes : goal.returns-clause-writes
returns-clause-writes c = moved_text c.finish.ensures.writes (omega arith)
