use Rattle.std.proofs.Common.{arith}
use Rattle.dnsm_status.specs.declared.code.CallError.TheVariants.{NoRoom}
use Rattle.dnsm_status.proofs.theory.CallerLemmas.{moved_text, refused_text}
use Rattle.dnsm.proofs.rdata.dnsm_data_text.Goals as goal

pub returns-in-Ok-clause-reported : goal.returns-in-Ok-clause-reported
returns-in-Ok-clause-reported c = λ fails. (NoRoom, c.finish.ensures.fault fails)

pub returns-in-Ok-clause-writes : goal.returns-in-Ok-clause-writes
returns-in-Ok-clause-writes c = moved_text c.finish.ensures.writes (omega arith)

pub returns-in-Err-clause-writes : goal.returns-in-Err-clause-writes
returns-in-Err-clause-writes c = moved_text (refused_text c.data.new.out _ _ c.refuse.ensures.empty _ c.refuse.ensures.code) (omega arith)
