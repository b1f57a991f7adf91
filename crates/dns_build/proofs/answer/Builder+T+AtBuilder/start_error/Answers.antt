use Rattle.std.proofs.Common.{inl, inr}
use Rattle.dns_build.proofs.AnswerLemmas.{takes_either}
use Rattle.dns_build.proofs.answer.Builder+T+AtBuilder.start_error.Goals as goal

pub returns-in-Ok : goal.returns-in-Ok
returns-in-Ok g c s represents = takes_either _ _ _ _ _ _ _ (inl c.in-Ok.is) (c.try_start_answer.ensures s represents)

pub returns-in-Err : goal.returns-in-Err
returns-in-Err g c s represents = takes_either _ _ _ _ _ _ _ (inr c.in-Err.is) (c.try_start_answer.ensures s represents)
