use Rattle.std.proofs.Common.{ap}
use Rattle.std.specs.Prelude.{option_map}
use Rattle.dns_message.specs.Builders.{gathered}
use Rattle.example_response.proofs.Ending.{ended_refused, ended_with, ended_without}
use Rattle.example_response.proofs.response.ended.Goals as goal

pub returns-in_default-clause-ok : goal.returns-in_default-clause-ok
returns-in_default-clause-ok c = λ s h.
    ended_without c.args.builder _ (ap (option_map gathered) c.in_default.is) s h _ _ (c.release.ensures.released s h) c.release.ensures.fits c.into_message.ensures.octets

pub returns-in-Ok-clause-ok : goal.returns-in-Ok-clause-ok
returns-in-Ok-clause-ok c = λ s h.
    ended_with c.args.builder _ (gathered c.in-Some.opt) (ap (option_map gathered) c.in-Some.is) s _ _ (c.in-Ok.ensures.pushes s h) c.into_message-in-Ok.ensures.octets

pub returns-clause-err : goal.returns-clause-err
returns-clause-err c = λ s h.
    ended_refused c.args.builder _ (gathered c.in-Some.opt) (ap (option_map gathered) c.in-Some.is) s _ c.in-Err.error (c.in-Err.ensures.pushes s h) c.in-Err.ensures.fits
