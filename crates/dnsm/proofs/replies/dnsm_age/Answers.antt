use Rattle.std.proofs.Common.{subst, sym}
use Rattle.dnsm_replies.specs.Ages.{RefusesAge}
use Rattle.dnsm.proofs.replies.dnsm_age.Goals as goal

pub returns-in-Err-clause-refused : goal.returns-in-Err-clause-refused
returns-in-Err-clause-refused c = λ failed. subst (RefusesAge c.args.message.now) (sym c.of_fault.ensures.number) c.in-Err.ensures.refused
