use Rattle.std.proofs.Common.{subst, rules}
use Rattle.dns_script.specs.OptPlans.{CarriesOut}
use Rattle.dns_script.proofs.PlannedOpts.{opt_stays}
use Rattle.dns_script.proofs.script.stay_in_additional.Goals as goal

pub returns-in-PushOpt : goal.returns-in-PushOpt
returns-in-PushOpt g c _ =
    let plan = c.in-PushOpt.plan in
    opt_stays _ _ _ _ _ _ _ _ _ _ _ _ c.in-PushOpt.is c.reply_of-reply.ensures
    (λ b a b' called. subst (λ x. CarriesOut plan x b' a) called.shows (subst (λ x. CarriesOut plan called.shown.now x a) called.leaves (search rules)))
    c.opt.ensures.refused c.opt.ensures.pushes
