use Rattle.std.proofs.Common.{◌<◌, ap, arith, length, rules, subst, sym}
use Rattle.std.proofs.lemmas.Result.{on_err_weaker}
use Rattle.dns_build.specs.BuilderStates.{Built, Represents}
use Rattle.dns_build.specs.State.{InAdditional, with_limit}
use Rattle.dns_build.specs.ReservedOpt.{reservation}
use Rattle.dns_build.proofs.ReservedOptLemmas.{not_exceeded}
use Rattle.dns_build.proofs.reserved_opt.Builder+T+AtAdditional.push_reserved.Goals as goal

pub returns-clause-fits : goal.returns-clause-fits
returns-clause-fits g c =
    let so_far = c.as_slice-so_far.ensures in
    let same = ap length so_far.octets in
    let short : length c.as_slice-so_far.result.now < 9223372036854775808 = search rules in
    not_exceeded _ _ _ (reservation c.args.reserved) c.args.self.now _ _ (λ s h. c.push_opt.ensures.pushes _ (c.set_push_limit.ensures s h)) so_far.state
    (omega (arith, same, so_far.long)) (omega (arith, same, short))

pub returns-clause-pushes : goal.returns-clause-pushes
returns-clause-pushes g c = λ s h. c.push_opt.ensures.pushes _ (c.set_push_limit.ensures s h)

pub returns-clause-refused : goal.returns-clause-refused
returns-clause-refused g c =
    on_err_weaker c.push_opt.result
    (λ same s h. subst (λ (b : Built). Represents InAdditional g.T.Composer.rule (with_limit c.args.reserved.limit s) b) (sym same) (c.set_push_limit.ensures s h)) c.push_opt.ensures.refused
