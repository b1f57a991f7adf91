use Rattle.std.proofs.Common.{◌∙◌, ap, refl}
use Rattle.std.proofs.lemmas.Result.{err_from_is_err_and}
use Rattle.dns_edns_builder.specs.Gathered.{nothing_gathered}
use Rattle.dns_build.proofs.OptLemmas.{closure_refused, pushes_opt}
use Rattle.dns_build.proofs.opt.Builder+T+AtAdditional.opt.Goals as goal

pub returns-in_err-gather-clause-pushes : goal.returns-in_err-gather-clause-pushes
returns-in_err-gather-clause-pushes g c = λ s represents.
    let p = err_from_is_err_and c.from_residual.result c.from_residual.ensures.1 in
    let e = c.in_err-gather.field-0.0 in
    rw (p.1, p.2) (record {
      g = _;
      outcome = _;
      gathers = record {
        before = c.new-gathered.result;
        after = _;
        fresh = c.new-gathered.ensures ∙ ap nothing_gathered (c.header.ensures s represents);
        called = record { shown = _; shows = refl; left = _; met = c.gather.ensures; leaves = refl };
        left = refl;
      };
      answers = closure_refused _ _ _ _ _ e _ c.in_err-gather.was;
      is_gathered = tt;
      accepted = tt;
    })

pub returns-clause-pushes : goal.returns-clause-pushes
returns-clause-pushes g c = λ s represents.
    pushes_opt _ _ _ _ _ _ _ _ _ c.in_ok-gather.was
    (record {
      before = c.new-gathered.result;
      after = _;
      fresh = c.new-gathered.ensures ∙ ap nothing_gathered (c.header.ensures s represents);
      called = record { shown = _; shows = refl; left = _; met = c.gather.ensures; leaves = refl };
      left = refl;
    })
    (c.push_opt.ensures.pushes s represents)
