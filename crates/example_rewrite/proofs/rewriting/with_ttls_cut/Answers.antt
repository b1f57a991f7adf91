use Rattle.std.proofs.Common.{◌≡◌, Err, ap, refl, rules, ◌∙◌}
use Rattle.std.proofs.lemmas.Result.{err_from_is_err_and}
use Rattle.dns_message.specs.Targets.{Written}
use Rattle.dns_message.specs.Messages.{message_octets}
use Rattle.dns_message.specs.declared.message.Section.TheVariants.{Answer, Authority, Additional}
use Rattle.dns_message.specs.Builders.{with_copies}
use Rattle.example_rewrite.specs.Rewriting.{begun}
use Rattle.example_rewrite.proofs.Kept.{section_cut}
use Rattle.example_rewrite.proofs.Reasons.{reason}
use Rattle.example_rewrite.proofs.Refusing.{AreFew}
use Rattle.example_rewrite.proofs.rewriting.with_ttls_cut.Goals as goal

pub returns-in_err-copied-clause-reason : goal.returns-in_err-copied-clause-reason
returns-in_err-copied-clause-reason g c =
    let p = err_from_is_err_and c.from_residual-in_err-copied.result c.from_residual-in_err-copied.ensures.1 in
    let few : AreFew (message_octets c.args.message.now) =
    record { answers = c.counts_fit.ensures.answers; authorities = c.counts_fit.ensures.authorities; additionals = c.counts_fit.ensures.additionals } in
    let begins = c.in_ok-builder.ensures.begun in
    rw (p.1 ∙ ap Err p.2) (reason _ _ _ _ _ c.in_err-copied.field-0.0 c.counts_fit.ensures.questions few begins (c.in_err-copied.ensures.copies _ begins) c.in_ok-check.ensures)

pub returns-clause-cut : goal.returns-clause-cut
returns-clause-cut g c =
    let most = c.args.most in
    let all = c.in_ok-copied.ensures.kept _ c.in_ok-builder.ensures.begun in
    let answers = section_cut _ _ most (λ f. f.0.now ≡ most) (λ f shown answer f' h called. search rules) _ Answer _ _ _ all.of_answers refl in
    let authorities = section_cut _ _ most (λ f. f.0.now ≡ most) (λ f shown answer f' h called. search rules) _ Authority _ _ _ all.of_authorities answers.1 in
    let additionals = section_cut _ _ most (λ f. f.0.now ≡ most) (λ f shown answer f' h called. search rules) _ Additional _ _ _ all.of_additionals authorities.1 in
    record {
      readable = c.in_ok-check.ensures;
      state = with_copies all.answers all.authorities all.additionals (begun _);
      octets = c.into_message.ensures.octets ∙ ap (λ (w : Written). w.octets) all.represents.written;
      reads_back = c.into_message.ensures.reads_back _ all.represents;
      header = refl;
      questions = refl;
      answers = answers.0;
      authorities = authorities.0;
      additionals = additionals.0;
    }
