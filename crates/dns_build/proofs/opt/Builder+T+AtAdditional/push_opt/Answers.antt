use Rattle.std.proofs.Common.{◌≡◌, ◌∙◌, ℕ, [], ◌∷◌, ap, subst, refl, length}
use Rattle.std.specs.Prelude.{Ok, Err}
use Rattle.std.proofs.lemmas.Result.{err_from_is_err_and}
use Rattle.dns_edns_builder.specs.Gathered.{gathered}
use Rattle.dns_item.specs.Items.{RecordItem}
use Rattle.dns_wire.specs.Parts.Part.{Octets}
use Rattle.dns_code.specs.Header.{HeaderFields, fields}
use Rattle.dns_build.specs.Opt.{opt_record, with_rcode}
use Rattle.dns_build.specs.State.{State, InAdditional, with_record, with_header}
use Rattle.dns_build.specs.BuilderStates.{PushReturns, size_after, Represents}
use Rattle.dns_build.proofs.OptLemmas.{same_item}
use Rattle.dns_build.proofs.opt.Builder+T+AtAdditional.push_opt.Goals as goal

pub returns-in_err-push-clause-pushes : goal.returns-in_err-push-clause-pushes
returns-in_err-push-clause-pushes g c = λ s represents.
    let p = err_from_is_err_and c.from_residual.result c.from_residual.ensures.1 in
    let e = c.in_err-push.field-0.0 in
    let made = c.record_of.ensures in
    let same = same_item _ (gathered c.args.opt.now) made.owner refl made.class made.ttl (ap (λ os. Octets os ∷ []) made.options) in
    let size : RecordItem → ℕ = λ x. size_after g.T.Composer.rule (with_record InAdditional x) s in
    rw (p.1, p.2) (record {
      outcome = subst (λ x. PushReturns g.T.Composer.capacity g.T.Composer.grows s.limit (size x) (length s.additionals) (Err e)) same (c.in_err-push.ensures.outcome.each s represents);
      is_gathered = made.is_gathered;
      accepted = tt;
    })

pub returns-clause-pushes : goal.returns-clause-pushes
returns-clause-pushes g c = λ s represents.
    let all = gathered c.args.opt.now in
    let made = c.record_of.ensures in
    let same = same_item _ all made.owner refl made.class made.ttl (ap (λ os. Octets os ∷ []) made.options) in
    let size : RecordItem → ℕ = λ x. size_after g.T.Composer.rule (with_record InAdditional x) s in
    let pushed : State = with_record InAdditional (opt_record all) s in
    let there = subst (λ x. Represents InAdditional g.T.Composer.rule (with_record InAdditional x s) c.push.new.self) same (c.in_ok-push.ensures.accepted s represents) in
    let rcode : c.rcode.result ≡ all.header.rcode = c.rcode.ensures ∙ ap (λ f. f.rcode) c.header-2.ensures in
    let header : fields c.with_rcode.result ≡ with_rcode all.header.rcode s.header = c.with_rcode.ensures ∙ (λ i. with_rcode (rcode i) (c.header.ensures pushed there i)) in
    record {
      outcome = subst (λ x. PushReturns g.T.Composer.capacity g.T.Composer.grows s.limit (size x) (length s.additionals) (Ok tt)) same (c.in_ok-push.ensures.outcome.each s represents);
      is_gathered = made.is_gathered;
      accepted = subst (λ (header : HeaderFields). Represents InAdditional g.T.Composer.rule (with_header header pushed) c.set_header.new.self) header (c.set_header.ensures pushed there);
    }
