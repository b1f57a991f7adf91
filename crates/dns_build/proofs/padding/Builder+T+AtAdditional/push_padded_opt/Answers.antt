use Rattle.std.proofs.Common.{◌≡◌, ◌∙◌, ◌+◌, ◌<◌, Err, ap, arith, inl, inr, length, rules, subst, sym}
use Rattle.std.proofs.lemmas.Bool.{false≢true}
use Rattle.dns_edns_builder.specs.Gathered.{Gathered, gathered, opt_size}
use Rattle.dns_build.specs.BuilderStates.{push_error}
use Rattle.dns_build.specs.Opt.{PushesOptRecord}
use Rattle.dns_build.specs.Padding.{padded, stays_unpadded}
use Rattle.dns_build.proofs.PaddingLemmas.{length_padded, opt_memory}
use Rattle.dns_build.proofs.padding.Builder+T+AtAdditional.push_padded_opt.Goals as goal

pub overflow_add-unpadded : goal.overflow_add-unpadded
overflow_add-unpadded g c =
    let options = ap length c.option_octets-options.ensures.options in
    let few = c.option_octets-options.ensures.short in
    let size = c.compose_len.ensures in
    let short : length c.as_slice.result.now < 9223372036854775808 = search rules in
    omega (arith, options, few, size, short)

pub pad-requires : goal.pad-requires
pad-requires g c =
    let options = ap length c.option_octets-options.ensures.options in
    let few = c.option_octets-options.ensures.short in
    let size = c.compose_len.ensures in
    let short : length c.as_slice.result.now < 9223372036854775808 = search rules in
    record { within = omega (arith, size); short = omega (arith, options, few, size, short) }

pub returns-in-Err-clause-pushes : goal.returns-in-Err-clause-pushes
returns-in-Err-clause-pushes g c = inl (ap Err (c.from.ensures ∙ ap push_error c.in-Err.ensures.memory))

pub returns-clause-pushes : goal.returns-clause-pushes
returns-clause-pushes g c =
    let same = c.in_default.ensures.padded
    ∙ (λ i. padded c.args.block (c.most.ensures i) (length (c.as_slice.ensures.octets i) + c.compose_len.ensures i) (gathered c.args.opt)) in
    inr (λ s h. subst (λ (all : Gathered). PushesOptRecord g.T.Composer.capacity g.T.Composer.grows g.T.Composer.rule all s c.push_opt.new.self c.push_opt.result) same
    (c.push_opt.ensures.pushes s h))

pub returns-clause-length : goal.returns-clause-length
returns-clause-length g c =
    let same = c.in_default.ensures.padded
    ∙ (λ i. padded c.args.block (c.most.ensures i) (length (c.as_slice.ensures.octets i) + c.compose_len.ensures i) (gathered c.args.opt)) in
    length_padded _ _ g.T.Composer.rule (gathered c.args.opt) c.args.block _ c.args.self.now _ c.push_opt.result c.as_slice.ensures.state
    (λ s h. subst (λ (all : Gathered). PushesOptRecord g.T.Composer.capacity g.T.Composer.grows g.T.Composer.rule all s c.push_opt.new.self c.push_opt.result) same
    (c.push_opt.ensures.pushes s h))

pub returns-in-Err-clause-memory : goal.returns-in-Err-clause-memory
returns-in-Err-clause-memory g c = λ unpadded _.
    let adds = c.in-Err.ensures.adds in
    let same : stays_unpadded c.args.block c.most.result (length c.as_slice.result.now + c.compose_len.result)
    ≡ stays_unpadded c.args.block c.args.self.now.limit (length c.args.self.now.written.octets + opt_size (gathered c.args.opt)) =
    λ i. stays_unpadded c.args.block (c.most.ensures i) (length (c.as_slice.ensures.octets i) + c.compose_len.ensures i) in
    absurd (false≢true (sym adds ∙ same ∙ unpadded))

pub returns-clause-memory : goal.returns-clause-memory
returns-clause-memory g c =
    λ _ is.
    opt_memory g.T.Composer.capacity g.T.Composer.grows g.T.Composer.rule _ c.args.self.now c.push_opt.new.self c.push_opt.result c.as_slice.ensures.state c.push_opt.ensures.pushes is
