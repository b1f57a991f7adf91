use Rattle.std.proofs.Common.{◌≡◌, ◌<◌, ◌∙◌, ap, sym, subst, List, ℕ, get_or, length, arith}
use Rattle.std.proofs.lemmas.Result.{err_from_is_err_and}
use Rattle.dns_edns.proofs.theory.OptionsLemmas.{options_length}
use Rattle.dns_data.specs.Opt.{opt_octets}
use Rattle.dns_item.specs.OptRecord.{opt_data}
use Rattle.dns_edns_builder.proofs.OptionListLemmas.{options_whole}
use Rattle.dns_edns_builder.proofs.theory.OptBuilderLemmas.{AreKept}
use Rattle.dns_edns_builder.proofs.builder.OptBuilder.clone_from.Goals as goal

pub returns-in_err-replace_options-clause-full : goal.returns-in_err-replace_options-clause-full
returns-in_err-replace_options-clause-full g c =
    let p = err_from_is_err_and c.from_residual.result c.from_residual.ensures.1 in
    let opt = opt_data c.args.opt.now in
    let all = options_length (opt_octets opt) opt.options in
    let same : c.octets.result.now ≡ opt_octets opt = c.octets.ensures ∙ ap g.Octs.Octets.octets c.data.ensures ∙ ap (λ o. opt_octets o) c.opt.ensures in
    rw p.1 (omega (arith, c.in_err-replace_options.ensures.full, all, ap length same))

pub invariant_of-self-2 : goal.invariant_of-self-2
invariant_of-self-2 g c =
    let opt = c.opt.result.now in
    let from : c.octets.result.now ≡ opt_octets opt = c.octets.ensures ∙ ap g.Octs.Octets.octets c.data.ensures in
    let is : c.replace_options.new.list.items ≡ opt_octets opt = c.in_ok-replace_options.ensures.ok ∙ from in
    let small : (k : ℕ) → get_or (opt_octets opt) k 0 < 256 = λ k. subst (λ (b : List ℕ). get_or b k 0 < 256) from (c.replace_options.ensures.in_range k) in
    let kept : AreKept (opt_octets opt) = record { listed = opt.options; whole = options_whole (opt_octets opt) small opt.options; short = opt.short } in
    let all = subst (λ (b : List ℕ). AreKept b) (sym is) kept in
    record { listed = all.listed; whole = all.whole; short = all.short }
