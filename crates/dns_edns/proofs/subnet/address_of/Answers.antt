use Rattle.std.proofs.Common.{◌≡◌, ◌∙◌, ap, sym, subst, arith, ◌++◌, List, ℕ, drop, length, replicate}
use Rattle.std.proofs.lemmas.Bool.{not-false, not-true}
use Rattle.std.proofs.lemmas.Slice.Eq.{bytes_eq-Decides}
use Rattle.dns_edns.specs.KnownOptions.{prefix_octets}
use Rattle.dns_edns.specs.Prefixes.{HasPrefix}
use Rattle.dns_edns.proofs.KindLemmas.{is_padded, none_padded, padded_has, padded}
use Rattle.dns_edns.proofs.subnet.address_of.Goals as goal

pub returns-then-ne : goal.returns-then-ne
returns-then-ne g c = λ v h.
    let copied : c.copy_from_slice.new.self ++ drop (length c.args.prefix.now) (replicate g.row.N 0) ≡ padded g.row.N c.args.prefix.now =
    ap (λ (o : List ℕ). o ++ drop (length c.args.prefix.now) (replicate g.row.N 0)) c.copy_from_slice.ensures.after in
    let same : c.as_slice.result.now ≡ c.args.prefix.now = c.as_slice.ensures.value ∙ c.address_prefix.ensures ∙ ap (prefix_octets c.args.bits) copied ∙ none_padded _ _ _ v h in
    let yes = (bytes_eq-Decides c.as_slice.result.now c.args.prefix.now).1 same in
    let no = not-true _ (sym c.ne.ensures ∙ c.if-ne.true) in
    cc (yes, no)

pub returns : goal.returns
returns g c =
    let copied : c.copy_from_slice.new.self ++ drop (length c.args.prefix.now) (replicate g.row.N 0) ≡ padded g.row.N c.args.prefix.now =
    ap (λ (o : List ℕ). o ++ drop (length c.args.prefix.now) (replicate g.row.N 0)) c.copy_from_slice.ensures.after in
    let equal : c.as_slice.result.now ≡ c.args.prefix.now = (bytes_eq-Decides c.as_slice.result.now c.args.prefix.now).0 (not-false _ (sym c.ne.ensures ∙ c.if-ne.false)) in
    let same : prefix_octets c.args.bits (padded g.row.N c.args.prefix.now) ≡ c.args.prefix.now =
    sym (c.as_slice.ensures.value ∙ c.address_prefix.ensures ∙ ap (prefix_octets c.args.bits) copied) ∙ equal in
    λ v. (
      λ h. copied ∙ is_padded _ _ _ v h,
      λ e. subst (λ (o : List ℕ). HasPrefix g.row.N c.args.bits c.args.prefix.now o) (sym copied ∙ e) (padded_has _ _ _ (omega arith) (omega (arith, c.from.ensures)) same),
    )
