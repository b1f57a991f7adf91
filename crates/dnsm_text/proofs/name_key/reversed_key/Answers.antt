use Rattle.std.proofs.Common.{◌≡◌, ◌∙◌, sym, rules}
use Rattle.dns_name.specs.Names.{with_root}
use Rattle.dns_name.specs.ParsedName.{labels, labels_left}
use Rattle.dns_name.proofs.theory.NameLemmas.{parsed_is}
use Rattle.dnsm_text.proofs.ReversedKeys.{key_begun, root_passed, label_pushed, label_fits, key_done}
use Rattle.dnsm_text.proofs.name_key.reversed_key.Goals as goal

pub loop-label-init : goal.loop-label-init
loop-label-init c =
    let left : labels_left c.into_iter-label-iterator.result ≡ with_root (labels c.args.name.now) = search rules in
    (tt, tt, key_begun _ _ _ (parsed_is c.args.name.now) c.new-key.ensures left)

pub push_label-requires : goal.push_label-requires
push_label-requires c =
    label_fits (labels c.args.name.now) _ _ _ _ c.in-Some.ensures.steps c.loop-label.invariant.2
    (λ e. let root = sym (c.is_root.ensures.1 e) ∙ c.if-not-is_root.true in cc root) _ c.as_slice.ensures (parsed_is c.args.name.now)

pub loop-label-preserved-then-not-is_root : goal.loop-label-preserved-then-not-is_root
loop-label-preserved-then-not-is_root c = (
  tt,
  tt,
  label_pushed (labels c.args.name.now) _ _ _ _ c.in-Some.ensures.steps c.loop-label.invariant.2
      (λ e. let root = sym (c.is_root.ensures.1 e) ∙ c.if-not-is_root.true in cc root) _ c.as_slice.ensures _ c.push_label.ensures,
)

pub loop-label-preserved : goal.loop-label-preserved
loop-label-preserved c =
    (tt, tt, root_passed (labels c.args.name.now) _ _ _ _ c.in-Some.ensures.steps c.loop-label.invariant.2 (c.is_root.ensures.0 c.if-not-is_root.false))

pub returns : goal.returns
returns c = key_done (labels c.args.name.now) _ _ c.in-None.ensures.steps.0 c.loop-label.invariant.2
