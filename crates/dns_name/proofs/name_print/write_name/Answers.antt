use Rattle.std.proofs.Common.{◌≡◌, ◌∙◌, ◌∷◌, [], ◌++◌, true, ap, sym, rules, refl}
use Rattle.dns_name.specs.ParsedName.{label_octets, labels_left, labels}
use Rattle.dns_name.specs.Names.{with_root}
use Rattle.dns_name.specs.NameTexts.{label_text}
use Rattle.dns_name.proofs.theory.NameLemmas.{parsed_is}
use Rattle.dns_name.proofs.NameTextLemmas.{text_left, all_text_left, one_label_printed}
use Rattle.dns_name.proofs.name_print.write_name.Goals as goal
use Rattle.dns_print.proofs.theory.Prints.{print_none, print_three}

pub loop-label-init : goal.loop-label-init
loop-label-init g c =
    let left : labels_left c.into_iter-label-iterator.result ≡ with_root (labels c.args.name.now) = search rules in (
      tt,
      tt,
      search rules,
      ([], print_none _ _, ap (text_left []) left ∙ all_text_left (labels c.args.name.now) (parsed_is c.args.name.now).labels),
    )

pub loop-label-preserved-then-not-is_root : goal.loop-label-preserved-then-not-is_root
loop-label-preserved-then-not-is_root g c = (
  tt,
  tt,
  search rules,
  (
      let so_far = c.loop-label.invariant.3 in
      let left : labels_left c.loop-label.label-iterator ≡ label_octets c.in-Some.label ∷ labels_left c.next.new.self = search rules in
      let first = c.write_text.ensures.text (search rules) in
      let second = c.write_label.ensures.text (search rules) in (
        so_far.0 ++ (c.loop-label.separator.now ++ label_text (label_octets c.in-Some.label)),
        print_three _ _ _ _ _ _ _ _ _ so_far.1 first second refl,
        one_label_printed so_far.0 _ _ _ _ (λ e. let root : c.is_root.result ≡ true = c.is_root.ensures.1 e in cc)
            (ap (λ ls. so_far.0 ++ text_left c.loop-label.separator.now ls) (sym left) ∙ so_far.2),
      )
      ),
)
