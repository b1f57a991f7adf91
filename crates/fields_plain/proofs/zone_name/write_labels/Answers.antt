use Rattle.std.proofs.Common.{◌≡◌, ◌∙◌, ◌∷◌, [], ◌++◌, List, ℕ, ap, append_assoc, refl, rules, sym}
use Rattle.std.specs.List.{flat_map}
use Rattle.dns_name.specs.Names.{with_root}
use Rattle.dns_name.specs.ParsedName.{label_octets, labels_left, labels}
use Rattle.dns_print.proofs.theory.Prints.{print_none, print_two}
use Rattle.fields_plain.specs.ZoneNames.{dotted_label}
use Rattle.fields_plain.proofs.zone_name.write_labels.Goals as goal

pub loop-label-init : goal.loop-label-init
loop-label-init g c =
    let left : labels_left c.into_iter-label-iterator.result ≡ with_root (labels c.args.name.now) = search rules in
    record {
      can = tt;
      finite = tt;
      printing = ([], print_none _ _, ap (flat_map dotted_label) left);
    }

pub loop-label-preserved : goal.loop-label-preserved
loop-label-preserved g c =
    let left : labels_left c.loop-label.label-iterator ≡ label_octets c.in-Some.label ∷ labels_left c.next.new.self = search rules in
    let so_far = c.loop-label.invariant.printing in
    let word = c.write_dotted.ensures.text (search rules) in
    let text = dotted_label (label_octets c.in-Some.label) in
    let after = flat_map dotted_label (labels_left c.next.new.self) in
    record {
      can = tt;
      finite = tt;
      printing = (
        so_far.0 ++ text,
        print_two _ _ _ _ _ _ _ so_far.1 word refl,
        append_assoc so_far.0 text after ∙ ap (λ (l : List ℕ). so_far.0 ++ l) (sym (ap (flat_map dotted_label) left)) ∙ so_far.2,
      );
    }
