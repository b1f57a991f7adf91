use Rattle.std.proofs.Common.{◌≡◌, ◌∷◌, ap, rules}
use Rattle.std.specs.List.{flat_map}
use Rattle.dns_data.specs.Printing.{hex_octet}
use Rattle.dns_name.specs.Names.{framed, with_root}
use Rattle.dns_name.specs.ParsedName.{label_octets, labels, labels_left}
use Rattle.fields_records.proofs.OctetLemmas.{first_digits}
use Rattle.fields_text.proofs.theory.Printing.{none_printed, word_printed}
use Rattle.fields_records.proofs.unknown.write_name.Goals as goal

pub loop-label-init : goal.loop-label-init
loop-label-init g c =
    let left : labels_left c.into_iter-label-iterator.result ≡ with_root (labels c.args.name.now) = search rules in
    record { can = tt; finite = tt; printing = none_printed _ _ _ _ (ap (λ ls. flat_map hex_octet (flat_map framed ls)) left) }

pub loop-label-preserved : goal.loop-label-preserved
loop-label-preserved g c =
    let left : labels_left c.loop-label.label-iterator ≡ label_octets c.in-Some.label ∷ labels_left c.next.new.self = search rules in
    record {
      can = tt;
      finite = tt;
      printing =
          let word = c.write_label.ensures.text (search rules) in
          word_printed _ _ _ _ _ _ _ _ c.loop-label.invariant.printing word
          (first_digits framed (labels_left c.loop-label.label-iterator) (label_octets c.in-Some.label) (labels_left c.next.new.self) left);
    }
