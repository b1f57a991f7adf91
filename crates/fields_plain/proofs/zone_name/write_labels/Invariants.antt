use Rattle.std.proofs.Common.{◌≡◌, ◌++◌, List, ℕ}
use Rattle.std.specs.Fmt.{WritesInCalls}
use Rattle.std.specs.List.{flat_map}
use Rattle.dns_name.specs.Names.{with_root}
use Rattle.dns_name.specs.ParsedName.{labels_left, labels}
use Rattle.fields_plain.specs.ZoneNames.{dotted_label}
use Rattle.fields_plain.proofs.zone_name.write_labels.Given as goal

abbrev pub invariant-loop-label : goal.invariant-loop-label
invariant-loop-label g l = record {
  can : (goal.iterator-loop-label g).can_next l.label-iterator;
  finite : (goal.iterator-loop-label g).is_finite l.label-iterator;
  printing : (printed : List ℕ) × WritesInCalls g.W.TextWriter.takes l.fn.f printed l.f
      × (printed ++ flat_map dotted_label (labels_left l.label-iterator) ≡ flat_map dotted_label (with_root (labels l.fn.name)));
}
