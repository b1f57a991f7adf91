use Rattle.std.specs.List.{flat_map}
use Rattle.dns_data.specs.Printing.{hex_octet}
use Rattle.dns_name.specs.Names.{framed, uncompressed}
use Rattle.dns_name.specs.ParsedName.{labels_left, labels}
use Rattle.fields_text.proofs.theory.Printing.{Printing}
use Rattle.fields_records.proofs.unknown.write_name.Given as goal

abbrev pub invariant-loop-label : goal.invariant-loop-label
invariant-loop-label g l = record {
  can : (goal.iterator-loop-label g).can_next l.label-iterator;
  finite : (goal.iterator-loop-label g).is_finite l.label-iterator;
  printing : Printing g.W.TextWriter.takes l.fn.f l.f (flat_map hex_octet (flat_map framed (labels_left l.label-iterator))) (flat_map hex_octet (uncompressed (labels l.fn.name)));
}
