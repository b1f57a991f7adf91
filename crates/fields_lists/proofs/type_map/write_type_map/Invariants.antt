use Rattle.std.proofs.Common.{length}
use Rattle.fields_text.proofs.theory.Printing.{Printing}
use Rattle.fields_lists.specs.TypeMaps.{map_types, types_text}
use Rattle.fields_lists.proofs.type_map.write_type_map.Given as goal

abbrev pub invariant-windows : goal.invariant-windows
invariant-windows g l = Printing g.W.TextWriter.takes l.fn.f l.f (types_text (map_types l.left)) (types_text (map_types l.fn.octets))

abbrev pub decreases-windows : goal.decreases-windows
decreases-windows g l = length l.left
