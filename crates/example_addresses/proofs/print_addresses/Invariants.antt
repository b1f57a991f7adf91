use Rattle.dns_message.specs.Sections.RecordIter.{typed_left}
use Rattle.example_addresses.specs.Addresses.{a_layout, address_line}
use Rattle.dns_message.proofs.CallerLemmas.{Printed}
use Rattle.example_addresses.proofs.print_addresses.Given as goal

abbrev pub invariant-loop-item : goal.invariant-loop-item
invariant-loop-item g l =
    Printed address_line (g.W.Write.contents l.fn.output) (g.W.Write.contents l.output) (typed_left a_layout l.item-iterator) (typed_left a_layout l.initial.item-iterator)
