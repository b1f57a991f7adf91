use Rattle.std.proofs.Common.{◌≡◌, ◌++◌, map}
use Rattle.dns_message.specs.Sections.RecordIter.{typed_left}
use Rattle.tests_message.specs.Callers.{data_among}
use Rattle.tests_message.specs.Tour.{a_layout, address_parts}
use Rattle.tests_message.proofs.tour.addresses.Given as goal

abbrev pub invariant-loop-record : goal.invariant-loop-record
invariant-loop-record g l =
    map address_parts l.found.items ++ data_among (typed_left a_layout l.record-iterator) ≡ data_among (typed_left a_layout l.initial.record-iterator)
