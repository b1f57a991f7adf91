use Rattle.std.proofs.Common.{◌≡◌}
use Rattle.dns_message.specs.Sections.AnyRecordIter.{every, typed_left}
use Rattle.dns_message.specs.Sections.{limited}
use Rattle.dns_message.specs.Sections.RecordSection.{records_left}
use Rattle.dns_message.specs.Fields.{type_layout}
use Rattle.example_rewrite.specs.Rewriting.{first_fault}
use Rattle.example_rewrite.proofs.rewriting.check_records.Given as goal

abbrev pub invariant-loop-item : goal.invariant-loop-item
invariant-loop-item l =
    first_fault (typed_left type_layout l.item-iterator) ≡ first_fault (limited (every type_layout) (records_left l.fn.records))
