use Rattle.dns_name.specs.Parsers.{seen, offset, MovesTo}
use Rattle.dns_item.specs.Items.{SkipsRecord}
use Rattle.dns_read.specs.Reading.{Skipped}
use Rattle.dns_read.proofs.record_section.skip_records.Given as goal

abbrev pub invariant-loop-record : goal.invariant-loop-record
invariant-loop-record l =
    Skipped (SkipsRecord (seen l.fn.parser)) l._record (offset l.fn.parser) (offset l.parser) × MovesTo l.fn.parser l.parser (offset l.parser)
