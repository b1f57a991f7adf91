-- What an iterator over the records that a data type accepts has left. RFC 1035 section 4.1.3.
use Rattle.std.specs.Iterator.{YieldsFirstBy}
use Rattle.std.specs.Prelude.{◌≡◌, ℕ, Bool, List, Option, Result}
use Rattle.dns_octets.specs.declared.error.ParseError.{ParseError}
use Rattle.dns_name.specs.Names.{Fault}
use Rattle.dns_name.specs.declared.parsed_name.ParsedName.{ParsedName}
use Rattle.dns_wire.specs.Parts.{Part}
use Rattle.dns_data.specs.Layout.{Layout}
use Rattle.dns_item.specs.Items.{RecordItem}
use Rattle.dns_item.specs.TypedRecords.{typed_result}
use Rattle.dns_item.specs.declared.record.Record.{Record}
use Rattle.dns_read.specs.Given.{SkipsTo, YieldsNext}
use Rattle.dns_read.specs.Limited.{limited_by}
use Rattle.dns_read.specs.RecordSection.{to_come, records_left}
use Rattle.dns_read.specs.Skipping.{KeepsError}
use Rattle.dns_read.specs.declared.record_iter.RecordIter.{RecordIter}
use Rattle.dns_read.specs.declared.record_section.RecordSection.{RecordSection}

-- the cursor over all records
abbrev pub cursor_of : {D : Type 0} → RecordIter D → RecordSection
cursor_of it = it.cursor

-- whether only records of class IN are yielded
abbrev pub takes_in_only : {D : Type 0} → RecordIter D → Bool
takes_in_only it = it.in_only

-- what is left to yield, by the layout that the data type gives the record types it accepts
abbrev pub typed_left : {D : Type 0} → (ℕ → Option Layout) → RecordIter D → List (Result RecordItem Fault)
typed_left layouts it = limited_by layouts (takes_in_only it) (records_left (cursor_of it))

-- what a call of `next` returns, and the iterator after it
pub record GivesNext {D : Type 0} (rtype_of : D → ℕ) (parts_of : D → List Part) (layouts : ℕ → Option Layout) (old : RecordIter D)
    (result : Option (Result (Record ParsedName D) ParseError)) (new : RecordIter D) : Type 0 where
  pub steps : YieldsFirstBy (typed_result rtype_of parts_of) (typed_left layouts) old result new
  pub moves : SkipsTo (typed_result rtype_of parts_of) (limited_by layouts (takes_in_only old)) (cursor_of old) (cursor_of new) result
  pub yields : YieldsNext (typed_result rtype_of parts_of) (limited_by layouts (takes_in_only old)) (records_left (cursor_of old)) (records_left (cursor_of new)) result
  pub kept : KeepsError (to_come (cursor_of new)) result
  pub classes : takes_in_only new ≡ takes_in_only old
