-- What an iterator over all records with parsed RDATA has left. RFC 1035 section 4.1.3.
use Rattle.std.specs.Iterator.{YieldsFirstBy}
use Rattle.std.specs.Prelude.{ℕ, List, Option, Some, Result}
use Rattle.dns_octets.specs.declared.error.ParseError.{ParseError}
use Rattle.dns_name.specs.Names.{Fault}
use Rattle.dns_name.specs.declared.parsed_name.ParsedName.{ParsedName}
use Rattle.dns_wire.specs.Parts.{Part}
use Rattle.dns_data.specs.Layout.{Layout}
use Rattle.dns_item.specs.Items.{RecordItem}
use Rattle.dns_item.specs.TypedRecords.{typed_result}
use Rattle.dns_item.specs.declared.record.Record.{Record}
use Rattle.dns_read.specs.Given.{SkipsTo, YieldsNext}
use Rattle.dns_read.specs.Limited.{limited}
use Rattle.dns_read.specs.RecordSection.{to_come, records_left}
use Rattle.dns_read.specs.Skipping.{KeepsError}
use Rattle.dns_read.specs.declared.any_record_iter.AnyRecordIter.{AnyRecordIter}
use Rattle.dns_read.specs.declared.record_section.RecordSection.{RecordSection}

-- a layout for each record type, so that every type is accepted
abbrev pub every : (ℕ → Layout) → ℕ → Option Layout
every layouts rtype = Some (layouts rtype)

-- the cursor over the records
abbrev pub cursor_of : {D : Type 0} → AnyRecordIter D → RecordSection
cursor_of it = it.cursor

-- what is left to yield, by the layout that the data type gives each record type
abbrev pub typed_left : {D : Type 0} → (ℕ → Layout) → AnyRecordIter D → List (Result RecordItem Fault)
typed_left layouts it = limited (every layouts) (records_left (cursor_of it))

-- what a call of `next` returns, and the iterator after it
pub record GivesNext {D : Type 0} (rtype_of : D → ℕ) (parts_of : D → List Part) (layouts : ℕ → Layout) (old : AnyRecordIter D)
    (result : Option (Result (Record ParsedName D) ParseError)) (new : AnyRecordIter D) : Type 0 where
  pub steps : YieldsFirstBy (typed_result rtype_of parts_of) (typed_left layouts) old result new
  pub moves : SkipsTo (typed_result rtype_of parts_of) (limited (every layouts)) (cursor_of old) (cursor_of new) result
  pub yields : YieldsNext (typed_result rtype_of parts_of) (limited (every layouts)) (records_left (cursor_of old)) (records_left (cursor_of new)) result
  pub kept : KeepsError (to_come (cursor_of new)) result
