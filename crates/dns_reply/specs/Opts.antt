-- The OPT records of a message. RFC 6891 section 6.1.1.
use Rattle.std.specs.Prelude.{◌==◌, ℕ, Bool, List, filter}
use Rattle.dns_item.specs.ParsedRecord.{EncodedRecord}
use Rattle.dns_read.specs.SectionStarts.{records_of}
use Rattle.dns_read.specs.declared.section.Section.TheVariants.{Additional}
use Rattle.dns_reply.specs.Records.{Records, values}

-- whether a record is an OPT record: its type is 41
abbrev pub is_opt : EncodedRecord → Bool
is_opt x = x.entry.rtype == 41

-- the OPT records of a reading, whatever their RDATA
abbrev pub opts_in : Records → List EncodedRecord
opts_in items = filter is_opt (values items)

-- the OPT records of the additional section of the message `b`
abbrev pub opts_of : List ℕ → List EncodedRecord
opts_of b = opts_in (records_of Additional b)
