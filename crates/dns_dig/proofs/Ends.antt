-- Where the records of a section end.
use Rattle.std.proofs.Common.{◌≡◌, ◌∙◌, ℕ, true, false, List, [], ◌∷◌, ap, sym, Some, None}
use Rattle.std.specs.Prelude.{Result, Ok, Err, is_ok, option_and_then}
use Rattle.dns_name.specs.Names.{Fault}
use Rattle.dns_octets.specs.declared.error.ParseError.{ParseError}
use Rattle.dns_item.specs.ParsedRecord.{EncodedRecord}
use Rattle.dns_item.specs.declared.parsed_record.ParsedRecord.{ParsedRecord}
use Rattle.dns_read.specs.RecordSection.{position, record_result, records_left, BeginsSection, MovesPastRecord}
use Rattle.dns_read.specs.RecordsFrom.{records_in}
use Rattle.dns_read.specs.Sections.{record_count, AdditionalsFault}
use Rattle.dns_read.specs.declared.record_section.RecordSection.{RecordSection}
use Rattle.dns_read.specs.declared.section.Section.TheVariants.{Additional}
use Rattle.dns_read.proofs.theory.SectionStartLemmas.{start_found, no_additionals}
use Rattle.dns_dig.specs.Header.{end_of, message_end}

-- If the first of the remaining records can be read, the cursor is after it.
pub next_end : (old new : RecordSection) (r : Result ParsedRecord ParseError) (rest : List (Result EncodedRecord Fault)) → records_left old ≡ record_result r ∷ rest → MovesPastRecord old new (Some r)
    → is_ok r ≡ true → end_of (position old) (records_left old) ≡ end_of (position new) rest
next_end old new (Ok r) rest is moves ok = ap (end_of (position old)) is ∙ ap (λ p. end_of p rest) moves.0.rdata_end
next_end old new (Err e) rest is moves ok = cc

-- If it can't, there is no end.
pub no_end : (old : RecordSection) (r : Result ParsedRecord ParseError) (rest : List (Result EncodedRecord Fault)) → records_left old ≡ record_result r ∷ rest → is_ok r ≡ false
    → end_of (position old) (records_left old) ≡ None
no_end old (Ok r) rest is ok = cc
no_end old (Err e) rest is ok = ap (end_of (position old)) is

-- If no record is left, it is where the cursor is.
pub end_here : (old : RecordSection) → records_left old ≡ [] → end_of (position old) (records_left old) ≡ Some (position old)
end_here old none = ap (end_of (position old)) none

-- The end of a message, if its additional section has a start.
pub end_found : (b : List ℕ) (section : RecordSection) → BeginsSection Additional b section → end_of (position section) (records_left section) ≡ message_end b
end_found b section begins =
    ap (end_of (position section)) begins.fresh.records
    ∙ sym (ap (option_and_then (λ start. end_of start (records_in b (record_count Additional b) start))) (start_found Additional b (position section) begins.start))

-- It has none if the section has none.
pub end_missing : (b : List ℕ) (f : Fault) → AdditionalsFault b f → None ≡ message_end b
end_missing b f fault = sym (ap (option_and_then (λ start. end_of start (records_in b (record_count Additional b) start))) (no_additionals b f fault))
