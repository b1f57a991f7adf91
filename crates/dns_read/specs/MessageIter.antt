-- What iterating over a message yields: its records, each with its section. RFC 1035 section 4.1.
--
-- `b` is the octets of the message.
use Rattle.std.specs.Bool.{⊤}
use Rattle.std.specs.Iterator.{YieldsFirstBy}
use Rattle.std.specs.Prelude.{◌≡◌, ℕ, ◌⊎◌, List, [], ◌∷◌, Option, Some, None, option_and_then, option_map, IfSome, MatchOption, Result, Ok, Err, IsOk}
use Rattle.std.specs.List.{AllByRecursion}
use Rattle.std.specs.Option.{option_map_or}
use Rattle.dns_name.specs.Names.{Fault, fault_of}
use Rattle.dns_octets.specs.declared.error.ParseError.{ParseError}
use Rattle.dns_item.specs.ParsedRecord.{EncodedRecord, encoded_record, parsed_entry}
use Rattle.dns_item.specs.declared.parsed_record.ParsedRecord.{ParsedRecord}
use Rattle.dns_read.specs.RecordSection.{octets_of, position, section_of, to_come}
use Rattle.dns_read.specs.RecordsFrom.{records_in}
use Rattle.dns_read.specs.Sections.{authority_count, additional_count, record_count, StartsAt, section_after}
use Rattle.dns_read.specs.declared.record_section.RecordSection.{RecordSection}
use Rattle.dns_read.specs.declared.section.Section.{Section}
use Rattle.dns_read.specs.declared.section.Section.TheVariants.{Answer, Authority, Additional}
use Rattle.dns_read.specs.SectionStarts.{start_of}
use Rattle.dns_read.specs.declared.message_iter.MessageIter.{MessageIter}

-- an item: a record with its section, or a fault
abbrev pub Item : Type 0
Item = Result (EncodedRecord × Section) Fault

-- what a result of the iterator says
abbrev pub item_result : Result (ParsedRecord × Section) ParseError → Item
item_result (Ok x) = Ok (encoded_record x.0, x.1)
item_result (Err e) = Err (fault_of e)

-- what follows the fault of a section: the same fault again, but nothing in the additional section
abbrev pub once_more : Section → Fault → List Item
once_more Answer f = Err f ∷ []
once_more Authority f = Err f ∷ []
once_more Additional f = []

-- the items of a section, each record with its section, then those of the sections after it; a fault ends them
abbrev pub in_section : Section → List (Result EncodedRecord Fault) → List Item → List Item
in_section which [] after = after
in_section which (Ok x ∷ xs) after = Ok (x, which) ∷ in_section which xs after
in_section which (Err f ∷ xs) after = Err f ∷ once_more which f

-- the offset where the last record of a reading from p ends
abbrev pub records_end : ℕ → List (Result EncodedRecord Fault) → ℕ
records_end p [] = p
records_end p (Ok x ∷ xs) = records_end x.entry.rdata_end xs
records_end p (Err f ∷ xs) = p

-- at most n records of a section from offset p, then what `follows` gives for the offset where the last of them ends
abbrev pub records_then : Section → List ℕ → ℕ → (ℕ → List Item) → ℕ → List Item
records_then which b n follows p = let xs = records_in b n p in in_section which xs (follows (records_end p xs))

-- the items of the sections after this one, by the offset where the first of them starts
abbrev pub items_after : Section → List ℕ → ℕ → List Item
items_after Answer b = records_then Authority b (authority_count b) (records_then Additional b (additional_count b) (λ _. []))
items_after Authority b = records_then Additional b (additional_count b) (λ _. [])
items_after Additional b = λ _. []

-- at most n records of a section from an offset, then the items of the sections after it
abbrev pub items_in : Section → List ℕ → ℕ → ℕ → List Item
items_in which b n = records_then which b n (items_after which b)

-- the items of this section and of those after it, by the offset where this one starts
abbrev pub items_from : Section → List ℕ → ℕ → List Item
items_from which b = items_in which b (record_count which b)

-- the items of a message: none if the answer section has no start
abbrev pub message_items : List ℕ → List Item
message_items b = option_map_or (items_from Answer b) (start_of Answer b) []

-- what is left of a section and of those after it, by the count of its records to come, or by the error that it yielded
abbrev pub rest_of : Section → List ℕ → Result ℕ ParseError → ℕ → List Item
rest_of which b (Ok n) p = items_in which b n p
rest_of which b (Err e) p = once_more which (fault_of e)

-- what a cursor has left, in its section and those after it
abbrev pub cursor_items : RecordSection → List Item
cursor_items cursor = rest_of (section_of cursor) (octets_of cursor) (to_come cursor) (position cursor)

-- what is left to yield
abbrev pub items_left : MessageIter → List Item
items_left it = option_map_or cursor_items it.cursor []

-- the error that is yielded again, by the section that yielded it; none in the additional section
abbrev pub error_again : Section → Result ℕ ParseError → Option ParseError
error_again which (Ok n) = None
error_again Answer (Err e) = Some e
error_again Authority (Err e) = Some e
error_again Additional (Err e) = None

-- the error of a cursor that is yielded again
abbrev pub cursor_error : RecordSection → Option ParseError
cursor_error cursor = error_again (section_of cursor) (to_come cursor)

-- the error that an iterator yields next, if it yielded that error before
abbrev pub kept_error : MessageIter → Option ParseError
kept_error it = option_and_then cursor_error it.cursor

-- After an error, nothing is left, or the same error is next.
abbrev pub GivesErrorAgain : MessageIter → Option (Result (ParsedRecord × Section) ParseError) → Type 0
GivesErrorAgain new (Some (Ok x)) = ⊤
GivesErrorAgain new (Some (Err e)) = (items_left new ≡ []) ⊎ (kept_error new ≡ Some e)
GivesErrorAgain new None = ⊤

-- the offset after the records that were yielded, or none at the end
abbrev pub position_in : MessageIter → Option ℕ
position_in it = option_map position it.cursor

-- Where the iterator is after a call of `next`: after the record that it yielded. An error leaves it at the record that can't be read; the same error again ends it, and then it is nowhere.
abbrev pub MovesPastItem : MessageIter → MessageIter → Option (Result (ParsedRecord × Section) ParseError) → Type 0
MovesPastItem old new (Some (Ok x)) = position_in new ≡ Some (parsed_entry x.0).rdata_end
MovesPastItem old new (Some (Err e)) = MatchOption (kept_error old) (position_in new ≡ position_in old) (λ _. position_in new ≡ None)
MovesPastItem old new None = position_in new ≡ None

-- an iterator over all items of a message, at the start of the answer section, or at the end if that has no start
pub record BeginsMessage (b : List ℕ) (it : MessageIter) : Type 0 where
  pub items : items_left it ≡ message_items b
  pub starts : position_in it ≡ start_of Answer b

-- what a call of `next` returns, and the iterator after it
pub record GivesNext (old : MessageIter) (result : Option (Result (ParsedRecord × Section) ParseError)) (new : MessageIter) : Type 0 where
  pub steps : YieldsFirstBy item_result items_left old result new
  pub again : IfSome (kept_error old) (λ e. result ≡ Some (Err e))
  pub kept : GivesErrorAgain new result
  pub moves : MovesPastItem old new result

-- If two consecutive calls yield errors, the second error equals the first, including its text.
abbrev pub SecondErrorIsFirst : Type 0
SecondErrorIsFirst = (old mid new : MessageIter) (first second : ParseError) → GivesNext old (Some (Err first)) mid → GivesNext mid (Some (Err second)) new → second ≡ first

-- a reading has no fault
abbrev pub HasNoFault : List (Result EncodedRecord Fault) → Type 0
HasNoFault = AllByRecursion IsOk

-- If the reading of a section has no fault, the next section starts where the last of its records ends, and the items of the sections after it begin there.
abbrev pub SectionsFollow : Type 0
SectionsFollow = (which next : Section) (b : List ℕ) (p : ℕ) → section_after which ≡ Some next → StartsAt which b p
    → let xs = records_in b (record_count which b) p in HasNoFault xs → StartsAt next b (records_end p xs) × (items_after which b (records_end p xs) ≡ items_from next b (records_end p xs))
