-- What the contracts of the proved callers cite.
use Rattle.std.specs.Prelude.{◌≡◌, ◌≤◌, ◌+◌, ◌*◌, ℕ, List, length, map, Option, Some, None, Result, Ok, Err}
use Rattle.std.specs.List.{filter_map}
use Rattle.dns_message.specs.declared.wire.AppendError.{AppendError}
use Rattle.dns_message.specs.Names.{Fault}
use Rattle.dns_message.specs.declared.name.ParsedName.{ParsedName}
use Rattle.dns_message.specs.Data.{Part, Layout}
use Rattle.dns_message.specs.Builders.{Gathered, Gathers, said, fresh, ReadsBack, PointsToLabels, IsShortestOf, State}
use Rattle.dns_message.specs.declared.builder.OptBuilder.{OptBuilder}
use Rattle.dns_message.specs.Records.{RecordEntry, ReadsRecord, RecordItem, GivesTaken}
use Rattle.dns_message.specs.declared.record.Record.{Record}
use Rattle.dns_message.specs.Sections.{limited, records_in, AnswersStart, answer_count}
use Rattle.dns_message.specs.declared.message.Section.{Section}
use Rattle.dns_message.specs.Messages.MessageIter.{Item}
use Rattle.dns_message.specs.Messages.{opt_of, opt_rcode_of}

-- The octets read back as a state's header and items. Each pointer of a name leads to an earlier label, and in at most 16,384 octets no compression of the names is shorter.
pub record IsShortMessage (s : State) (b : List ℕ) : Type 0 where
  pub reads_back : ReadsBack s b
  pub pointers : PointsToLabels s b
  pub shortest : length b ≤ 16384 → IsShortestOf s b

-- the first record of the answer section can be read with RDATA of this type, and this is it
pub record EncodedFirst {D : Type 0} (rtype_of : D → ℕ) (parts_of : D → List Part) (layout : ℕ → Option Layout) (b : List ℕ) (r : Record ParsedName D) : Type 0 where
  pub start : ℕ
  pub starts : AnswersStart b start
  pub end : ℕ
  pub entry : RecordEntry
  pub reads : ReadsRecord b start end entry
  pub gives : GivesTaken rtype_of parts_of b entry (layout entry.rtype) (Ok (Some r))

-- the parts of an item's RDATA, if it can be read
abbrev pub parts_of_item : Result RecordItem Fault → Option (List Part)
parts_of_item (Ok item) = Some item.parts
parts_of_item (Err f) = None

-- the RDATA of the items that can be read
abbrev pub data_among : List (Result RecordItem Fault) → List (List Part)
data_among = filter_map parts_of_item

-- these are, in order, the RDATA of the answers that a data type accepts and that can be read
pub record AreAnswers {D : Type 0} (parts_of : D → List Part) (layout : ℕ → Option Layout) (b : List ℕ) (found : List D) : Type 0 where
  pub start : ℕ
  pub starts : AnswersStart b start
  pub read : map parts_of found ≡ data_among (limited layout (records_in b (answer_count b) start))

-- the section of an item, if it is a record
abbrev pub section_of_item : Item → Option Section
section_of_item (Ok x) = Some x.1
section_of_item (Err f) = None

-- the sections of the records among items, in order
abbrev pub sections_among : List Item → List Section
sections_among = filter_map section_of_item

-- The OPT record of a message has what a closure gathers on a new OPT builder, beside the header of a new message.
pub record SaysWhatIsGathered (call : OptBuilder → Result (Unit {0}) AppendError → OptBuilder → Type 0) (b : List ℕ) : Type 0 where
  pub g : Gathered
  pub gathers : Gathers call fresh.header (Ok tt) g
  pub opt : opt_of b ≡ Some (said g)
  pub rcode : opt_rcode_of b ≡ g.fields.ext * 16 + g.header.rcode
