-- What a successful copy of a message's records leaves: the builder's own items, and the records that the closure returned. It follows from CopyRecords.antt. RFC 1035 section 4.1.
use Rattle.std.specs.Prelude.{ℕ, List, [], ◌∷◌, ◌++◌, Option, Some, None, Result, Ok}
use Rattle.dns_name.specs.Names.{Fault}
use Rattle.dns_wire.specs.Encoders.{Rule}
use Rattle.dns_item.specs.Items.{RecordItem}
use Rattle.dns_item.specs.ParsedRecord.{EncodedRecord, encoded_record}
use Rattle.dns_item.specs.declared.parsed_record.ParsedRecord.{ParsedRecord}
use Rattle.dns_read.specs.RecordsFrom.{records_in}
use Rattle.dns_read.specs.Sections.{StartsAt, record_count}
use Rattle.dns_read.specs.declared.section.Section.{Section}
use Rattle.dns_read.specs.declared.section.Section.TheVariants.{Answer, Authority, Additional}
use Rattle.dns_build.specs.State.{InAdditional, State}
use Rattle.dns_build.specs.BuilderStates.{Built, Represents}

-- the state at the additional section, with `xs` after its answers, and with the authority records `ys` and the additional records `zs`
abbrev pub with_copies : List RecordItem → List RecordItem → List RecordItem → State → State
with_copies xs ys zs s = record s { stage = InAdditional; answers = s.answers ++ xs; authorities = ys; additionals = zs }

-- `call f x r g` says that the closure in state `f`, called on the record `x`, returns `r` and is then in state `g`. `item r` is the record to push for `r`.
module _ {F R : Type 0} (call : F → ParsedRecord → Option R → F → Type 0) (item : R → RecordItem) where
  -- The reading has no fault. The closure is called on each of its records in order, and the items are the records that it returns.
  pub data Keeps : List (Result EncodedRecord Fault) → F → List RecordItem → F → Type 0 where
    none : {f : F} → Keeps [] f [] f
    dropped : {xs : List (Result EncodedRecord Fault)} {items : List RecordItem} {f g h : F} (shown : ParsedRecord)
        → call f shown None g → Keeps xs g items h → Keeps (Ok (encoded_record shown) ∷ xs) f items h
    kept : {xs : List (Result EncodedRecord Fault)} {items : List RecordItem} {f g h : F} (shown : ParsedRecord) (outcome : R)
        → call f shown (Some outcome) g → Keeps xs g items h → Keeps (Ok (encoded_record shown) ∷ xs) f (item outcome ∷ items) h

  -- the same for a section of the message, read from its start
  pub record KeepsSection (b : List ℕ) (section : Section) (f : F) (items : List RecordItem) (g : F) : Type 0 where
    pub start : ℕ
    pub starts : StartsAt section b start
    pub keeps : Keeps (records_in b (record_count section b) start) f items g

  -- The records that the closure returns for each section of the message are in that section of the builder. The closure keeps its state from one section to the next.
  pub record KeepsAll (rule : Rule) (b : List ℕ) (f : F) (s : State) (new : Built) : Type 0 where
    pub answers : List RecordItem
    pub authorities : List RecordItem
    pub additionals : List RecordItem
    pub after_answers : F
    pub after_authorities : F
    pub last : F
    pub of_answers : KeepsSection b Answer f answers after_answers
    pub of_authorities : KeepsSection b Authority after_answers authorities after_authorities
    pub of_additionals : KeepsSection b Additional after_authorities additionals last
    pub represents : Represents InAdditional rule (with_copies answers authorities additionals s) new
