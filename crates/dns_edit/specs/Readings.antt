-- What is read of a message whose TTLs were changed in place. RFC 1035 sections 4.1 and 4.1.4.
use Rattle.std.specs.Prelude.{◌≡◌, ◌↔◌, ◌<◌, ℕ, ◌+◌, List, length, get_or, take, slice_range, map, cond, Result, Ok, Err}
use Rattle.dns_code.specs.HeaderSection.{header_size}
use Rattle.dns_item.specs.Items.{RecordEntry, SkipsRecord}
use Rattle.dns_read.specs.Reading.{Skipped}
use Rattle.std.specs.Int.{w16}
use Rattle.dns_name.specs.Parsers.{number_at}
use Rattle.dns_wire.specs.Parts.{Part}
use Rattle.dns_data.specs.Layout.{DataAt}
use Rattle.fields_table.specs.FieldData.{type_layout}
use Rattle.dns_edit.specs.Rdata.{DataApart}
use Rattle.dns_read.specs.QuestionsFrom.{questions_from}
use Rattle.dns_read.specs.RecordsFrom.{records_from}
use Rattle.dns_read.specs.Sections.{question_count, record_count, StartsAt}
use Rattle.dns_read.specs.declared.section.Section.{Section}
use Rattle.dns_name.specs.Names.{Labels, NameAt, Fault, FaultAt}
use Rattle.dns_edit.specs.Ttls.{Computes, GivesTtls, holds_ttl, record_total, with_ttls}
use Rattle.dns_edit.specs.Uses.{NameApart}
use Rattle.dns_edit.specs.Edits.{ChangesTtls, NamesAvoid}

-- At offset p the same name is read in both, or the same fault.
pub record ReadsNameAlike (b c : List ℕ) (p : ℕ) : Type 0 where
  pub names : (name : Labels) → NameAt b p name ↔ NameAt c p name
  pub faults : (f : Fault) → FaultAt b p f ↔ FaultAt c p f

-- A name that uses no octet of the fields reads the same after their TTLs are changed. The number of octets stays.
abbrev pub NamesReadAlike : Type 0
NamesReadAlike = (change : ℕ → ℕ) (b fields : List ℕ) → NamesAvoid b fields
    → (length (with_ttls change fields b) ≡ length b) × ((p : ℕ) → NameApart b fields p → ReadsNameAlike b (with_ttls change fields b) p)

-- Each number fits an octet.
abbrev pub FitInOctets : List ℕ → Type 0
FitInOctets b = (k : ℕ) → get_or b k 0 < 256

-- What is read of a record, with its TTL changed by a function if it has one.
abbrev pub with_changed_ttl : (ℕ → ℕ) → RecordEntry → RecordEntry
with_changed_ttl change x = record {
  owner = x.owner;
  rtype = x.rtype;
  class = x.class;
  ttl = cond (holds_ttl x.rtype) (change x.ttl) x.ttl;
  rdata_start = x.rdata_start;
  rdata_end = x.rdata_end;
}

-- An item of a reading, with its TTL changed; a fault stays.
abbrev pub with_changed_item : (ℕ → ℕ) → Result RecordEntry Fault → Result RecordEntry Fault
with_changed_item change (Ok x) = Ok (with_changed_ttl change x)
with_changed_item change (Err f) = Err f

-- A section begins at the same offset in both, and its records read the same but for their TTLs.
pub record SectionReadsAlike (change : ℕ → ℕ) (b c : List ℕ) (which : Section) (p : ℕ) : Type 0 where
  pub before : StartsAt which b p
  pub after : StartsAt which c p
  pub records : records_from c (record_count which b) p ≡ map (with_changed_item change) (records_from b (record_count which b) p)

-- The message `c` reads as the message `b`: the header section and the questions the same, and each section of records the same but for the TTLs.
pub record ReadsAlike (change : ℕ → ℕ) (b c : List ℕ) : Type 0 where
  pub header : take header_size c ≡ take header_size b
  pub questions : questions_from c (question_count b) header_size ≡ questions_from b (question_count b) header_size
  pub sections : (which : Section) → (p : ℕ) × SectionReadsAlike change b c which p

-- If what is given for each TTL is a function of it, only the TTLs are changed, by the function, and the message reads as before but for them.
abbrev pub ReadsMapped : (ℕ → ℕ → Type 0) → List ℕ → List ℕ → Type 0
ReadsMapped Gives b c = (change : ℕ → ℕ) → Computes Gives change → ChangesTtls change b c × ReadsAlike change b c

-- A message whose TTLs were changed in place, by a function from TTLs to TTLs, reads as before but for the TTLs.
abbrev pub ChangedReadsAlike : Type 0
ChangedReadsAlike = (change : ℕ → ℕ) (b fields : List ℕ) → GivesTtls change → FitInOctets b → NamesAvoid b fields → ReadsAlike change b (with_ttls change fields b)

-- The RDATA from `start` to `end` has the same octets in both, and each name that uses no octet of the fields reads the same to a parser that ends with the RDATA.
pub record DataReadsAlike (b c fields : List ℕ) (start end : ℕ) : Type 0 where
  pub octets : slice_range c start end ≡ slice_range b start end
  pub names : (p : ℕ) → NameApart b fields p → ReadsNameAlike (take end b) (take end c) p

-- This holds for the RDATA of each record of the message, here the record after k others.
abbrev pub RdataReadsAlike : Type 0
RdataReadsAlike = (change : ℕ → ℕ) (b fields : List ℕ) (avoid : NamesAvoid b fields) (k p q : ℕ) → k < record_total b
    → Skipped (SkipsRecord b) k avoid.start p → (s : SkipsRecord b p q)
    → DataApart b fields (number_at w16 b s.name_end) (s.name_end + 10) q × DataReadsAlike b (with_ttls change fields b) fields (s.name_end + 10) q

-- The RDATA of each record of the message has the layout of its type in both messages, with the same parts, or in neither.
abbrev pub RdataLaidOutAlike : Type 0
RdataLaidOutAlike = (change : ℕ → ℕ) (b fields : List ℕ) (avoid : NamesAvoid b fields) (k p q : ℕ) → k < record_total b
    → Skipped (SkipsRecord b) k avoid.start p → (s : SkipsRecord b p q) → let layout = type_layout (number_at w16 b s.name_end) in
    let start = s.name_end + 10 in
    (r : ℕ) (parts : List Part) → DataAt (take q b) layout start r parts ↔ DataAt (take q (with_ttls change fields b)) layout start r parts
