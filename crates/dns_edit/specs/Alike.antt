-- What is read of a regular message whose header or letter case was changed. RFC 1035 sections 2.3.3, 4.1 and 4.1.4.
use Rattle.std.specs.Prelude.{◌≡◌, ◌↔◌, ◌≤◌, ℕ, List, length, take, drop, map, Result, Ok, Err}
use Rattle.dns_octets.specs.Octets.{overwritten}
use Rattle.dns_code.specs.HeaderSection.{header_size}
use Rattle.dns_name.specs.Names.{Labels, Fault, FaultAt, IsName, NameAt, lowered, uncompressed}
use Rattle.dns_item.specs.Items.{RecordEntry}
use Rattle.dns_item.specs.Questions.{QuestionItem}
use Rattle.dns_read.specs.QuestionsFrom.{questions_from}
use Rattle.dns_read.specs.RecordsFrom.{records_from}
use Rattle.dns_read.specs.Sections.{question_count, record_count, StartsAt}
use Rattle.dns_read.specs.declared.section.Section.{Section}
use Rattle.dns_edit.specs.Acceptance.{IsRegular}
use Rattle.dns_edit.specs.Case.{AsksFor}
use Rattle.dns_edit.specs.Edits.{ChangesTtls}
use Rattle.dns_edit.specs.Offsets.{RdataNameAt}
use Rattle.dns_edit.specs.Readings.{ReadsNameAlike}

-- At offset p the same name is read in both if it is changed by the function, or the same fault.
pub record ReadsNameAs (named : Labels → Labels) (b c : List ℕ) (p : ℕ) : Type 0 where
  pub before : (name : Labels) → NameAt b p name → (other : Labels) × NameAt c p other × (named other ≡ named name)
  pub after : (name : Labels) → NameAt c p name → (other : Labels) × NameAt b p other × (named other ≡ named name)
  pub faults : (f : Fault) → FaultAt b p f ↔ FaultAt c p f

-- What is read, with its name changed by a function; a fault stays.
abbrev pub named_question : (Labels → Labels) → Result QuestionItem Fault → Result QuestionItem Fault
named_question named (Ok x) = Ok (record x { name = named x.name })
named_question named (Err f) = Err f

abbrev pub named_record : (Labels → Labels) → Result RecordEntry Fault → Result RecordEntry Fault
named_record named (Ok x) = Ok (record x { owner = named x.owner })
named_record named (Err f) = Err f

-- A section begins at the same offset in both, and its records read the same, with their owners changed by the function.
pub record SectionAlike (named : Labels → Labels) (b c : List ℕ) (which : Section) (p : ℕ) : Type 0 where
  pub before : StartsAt which b p
  pub after : StartsAt which c p
  pub records : map (named_record named) (records_from c (record_count which b) p) ≡ map (named_record named) (records_from b (record_count which b) p)

-- The questions and the records of each section read the same in both, with their names changed by the function. So do names in RDATA, to a parser that ends with it.
pub record EntriesAlike (named : Labels → Labels) (b c : List ℕ) : Type 0 where
  pub questions : map (named_question named) (questions_from c (question_count b) header_size) ≡ map (named_question named) (questions_from b (question_count b) header_size)
  pub sections : (which : Section) → (p : ℕ) × SectionAlike named b c which p
  pub rdata : (p end : ℕ) → RdataNameAt b p end → ReadsNameAs named (take end b) (take end c) p

-- A section begins at the same offset in both, and its records read the same.
pub record SectionSame (b c : List ℕ) (which : Section) (p : ℕ) : Type 0 where
  pub before : StartsAt which b p
  pub after : StartsAt which c p
  pub records : records_from c (record_count which b) p ≡ records_from b (record_count which b) p

-- The questions and the records of each section read the same in both. So do names in RDATA, to a parser that ends with it.
pub record EntriesSame (b c : List ℕ) : Type 0 where
  pub questions : questions_from c (question_count b) header_size ≡ questions_from b (question_count b) header_size
  pub sections : (which : Section) → (p : ℕ) × SectionSame b c which p
  pub rdata : (p end : ℕ) → RdataNameAt b p end → ReadsNameAlike (take end b) (take end c) p

-- If a regular message and another differ in the first four octets alone, their entries read the same.
abbrev pub HeaderReadsAlike : Type 0
HeaderReadsAlike = (b c : List ℕ) → IsRegular b → header_size ≤ length b → header_size ≤ length c → drop 4 c ≡ drop 4 b → EntriesSame b c

-- A regular message reads the same, ignoring ASCII case, if the name that it asks for takes the letter case of another.
abbrev pub CaseReadsAlike : Type 0
CaseReadsAlike = (b : List ℕ) (name : Labels) → IsRegular b → IsName name → AsksFor b (uncompressed name)
    → EntriesAlike lowered b (overwritten b header_size (uncompressed name))

-- If the first four octets of a regular message change, it stays regular.
abbrev pub HeaderStaysRegular : Type 0
HeaderStaysRegular = (b c : List ℕ) → IsRegular b → header_size ≤ length b → drop 4 c ≡ drop 4 b → IsRegular c

-- If the name that a regular message asks for takes the letter case of another, the message stays regular.
abbrev pub CaseStaysRegular : Type 0
CaseStaysRegular = (b : List ℕ) (name : Labels) → IsRegular b → IsName name → AsksFor b (uncompressed name) → IsRegular (overwritten b header_size (uncompressed name))

-- If the TTLs of a regular message change, it stays regular.
abbrev pub TtlsStayRegular : Type 0
TtlsStayRegular = (change : ℕ → ℕ) (b c : List ℕ) → IsRegular b → ChangesTtls change b c → IsRegular c
