-- A message that can be read is copied without an error.
use Rattle.std.proofs.Common.{◌≡◌, ℕ, Bool, List, [], ◌∷◌, subst}
use Rattle.std.specs.Prelude.{Option, None, Result, Ok, Err}
use Rattle.dns_message.specs.declared.wire.ParseError.{ParseError}
use Rattle.dns_message.specs.Names.{Fault}
use Rattle.dns_message.specs.Targets.{Rule}
use Rattle.dns_message.specs.Records.{RecordItem, EncodedRecord, laid_out}
use Rattle.dns_message.specs.declared.record.ParsedRecord.{ParsedRecord}
use Rattle.dns_message.specs.Sections.AnyRecordIter.{every}
use Rattle.dns_message.specs.Sections.{limited, StartFault, StartsAt}
use Rattle.dns_message.specs.declared.message.Section.{Section}
use Rattle.dns_message.specs.declared.message.Section.TheVariants.{Answer, Authority, Additional}
use Rattle.dns_message.proofs.CallerLemmas.{start_or_fault}
use Rattle.dns_message.specs.Builders.{CopiesList, CopiesSection, CopiesSections, none as no_record, copied as record_copied, refused, fault, started}
use Rattle.dns_message.specs.Builders.{unstarted, none as no_section, copied as section_copied, stopped, Stage, State}
use Rattle.dns_message.specs.declared.builder.CopyRecordsError.{CopyRecordsError}
use Rattle.dns_message.specs.declared.builder.CopyRecordsError.TheVariants.{Parse}
use Rattle.dns_message.specs.Fields.{type_layout}
use Rattle.example_rewrite.specs.Rewriting.{MessageReads, SectionReads, first_fault, records_at}

-- a section begins at one offset at most
one_start : (section : Section) (b : List ℕ) (p q : ℕ) → StartsAt section b p → StartsAt section b q → p ≡ q
one_start Answer b p q x y = (start_or_fault.answers b).one p q x y
one_start Authority b p q x y = (start_or_fault.authorities b).one p q x y
one_start Additional b p q x y = (start_or_fault.additionals b).one p q x y

no_start_fault : (section : Section) (b : List ℕ) (p : ℕ) (f : Fault) → StartsAt section b p → StartFault section b f → ⊥
no_start_fault Answer b p f x y = (start_or_fault.answers b).not_both p f x y
no_start_fault Authority b p f x y = (start_or_fault.authorities b).not_both p f x y
no_start_fault Additional b p f x y = (start_or_fault.additionals b).not_both p f x y

-- a reading without a fault has none after its first item
after_first : (r : Result RecordItem Fault) (rest : List (Result RecordItem Fault)) → first_fault (r ∷ rest) ≡ None → first_fault rest ≡ None
after_first (Ok x) rest whole = whole
after_first (Err f) rest whole = absurd (cc)

-- each section of a readable message can be read
pub section_reads : (b : List ℕ) → MessageReads b → (section : Section) → SectionReads b section
section_reads b reads Answer = reads.answers
section_reads b reads Authority = reads.authorities
section_reads b reads Additional = reads.additionals

module _ {F R : Type 0} (call : F → ParsedRecord → Option R → F → Type 0) (item : R → RecordItem) (capacity : Option ℕ) (grows : Bool) (rule : Rule) (e : ParseError) where
  no_fault_in_list : (stage : Stage) {xs : List (Result EncodedRecord Fault)} {f g : F} {s t : State} {result : Result (Unit {0}) CopyRecordsError}
      → CopiesList call item capacity grows rule stage xs f s result g t → result ≡ Err (Parse e) → first_fault (limited (every type_layout) xs) ≡ None → ⊥
  no_fault_in_list stage no_record is whole = absurd (cc)
  no_fault_in_list stage (record_copied {x = x} {xs = xs} one rest) is whole =
      no_fault_in_list stage rest is (after_first (laid_out x (type_layout x.entry.rtype)) (limited (every type_layout) xs) whole)
  no_fault_in_list stage (refused one) is whole = absurd (cc)
  no_fault_in_list stage fault is whole = absurd (cc)

  no_fault_in_section : (b : List ℕ) (section : Section) {f g : F} {s t : State} {result : Result (Unit {0}) CopyRecordsError}
      → CopiesSection call item capacity grows rule b section f s result g t → result ≡ Err (Parse e) → SectionReads b section → ⊥
  no_fault_in_section b section (started p starts copies) is reads =
      no_fault_in_list _ copies is
      (subst (λ p. first_fault (records_at section b p) ≡ None) (one_start section b reads.start p reads.starts starts) reads.records)
  no_fault_in_section b section (unstarted faulty) is reads = no_start_fault section b reads.start _ reads.starts faulty

  -- if each section of a message can be read, copying its sections never fails with a parse error
  pub no_fault : (b : List ℕ) (sections : List Section) {f g : F} {s t : State} {result : Result (Unit {0}) CopyRecordsError}
      → CopiesSections call item capacity grows rule b sections f s result g t → result ≡ Err (Parse e) → ((section : Section) → SectionReads b section) → ⊥
  no_fault b [] no_section is reads = absurd (cc)
  no_fault b (section ∷ sections) (section_copied one rest) is reads = no_fault b sections rest is reads
  no_fault b (section ∷ sections) (stopped one) is reads = no_fault_in_section b section one is (reads section)
