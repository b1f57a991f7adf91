-- Whether a message can be read, by the readings of its sections.
use Rattle.std.proofs.Common.{◌≡◌, ◌∙◌, ap, sym, ℕ, List}
use Rattle.std.specs.Prelude.{MatchResult, Option, Some, None, Result, Ok, Err}
use Rattle.dns_message.specs.declared.wire.ParseError.{ParseError}
use Rattle.dns_message.specs.Names.{Fault, fault_of}
use Rattle.dns_message.specs.Sections.AnyRecordIter.{every}
use Rattle.dns_message.specs.Sections.{limited}
use Rattle.dns_message.specs.Sections.QuestionSection.{BeginsQuestions, questions_left}
use Rattle.dns_message.specs.Sections.RecordSection.{BeginsSection, position, records_left}
use Rattle.dns_message.specs.declared.message.QuestionSection.{QuestionSection}
use Rattle.dns_message.specs.declared.message.RecordSection.{RecordSection}
use Rattle.dns_message.specs.declared.message.Section.{Section}
use Rattle.dns_message.specs.declared.message.Section.TheVariants.{Answer, Authority, Additional}
use Rattle.dns_message.specs.Fields.{type_layout}
use Rattle.example_rewrite.specs.Rewriting.{first_fault, HasFault, MessageReads, SectionReads, records_at}

-- the first fault of the remaining records, with their RDATA
abbrev pub fault_left : RecordSection → Option Fault
fault_left cursor = first_fault (limited (every type_layout) (records_left cursor))

module _ (b : List ℕ) (which : Section) (cursor : RecordSection) (begins : BeginsSection which b cursor) where
  first_of_section : first_fault (records_at which b (position cursor)) ≡ fault_left cursor
  first_of_section = ap (λ xs. first_fault (limited (every type_layout) xs)) (sym begins.fresh.records)

  -- a fault of a section is one of the message
  pub faulty_section : (f : Fault) → fault_left cursor ≡ Some f → HasFault b f
  faulty_section f fault = HasFault.in_records which (position cursor) begins.start (first_of_section ∙ fault)

  -- a section without a fault can be read
  pub whole_section : fault_left cursor ≡ None → SectionReads b which
  whole_section whole = record { start = position cursor; starts = begins.start; records = first_of_section ∙ whole }

-- what checking the last section returns, if all sections before it can be read
pub checked : (b : List ℕ) (questions : QuestionSection) (answers authorities additionals : RecordSection) (result : Result (Unit {0}) ParseError)
    → BeginsQuestions b questions → BeginsSection Answer b answers → BeginsSection Authority b authorities → BeginsSection Additional b additionals
    → first_fault (questions_left questions) ≡ None → fault_left answers ≡ None → fault_left authorities ≡ None
    → MatchResult result (λ _. fault_left additionals ≡ None) (λ e. fault_left additionals ≡ Some (fault_of e))
    → MatchResult result (λ _. MessageReads b) (λ e. HasFault b (fault_of e))
checked b questions answers authorities additionals (Ok done) q x y z asked first second third = record {
  questions = ap first_fault (sym q.questions) ∙ asked;
  answers = whole_section b Answer answers x first;
  authorities = whole_section b Authority authorities y second;
  additionals = whole_section b Additional additionals z third;
}
checked b questions answers authorities additionals (Err e) q x y z asked first second third = faulty_section b Additional additionals z (fault_of e) third
