-- What cursors over sections have left is the reading of the message.
use Rattle.std.proofs.Common.{◌≡◌, ◌∙◌, ℕ, List, Some, None, ap, sym}
use Rattle.std.specs.Prelude.{Result, Ok, Err, IfOk, IfErr, option_map}
use Rattle.dns_name.specs.Names.{Fault, fault_of}
use Rattle.dns_octets.specs.declared.error.ParseError.{ParseError}
use Rattle.dns_read.specs.RecordSection.{position, BeginsSection}
use Rattle.dns_read.specs.RecordsFrom.{records_in}
use Rattle.dns_read.specs.SectionStarts.{start_of}
use Rattle.dns_read.specs.Sections.{record_count, AnswersFault, AuthoritiesFault, AdditionalsFault}
use Rattle.dns_read.specs.declared.record_section.RecordSection.{RecordSection}
use Rattle.dns_read.specs.declared.section.Section.{Section}
use Rattle.dns_read.specs.declared.section.Section.TheVariants.{Answer, Authority, Additional}
use Rattle.dns_read.proofs.theory.SectionStartLemmas.{start_found, no_answers, no_authorities, no_additionals}
use Rattle.dns_json.specs.Cursors.{reading_left}
use Rattle.dns_json.specs.Messages.{reading_of}

section_read : (which : Section) (b : List ℕ) (FaultBefore : Fault → Type 0) → ((f : Fault) → FaultBefore f → start_of which b ≡ None)
    → (r : Result RecordSection ParseError) → IfOk r (BeginsSection which b) → IfErr r (λ e. FaultBefore (fault_of e)) → reading_left r ≡ reading_of which b
section_read which b FaultBefore none (Ok section) begins fault =
    ap Some begins.fresh.records ∙ sym (ap (option_map (records_in b (record_count which b))) (start_found which b (position section) begins.start))
section_read which b FaultBefore none (Err e) begins fault = sym (ap (option_map (records_in b (record_count which b))) (none (fault_of e) fault))

-- The answer section.
pub answers_read : (b : List ℕ) (r : Result RecordSection ParseError) → IfOk r (BeginsSection Answer b) → IfErr r (λ e. AnswersFault b (fault_of e)) → reading_left r ≡ reading_of Answer b
answers_read b r begins fault = section_read Answer b (AnswersFault b) (no_answers b) r begins fault

-- The authority section.
pub authorities_read : (b : List ℕ) (r : Result RecordSection ParseError) → IfOk r (BeginsSection Authority b) → IfErr r (λ e. AuthoritiesFault b (fault_of e))
    → reading_left r ≡ reading_of Authority b
authorities_read b r begins fault = section_read Authority b (AuthoritiesFault b) (no_authorities b) r begins fault

-- The additional section.
pub additionals_read : (b : List ℕ) (r : Result RecordSection ParseError) → IfOk r (BeginsSection Additional b) → IfErr r (λ e. AdditionalsFault b (fault_of e))
    → reading_left r ≡ reading_of Additional b
additionals_read b r begins fault = section_read Additional b (AdditionalsFault b) (no_additionals b) r begins fault
