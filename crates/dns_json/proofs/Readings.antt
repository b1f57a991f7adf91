-- What cursors over sections have left is the reading of the message.
use Rattle.std.proofs.Common.{◌≡◌, ◌∙◌, ℕ, Bool, ◌&&◌, List, [], ◌∷◌, Some, None, ap, length, refl, sym}
use Rattle.std.specs.Prelude.{Result, Ok, Err, IfOk, IfErr, is_ok, option_map}
use Rattle.dns_name.specs.Names.{Fault, fault_of}
use Rattle.dns_octets.specs.declared.error.ParseError.{ParseError}
use Rattle.dns_name.specs.declared.parsed_name.ParsedName.{ParsedName}
use Rattle.dns_item.specs.ParsedRecord.{EncodedRecord}
use Rattle.dns_item.specs.declared.parsed_record.ParsedRecord.{ParsedRecord}
use Rattle.dns_item.specs.declared.question.Question.{Question}
use Rattle.dns_read.specs.QuestionSection.{question_result}
use Rattle.dns_read.specs.RecordSection.{position, record_result, records_left, BeginsSection, MovesPastRecord}
use Rattle.dns_read.specs.RecordsFrom.{records_in}
use Rattle.dns_read.specs.Searches.{questions_of}
use Rattle.dns_read.specs.SectionStarts.{start_of}
use Rattle.dns_read.specs.Sections.{record_count, AnswersFault, AuthoritiesFault, AdditionalsFault}
use Rattle.dns_read.specs.declared.record_section.RecordSection.{RecordSection}
use Rattle.dns_read.specs.declared.section.Section.{Section}
use Rattle.dns_read.specs.declared.section.Section.TheVariants.{Answer, Authority, Additional}
use Rattle.dns_read.proofs.theory.SectionStartLemmas.{start_found, no_answers, no_authorities, no_additionals}
use Rattle.dns_json.specs.Cursors.{end_left, reading_left}
use Rattle.dns_json.specs.Entries.{end_of, is_readable}
use Rattle.dns_json.specs.Messages.{ends_at, is_whole, reading_of, records_end}

section_read : (which : Section) (b : List ℕ) (FaultBefore : Fault → Type 0) → ((f : Fault) → FaultBefore f → start_of which b ≡ None)
    → (r : Result RecordSection ParseError) → IfOk r (BeginsSection which b) → IfErr r (λ e. FaultBefore (fault_of e)) → reading_left r ≡ reading_of which b
section_read which b FaultBefore none (Ok section) begins fault =
    ap Some begins.fresh.records ∙ sym (ap (option_map (records_in b (record_count which b))) (start_found which b (position section) begins.start))
section_read which b FaultBefore none (Err e) begins fault = sym (ap (option_map (records_in b (record_count which b))) (none (fault_of e) fault))

-- The answer section.
pub answers_read : (b : List ℕ) (r : Result RecordSection ParseError) → IfOk r (BeginsSection Answer b) → IfErr r (λ e. AnswersFault b (fault_of e)) → reading_left r ≡ reading_of Answer b
answers_read b r begins fault = section_read Answer b (AnswersFault b) (no_answers b) r begins fault

-- The authority section.
pub authorities_read : (b : List ℕ) (r : Result RecordSection ParseError) → IfOk r (BeginsSection Authority b) → IfErr r (λ e. AuthoritiesFault b (fault_of e))
    → reading_left r ≡ reading_of Authority b
authorities_read b r begins fault = section_read Authority b (AuthoritiesFault b) (no_authorities b) r begins fault

-- The additional section.
pub additionals_read : (b : List ℕ) (r : Result RecordSection ParseError) → IfOk r (BeginsSection Additional b) → IfErr r (λ e. AdditionalsFault b (fault_of e))
    → reading_left r ≡ reading_of Additional b
additionals_read b r begins fault = section_read Additional b (AdditionalsFault b) (no_additionals b) r begins fault

-- The end of the additional section.
pub end_read : (b : List ℕ) (r : Result RecordSection ParseError) → IfOk r (BeginsSection Additional b) → IfErr r (λ e. AdditionalsFault b (fault_of e)) → end_left r ≡ records_end b
end_read b (Ok section) begins fault =
    let end_from : ℕ → ℕ = λ p. end_of p (records_in b (record_count Additional b) p) in
    ap (λ (xs : List (Result EncodedRecord Fault)). Some (end_of (position section) xs)) begins.fresh.records
    ∙ sym (ap (option_map end_from) (start_found Additional b (position section) begins.start))
end_read b (Err e) begins fault =
    let end_from : ℕ → ℕ = λ p. end_of p (records_in b (record_count Additional b) p) in
    sym (ap (option_map end_from) (no_additionals b (fault_of e) fault))

-- The records that are left end where those before them ended.
pub end_kept : (old new : RecordSection) (r : Result ParsedRecord ParseError) → records_left old ≡ record_result r ∷ records_left new → MovesPastRecord old new (Some r)
    → end_of (position old) (records_left old) ≡ end_of (position new) (records_left new)
end_kept old new (Ok shown) steps moves = ap (end_of (position old)) steps ∙ ap (λ (p : ℕ). end_of p (records_left new)) moves.0.rdata_end
end_kept old new (Err e) steps moves = ap (end_of (position old)) steps ∙ ap (λ (p : ℕ). end_of p (records_left new)) (sym moves.1)

-- If none is left, they end where the cursor is.
pub end_reached : (old new : RecordSection) → records_left old ≡ [] → position new ≡ position old → end_of (position old) (records_left old) ≡ position new
end_reached old new none stays = ap (end_of (position old)) none ∙ sym stays

-- Whether a message is whole, by its sections and its end.
pub whole_is : (b : List ℕ) (questions answers authorities additionals ends : Bool) → questions ≡ is_readable (Some (questions_of b)) → answers ≡ is_readable (reading_of Answer b)
    → authorities ≡ is_readable (reading_of Authority b) → additionals ≡ is_readable (reading_of Additional b) → ends ≡ ends_at (records_end b) (length b)
    → (questions && answers && authorities && additionals && ends) ≡ is_whole b
whole_is b questions answers authorities additionals ends q a c d e = λ i. q i && a i && c i && d i && e i

-- An entry is a fault exactly if it was an error.
pub question_ok : (r : Result (Question ParsedName) ParseError) → is_ok (question_result r) ≡ is_ok r
question_ok (Ok question) = refl
question_ok (Err e) = refl

-- The same of records.
pub record_ok : (r : Result ParsedRecord ParseError) → is_ok (record_result r) ≡ is_ok r
record_ok (Ok parsed) = refl
record_ok (Err e) = refl
