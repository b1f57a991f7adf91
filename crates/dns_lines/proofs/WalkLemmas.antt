-- What follows a cursor after readable entries is what followed it before them.
use Rattle.std.proofs.Common.{◌≡◌, ◌≢◌, ◌∙◌, ℕ, suc, true, false, List, inr, sym, subst, refl}
use Rattle.std.specs.Prelude.{Some, Result, Ok, Err, is_ok}
use Rattle.dns_name.specs.Names.{Fault, fault_of}
use Rattle.dns_octets.specs.declared.error.ParseError.{ParseError}
use Rattle.dns_name.specs.declared.parsed_name.ParsedName.{ParsedName}
use Rattle.dns_item.specs.Questions.{SkipsQuestion, QuestionSkipFaultAt}
use Rattle.dns_item.specs.declared.question.Question.{Question}
use Rattle.dns_item.specs.Items.{SkipsRecord, RecordSkipFaultAt}
use Rattle.dns_item.specs.declared.parsed_record.ParsedRecord.{ParsedRecord}
use Rattle.dns_read.specs.Reading.{StopsSkipping}
use Rattle.dns_read.specs.Reading.Skipped.{more}
use Rattle.dns_read.specs.Reading.StopsSkipping.{after}
use Rattle.dns_read.specs.QuestionSection as questions
use Rattle.dns_read.specs.QuestionSection.{BeginsQuestions, MovesPastQuestion}
use Rattle.dns_read.specs.RecordSection.{octets_of, position, section_of, to_come, BeginsSection, IsFresh, MovesPastRecord, MovesToAnswers, MovesToNext}
use Rattle.dns_read.specs.Sections.{question_count, record_count, section_after, AnswersFault, AuthoritiesFault, AdditionalsFault}
use Rattle.dns_read.proofs.theory.SectionLemmas.{begins_answers, begins_next}
use Rattle.dns_read.specs.Skipping.{CountsDown, SkipsRest, StopsInRest}
use Rattle.dns_read.specs.declared.question_section.QuestionSection.{QuestionSection}
use Rattle.dns_read.specs.declared.record_section.RecordSection.{RecordSection}
use Rattle.dns_read.specs.declared.section.Section.{Section}
use Rattle.dns_read.specs.declared.section.Section.TheVariants.{Answer, Authority, Additional}
use Rattle.dns_lines.specs.Walk.{SameAnswersFollow, SameNextFollows}

module _ (Skips : ℕ → ℕ → Type 0) where
  -- one entry more is skipped
  skips_more : (old new : Result ℕ ParseError) (n p q r : ℕ) → old ≡ Ok (suc n) → new ≡ Ok n → Skips p q → SkipsRest Skips new q r → SkipsRest Skips old p r
  skips_more old new n p q r was is one rest =
      subst (λ (left : Result ℕ ParseError). SkipsRest Skips left p r) (sym was) (more one (subst (λ (left : Result ℕ ParseError). SkipsRest Skips left q r) is rest))

  -- one entry more is skipped, and then another can't be
  stops_more : (FaultOf : ℕ → Fault → Type 0) (old new : Result ℕ ParseError) (n p q : ℕ) (e : ParseError) → old ≡ Ok (suc n) → new ≡ Ok n → Skips p q
      → StopsInRest Skips FaultOf new q e → StopsInRest Skips FaultOf old p e
  stops_more FaultOf old new n p q e was is one rest =
      subst (λ (left : Result ℕ ParseError). StopsInRest Skips FaultOf left p e) (sym was) (after one (subst (λ (left : Result ℕ ParseError). StopsInRest Skips FaultOf left q e) is rest))

-- a question is read, and the answer section that follows stays the same
answers_after : (old new : QuestionSection) (question : Question ParsedName) → MovesPastQuestion old new (Some (Ok question))
    → CountsDown (questions.to_come old) (questions.to_come new) (Some (Ok question))
    → questions.octets_of new ≡ questions.octets_of old → SameAnswersFollow old new
answers_after old new question reads counts octets (Ok section) moves = record {
  fresh = subst (λ (b : List ℕ). IsFresh Answer b section) octets moves.fresh;
  skips = skips_more _ _ _ counts.0 _ _ _ counts.1 counts.2 reads.skips
      (subst (λ (b : List ℕ). SkipsRest (SkipsQuestion b) (questions.to_come new) (questions.position new) (position section)) octets moves.skips);
}
answers_after old new question reads counts octets (Err e) moves =
    stops_more _ _ _ _ counts.0 _ _ e counts.1 counts.2 reads.skips
    (subst (λ (b : List ℕ). StopsInRest (SkipsQuestion b) (QuestionSkipFaultAt b) (questions.to_come new) (questions.position new) e) octets moves)

-- a record is read, and the section that follows stays the same
next_after : (old new : RecordSection) (r : ParsedRecord) → MovesPastRecord old new (Some (Ok r)) → CountsDown (to_come old) (to_come new) (Some (Ok r))
    → octets_of new ≡ octets_of old → section_of new ≡ section_of old
    → (outcome : Result RecordSection ParseError) → MovesToNext new outcome → MovesToNext old outcome
next_after old new r reads counts octets same (Ok section) moves = record {
  next = subst (λ (which : Section). section_after which ≡ Some (section_of section)) same moves.next;
  fresh = subst (λ (b : List ℕ). IsFresh (section_of section) b section) octets moves.fresh;
  skips = skips_more _ _ _ counts.0 _ _ _ counts.1 counts.2 reads.0.skips
      (subst (λ (b : List ℕ). SkipsRest (SkipsRecord b) (to_come new) (position new) (position section)) octets moves.skips);
}
next_after old new r reads counts octets same (Err e) moves =
    stops_more _ _ _ _ counts.0 _ _ e counts.1 counts.2 reads.0.skips
    (subst (λ (b : List ℕ). StopsInRest (SkipsRecord b) (RecordSkipFaultAt b) (to_come new) (position new) e) octets moves)

-- `readable` is the cursor after the questions that were read, from `first` up to `current`
pub record QuestionsRead (first readable current : QuestionSection) : Type 0 where
  pub follows : SameAnswersFollow first readable
  pub last : (n : ℕ) → questions.to_come current ≡ Ok n → readable ≡ current

-- at first none was read
pub no_question_read : (first : QuestionSection) → QuestionsRead first first first
no_question_read first = record { follows = λ outcome moves. moves; last = λ n is. refl }

-- one question more, or an error
pub question_read : (first readable readable' old new : QuestionSection) (outcome : Result (Question ParsedName) ParseError)
    → (is_ok outcome ≡ true → readable' ≡ new) → (is_ok outcome ≡ false → readable' ≡ readable)
    → MovesPastQuestion old new (Some outcome) → CountsDown (questions.to_come old) (questions.to_come new) (Some outcome) → questions.octets_of new ≡ questions.octets_of old
    → QuestionsRead first readable old → QuestionsRead first readable' new
question_read first readable readable' old new (Ok question) is_new is_kept reads counts octets before =
    let at_old = subst (λ (cursor : QuestionSection). SameAnswersFollow first cursor) (before.last _ counts.1) before.follows in
    let at_new : SameAnswersFollow first new = λ outcome moves. at_old outcome (answers_after old new question reads counts octets outcome moves) in
    record { follows = subst (λ (cursor : QuestionSection). SameAnswersFollow first cursor) (sym (is_new refl)) at_new; last = λ n is. is_new refl }
question_read first readable readable' old new (Err e) is_new is_kept reads counts octets before =
    record { follows = subst (λ (cursor : QuestionSection). SameAnswersFollow first cursor) (sym (is_kept refl)) before.follows; last = λ n is. absurd (cc (counts, is)) }

-- the same for records
pub record RecordsRead (first readable current : RecordSection) : Type 0 where
  pub follows : SameNextFollows first readable
  pub last : (n : ℕ) → to_come current ≡ Ok n → readable ≡ current

-- A walk that has read no record is where it began.
pub no_record_read : (first : RecordSection) → RecordsRead first first first
no_record_read first = record { follows = record { section = refl; next = λ outcome moves. moves }; last = λ n is. refl }

-- A walk goes on after a record that was read, and stops where one can't be.
pub record_read : (first readable readable' old new : RecordSection) (outcome : Result ParsedRecord ParseError) → (is_ok outcome ≡ true → readable' ≡ new)
    → (is_ok outcome ≡ false → readable' ≡ readable)
    → MovesPastRecord old new (Some outcome) → CountsDown (to_come old) (to_come new) (Some outcome) → octets_of new ≡ octets_of old → section_of new ≡ section_of old
    → RecordsRead first readable old → RecordsRead first readable' new
record_read first readable readable' old new (Ok r) is_new is_kept reads counts octets same before =
    let at_old = subst (λ (cursor : RecordSection). SameNextFollows first cursor) (before.last _ counts.1) before.follows in
    let at_new : SameNextFollows first new = record { section = same ∙ at_old.section; next = λ outcome moves. at_old.next outcome (next_after old new r reads counts octets same outcome moves) } in
    record { follows = subst (λ (cursor : RecordSection). SameNextFollows first cursor) (sym (is_new refl)) at_new; last = λ n is. is_new refl }
record_read first readable readable' old new (Err e) is_new is_kept reads counts octets same before =
    record { follows = subst (λ (cursor : RecordSection). SameNextFollows first cursor) (sym (is_kept refl)) before.follows; last = λ n is. absurd (cc (counts, is)) }

-- the answer section begins after the questions
pub answers_begin : (b : List ℕ) (first last : QuestionSection) (answer : RecordSection) → BeginsQuestions b first → SameAnswersFollow first last
    → MovesToAnswers last (Ok answer) → BeginsSection Answer b answer
answers_begin b first last answer begins same moves = begins_answers b first answer begins (same (Ok answer) moves)

-- or a question can't be skipped
pub answers_stop : (b : List ℕ) (first last : QuestionSection) (e : ParseError) → BeginsQuestions b first → SameAnswersFollow first last → MovesToAnswers last (Err e) → AnswersFault b (fault_of e)
answers_stop b first last e begins same moves =
    let stops = subst (λ (o : List ℕ). StopsInRest (SkipsQuestion o) (QuestionSkipFaultAt o) (questions.to_come first) (questions.position first) e) begins.octets (same (Err e) moves) in
    let counted = subst (λ (left : Result ℕ ParseError). StopsInRest (SkipsQuestion b) (QuestionSkipFaultAt b) left (questions.position first) e) begins.count stops in
    subst (λ (p : ℕ). StopsSkipping (SkipsQuestion b) (QuestionSkipFaultAt b) (question_count b) p (fault_of e)) begins.start counted

module _ (which : Section) (b : List ℕ) (first last : RecordSection) (begins : BeginsSection which b first) (same : SameNextFollows first last) where
  -- the next section begins after the records
  pub next_begins : (next : Section) (new : RecordSection) → section_after which ≡ Some next → MovesToNext last (Ok new) → BeginsSection next b new
  next_begins next new follows moves = begins_next which next b first new follows begins (same.next (Ok new) moves)

  -- or a record can't be skipped
  next_stops : (e : ParseError) → MovesToNext last (Err e) → StopsSkipping (SkipsRecord b) (RecordSkipFaultAt b) (record_count which b) (position first) (fault_of e)
  next_stops e moves =
      let stops = subst (λ (o : List ℕ). StopsInRest (SkipsRecord o) (RecordSkipFaultAt o) (to_come first) (position first) e) begins.fresh.octets (same.next (Err e) moves) in
      subst (λ (left : Result ℕ ParseError). StopsInRest (SkipsRecord b) (RecordSkipFaultAt b) left (position first) e) begins.fresh.count stops

  -- another section follows if this isn't the additional section
  pub isnt_last : which ≢ Additional → section_of last ≢ Additional
  isnt_last other is = other (sym begins.fresh.section ∙ sym same.section ∙ is)

-- The walk ends where the authority section has no start.
pub authorities_stop : (b : List ℕ) (first last : RecordSection) (e : ParseError) → BeginsSection Answer b first → SameNextFollows first last
    → MovesToNext last (Err e) → AuthoritiesFault b (fault_of e)
authorities_stop b first last e begins same moves = inr (position first, begins.start, next_stops Answer b first last begins same e moves)

-- The walk ends where the additional section has no start.
pub additionals_stop : (b : List ℕ) (first last : RecordSection) (e : ParseError) → BeginsSection Authority b first → SameNextFollows first last
    → MovesToNext last (Err e) → AdditionalsFault b (fault_of e)
additionals_stop b first last e begins same moves = inr (position first, begins.start, next_stops Authority b first last begins same e moves)
