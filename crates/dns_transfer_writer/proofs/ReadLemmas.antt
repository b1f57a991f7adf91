-- Messages that are written, as they are read.
use Rattle.std.proofs.Common.{◌≡◌, ◌∙◌, ℕ, Bool, true, false, ap, sym, refl, subst, List, [], ◌∷◌, map, eq-eqb}
use Rattle.std.specs.List.{filter_map}
use Rattle.std.specs.Result.{result_ok}
use Rattle.std.specs.Prelude.{◌==◌, ◌&&◌, if◌then◌else◌, Option, Some, None, Result, Ok, option_and_then, take}
use Rattle.dns_wire.specs.Encoders.{Rule}
use Rattle.dns_wire.specs.Targets.{Written}
use Rattle.dns_name.specs.Names.{Fault}
use Rattle.dns_code.specs.Header.{HeaderFields, fields_in}
use Rattle.dns_code.proofs.theory.HeaderOctets.{fields_in-take}
use Rattle.dns_item.specs.Items.{RecordItem}
use Rattle.dns_item.specs.ParsedRecord.{EncodedRecord}
use Rattle.dns_item.specs.Questions.{QuestionItem}
use Rattle.dns_read.specs.OptSearches.{extended_rcode, first_opt_in, opt_rcode_of, opt_said}
use Rattle.dns_read.specs.SectionStarts.{records_of}
use Rattle.dns_read.specs.declared.section.Section.TheVariants.{Additional, Answer}
use Rattle.dns_read.proofs.theory.SectionStartLemmas.{start_found}
use Rattle.dns_build.specs.Answers.{readable_questions}
use Rattle.dns_build.specs.TypedReading.{AllEncodedAs}
use Rattle.dns_build.specs.BuilderStates.{Built}
use Rattle.dns_build.specs.MessageOf.{EncodingsReadBack, ReadsBack}
use Rattle.dns_transfer.specs.Asked.{Asked}
use Rattle.dns_transfer.specs.Messages.{first_error, header_error, is_ended, is_wanted, message_error, question_error}
use Rattle.dns_transfer.specs.Transfers.{IsTaken}
use Rattle.dns_transfer.specs.declared.error.TransferError.{TransferError}
use Rattle.dns_transfer.specs.declared.error.TransferError.TheVariants.{AfterEnd, NoResponse, Rcode, Truncated, WrongId, WrongQuestion}
use Rattle.dns_transfer.specs.declared.grammar.State.{State}
use Rattle.dns_transfer_writer.specs.Messages.{Holds, message_state, questions_in, transfer_header}
use Rattle.dns_transfer_writer.specs.Reading.{IsQueryOf}

-- Where no record was written, none is read.
pub nothing-read : (b : List ℕ) (readings : List (Result EncodedRecord Fault)) → AllEncodedAs b [] readings → readings ≡ []
nothing-read b [] h = refl
nothing-read b (reading ∷ readings) h = absurd h

-- Without additional records the RCODE is that of the header.
header-rcode : (b : List ℕ) → records_of Additional b ≡ [] → opt_rcode_of b ≡ (fields_in (take 4 b)).rcode
header-rcode b none = ap (λ (readings : List (Result EncodedRecord Fault)). extended_rcode (option_and_then opt_said (first_opt_in readings)) (fields_in (take 4 b)).rcode) none

module _ (asked : Asked) (query : List ℕ) (of : IsQueryOf asked query) where
  -- the header of each message has no error
  header-right : header_error asked.id (transfer_header (fields_in query)) 0 ≡ None
  header-right = (λ i. by (of.id i) (of.opcode i)) ∙ ap (λ (b : Bool). let o : Option TransferError = if b then None else Some WrongId in o) (eq-eqb asked.id asked.id refl)
    where
      by : ℕ → ℕ → Option TransferError
      by id opcode =
          if id == asked.id then (if true && (opcode == 0) then (if 0 == 0 then (if false then Some Truncated else None) else Some (Rcode 0)) else Some NoResponse) else Some WrongId

  -- the query has one question that can be read
  one-question : readable_questions query ≡ of.question ∷ []
  one-question = ap (filter_map result_ok) of.alone

  -- the questions of a message are those that are to come
  questions-right : (begun : Bool) (state : State) → (begun ≡ true → is_wanted state ≡ false) → question_error asked state (map (λ (q : QuestionItem). Ok q) (questions_in begun query)) ≡ None
  questions-right true state later = ap (λ (b : Bool). let o : Option TransferError = if b then Some WrongQuestion else None in o) (later refl)
  questions-right false state later =
      ap (λ (qs : List QuestionItem). question_error asked state (map (λ (q : QuestionItem). Ok q) qs)) one-question
      ∙ ap (λ (b : Bool). let o : Option TransferError = if b then None else Some WrongQuestion in o) of.same

  module _ (rule : Rule) (begun : Bool) (limit : ℕ) (xs : List RecordItem) (b : List ℕ) (back : ReadsBack (message_state begun limit query xs) b) (state : State) where
    -- A message with records is taken, unless the transfer has ended. It has no additional records.
    pub message-taken : records_of Additional b ≡ [] → is_ended state ≡ false → (begun ≡ true → is_wanted state ≡ false) → IsTaken asked state b
    message-taken none waits later = record {
      no_error =
          (λ i. message_error asked state ((fields_in-take b ∙ back.header) i)
          ((header-rcode b none ∙ ap (λ (f : HeaderFields). f.rcode) (fields_in-take b ∙ back.header)) i) (back.questions i))
          ∙ ap (λ (ended : Bool). let o : Option TransferError = if ended then Some AfterEnd else first_error (header_error asked.id (transfer_header (fields_in query)) 0)
          (question_error asked state (map (λ (q : QuestionItem). Ok q) (questions_in begun query))) in o) waits
          ∙ ap (λ (o : Option TransferError). first_error o (question_error asked state (map (λ (q : QuestionItem). Ok q) (questions_in begun query)))) header-right
          ∙ questions-right begun state later;
      start = back.answers_start;
      starts = start_found Answer b back.answers_start back.answers_at;
    }

-- the octets of a message read back
pub message-back : (reads : EncodingsReadBack) (capacity : Option ℕ) (rule : Rule) (begun : Bool) (limit : ℕ) (query : List ℕ) (xs left : List RecordItem) (b : Built)
    → (h : Holds capacity rule begun limit query xs left b) → ReadsBack (message_state begun limit query (h.first ∷ h.others)) b.written.octets
message-back reads capacity rule begun limit query xs left b h =
    subst (λ (w : Written). ReadsBack (message_state begun limit query (h.first ∷ h.others)) w.octets) (sym h.represents.written)
    (reads rule (message_state begun limit query (h.first ∷ h.others)) h.represents.state)
