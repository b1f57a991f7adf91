-- Why a message isn't copied.
use Rattle.std.proofs.Common.{◌≡◌, ◌≤◌, ℕ, Bool, List, length, refl, arith, None}
use Rattle.std.specs.List.{filter_map}
use Rattle.std.specs.Result.{result_ok}
use Rattle.std.specs.Prelude.{Option, Result, Err}
use Rattle.dns_message.specs.Names.{Fault, labels, encoded_name}
use Rattle.dns_message.specs.declared.name.ParsedName.{ParsedName}
use Rattle.dns_message.proofs.CallerLemmas.{questions_from_are_read}
use Rattle.dns_message.specs.Targets.{Static}
use Rattle.dns_message.specs.Headers.{header_size}
use Rattle.dns_message.specs.Questions.{QuestionItem, QuestionFaultAt, ReadsQuestion}
use Rattle.dns_message.specs.Records.{record_item}
use Rattle.dns_message.specs.declared.record.ParsedRecord.{ParsedRecord}
use Rattle.dns_message.specs.declared.record.Record.{Record}
use Rattle.dns_message.specs.Sections.{Reading, none, entry, stop, question_count}
use Rattle.dns_message.specs.Builders.{GivesAnswer, answering, readable_questions, CopiesMessage, record_sections, Built, Represents, fresh, Every, InAnswer, most_entries}
use Rattle.dns_message.specs.declared.builder.CopyRecordsError.{CopyRecordsError}
use Rattle.dns_message.specs.declared.builder.CopyRecordsError.TheVariants.{Parse, Push}
use Rattle.dns_message.specs.declared.builder.PushError.{PushError}
use Rattle.dns_message.specs.declared.builder.PushError.TheVariants.{OutOfMemory}
use Rattle.dns_message.specs.Fields.{parts_of, rtype_of}
use Rattle.dns_message.specs.declared.fields.FieldData.{FieldData}
use Rattle.example_rewrite.specs.Rewriting.{IsReason, MessageReads, begun}
use Rattle.example_rewrite.proofs.NoFault.{no_fault, section_reads}
use Rattle.example_rewrite.proofs.Refusing.{AreFew, IsOpen, asking_refused, copying_refused}
use Rattle.example_rewrite.proofs.Sizes.{IsNamed, IsShort}

-- the RDATA of a record takes at most 65,535 octets uncompressed
short_record : (r : Record ParsedName FieldData) → IsShort (record_item labels rtype_of parts_of r)
short_record r = record { owner = encoded_name r.owner.name_at.0.1; parts = r.data.short }

module _ (b : List ℕ) where
  -- readable questions have valid names, and are at most as many as the count says
  readable_named : {n p : ℕ} {xs : List (Result QuestionItem Fault)} → Reading (ReadsQuestion b) (QuestionFaultAt b) n p xs → Every IsNamed (filter_map result_ok xs)
  readable_named none = tt
  readable_named (entry reads rest) = (encoded_name reads.name, readable_named rest)
  readable_named (stop faulty) = tt

  readable_few : {n p : ℕ} {xs : List (Result QuestionItem Fault)} → Reading (ReadsQuestion b) (QuestionFaultAt b) n p xs → length (filter_map result_ok xs) ≤ n
  readable_few none = omega arith
  readable_few (entry reads rest) = let l = readable_few rest in omega (arith, l)
  readable_few (stop faulty) = omega arith

  -- starting an answer fails only if an allocation failed
  pub not_begun : (grows : Bool) (e : PushError) → question_count b ≤ most_entries
      → GivesAnswer None grows Static (answering 0 b fresh) (readable_questions b) (Err e) → e ≡ OutOfMemory
  not_begun grows e few gives =
      let reading = (questions_from_are_read b).reading (question_count b) header_size in
      let s = answering 0 b fresh in
      let l = readable_few reading in
      let s_is_open : IsOpen s = record {
        limit = refl;
        short = record { questions = tt; answers = tt; authorities = tt; additionals = tt };
        questions = omega arith;
        answers = omega arith;
        authorities = omega arith;
        additionals = omega arith;
      } in
      asking_refused grows s (readable_questions b) gives.0 e s_is_open (readable_named reading) (omega (arith, few, l)) gives.1

  -- a builder with the questions of a message is open
  begun_open : (new : Built) → question_count b ≤ most_entries → Represents InAnswer Static (begun b) new → IsOpen (begun b)
  begun_open new few represents =
      let reading = (questions_from_are_read b).reading (question_count b) header_size in
      let l = readable_few reading in
      record {
        limit = refl;
        short = record { questions = readable_named reading; answers = tt; authorities = tt; additionals = tt };
        questions = omega (arith, few, l);
        answers = omega arith;
        authorities = omega arith;
        additionals = omega arith;
      }

  -- why copying a readable message fails
  pub reason : (grows : Bool) {F : Type 0} (call : F → ParsedRecord → Option (Record ParsedName FieldData) → F → Type 0) (f : F) (new : Built) (e : CopyRecordsError)
      → question_count b ≤ most_entries → AreFew b → Represents InAnswer Static (begun b) new
      → CopiesMessage call (record_item labels rtype_of parts_of) None grows Static b f (begun b) (Err e) → MessageReads b → IsReason b e
  reason grows call f new (Parse e) asked few represents copies reads =
      absurd (no_fault call (record_item labels rtype_of parts_of) None grows Static e b record_sections copies.2 refl (section_reads b reads))
  reason grows call f new (Push e) asked few represents copies reads =
      (reads, copying_refused grows (record_item labels rtype_of parts_of) short_record call b e copies.2 refl few (begun_open new asked represents) refl)
