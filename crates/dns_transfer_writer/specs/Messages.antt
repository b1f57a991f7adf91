-- The messages of a transfer. RFC 5936 sections 2.2.1 and 2.2.2.
--
-- A message is written over a target with capacity `capacity`, which allocates if `grows`, under the compression rule `rule`. It has at most `limit` octets.
-- `begun` says whether the transfer has begun: else it is the first message. `query` is the octets of the query.
use Rattle.std.specs.Prelude.{◌≡◌, ℕ, Bool, true, false, if◌then◌else◌, IsTrue, List, [], ◌∷◌, ◌++◌, Option, Some, None, Result, Ok, Err}
use Rattle.dns_wire.specs.Encoders.{Rule}
use Rattle.dns_wire.specs.Targets.{Exceeds}
use Rattle.dns_code.specs.Header.{HeaderFields, fields_in}
use Rattle.dns_code.specs.HeaderSection.{header_size}
use Rattle.dns_item.specs.Items.{RecordItem}
use Rattle.dns_item.specs.Questions.{QuestionItem}
use Rattle.dns_build.specs.Answers.{RefusesAfter, readable_questions}
use Rattle.dns_build.specs.BuilderStates.{Built, PushReturns, Represents, size_after}
use Rattle.dns_build.specs.State.{InAnswer, InQuestion, State, with_record}
use Rattle.dns_build.specs.declared.push_error.PushError.{PushError}
use Rattle.dns_build.specs.declared.push_error.PushError.TheVariants.{OutOfMemory, ShortBuf}
use Rattle.dns_transfer_writer.specs.Filling.{MessageFits, NextDoesNotFit}

-- The header of each message: ID, opcode and RD of the query, QR and AA set. All other bits are clear, and the RCODE is NOERROR. RFC 5936 section 2.2.1.
abbrev pub transfer_header : HeaderFields → HeaderFields
transfer_header asked = record {
  id = asked.id;
  qr = true;
  opcode = asked.opcode;
  aa = true;
  tc = false;
  rd = asked.rd;
  ra = false;
  z = false;
  ad = false;
  cd = false;
  rcode = 0;
}

-- The question section: the first message has that of the query, later ones have none. RFC 5936 section 2.2.2.
abbrev pub questions_in : Bool → List ℕ → List QuestionItem
questions_in begun query = if begun then [] else readable_questions query

-- the message with the records `xs`, which are all in the answer section
abbrev pub message_state : Bool → ℕ → List ℕ → List RecordItem → State
message_state begun limit query xs = record {
  stage = InAnswer;
  header = transfer_header (fields_in query);
  limit = limit;
  questions = questions_in begun query;
  answers = xs;
  authorities = [];
  additionals = [];
}

-- the message before its questions
abbrev pub bare_state : ℕ → List ℕ → State
bare_state limit query = record {
  stage = InQuestion;
  header = transfer_header (fields_in query);
  limit = limit;
  questions = [];
  answers = [];
  authorities = [];
  additionals = [];
}

module _ (capacity : Option ℕ) (grows : Bool) (rule : Rule) (begun : Bool) (limit : ℕ) (query : List ℕ) where
  -- why a message without records can't be written: the target hasn't capacity for the header section, an allocation failed, or a question of the first message can't be pushed
  pub data CantBegin : PushError → Type 0 where
    no_header : Exceeds capacity header_size → CantBegin ShortBuf
    memory : IsTrue grows → CantBegin OutOfMemory
    question : {first : List QuestionItem} {e : PushError} → begun ≡ false
        → RefusesAfter capacity grows rule (bare_state limit query) (readable_questions query) first e → CantBegin e

  -- the message without records, or why it can't be written
  abbrev pub Begins : Result Built PushError → Type 0
  Begins (Ok b) = Represents InAnswer rule (message_state begun limit query []) b
  Begins (Err e) = CantBegin e

  -- why no message can be written whose first record is `x`: it can't be begun, or it can't have this record, or an allocation failed
  pub data CantWrite (x : RecordItem) : PushError → Type 0 where
    before : {e : PushError} → CantBegin e → CantWrite x e
    refused : {e : PushError} → PushReturns capacity grows limit (size_after rule (with_record InAnswer x) (message_state begun limit query [])) 0 (Err e) → CantWrite x e
    memory : IsTrue grows → CantWrite x OutOfMemory

  -- the same of the first record of a list
  abbrev pub CantWriteFirst : List RecordItem → PushError → Type 0
  CantWriteFirst [] e = ⊥
  CantWriteFirst (x ∷ xs) e = CantWrite x e

-- The message has the longest beginning of the records `xs` that fits, at least one record; the records `left` are the others.
pub record Holds (capacity : Option ℕ) (rule : Rule) (begun : Bool) (limit : ℕ) (query : List ℕ) (xs left : List RecordItem) (b : Built) : Type 0 where
  pub first : RecordItem
  pub others : List RecordItem
  pub all : xs ≡ (first ∷ others) ++ left
  pub fits : MessageFits capacity rule (message_state begun limit query (first ∷ others))
  pub next : NextDoesNotFit capacity rule (message_state begun limit query (first ∷ others)) left
  pub represents : Represents InAnswer rule (message_state begun limit query (first ∷ others)) b

-- what contracts see of a writer: the octets of the query, whether a message was written, and the records that are still to be sent
pub record Sending : Type 0 where
  pub query : List ℕ
  pub begun : Bool
  pub left : List RecordItem

-- What a call gives: nothing if no record is left; or the next message; or an error. A writer changes only if a message is written.
abbrev pub GivesMessage : Option ℕ → Bool → Rule → ℕ → Sending → Sending → Option (Result Built PushError) → Type 0
GivesMessage capacity grows rule limit old new None = (old.left ≡ []) × (new ≡ old)
GivesMessage capacity grows rule limit old new (Some (Ok b)) =
    Holds capacity rule old.begun limit old.query old.left new.left b × (new.query ≡ old.query) × (new.begun ≡ true)
GivesMessage capacity grows rule limit old new (Some (Err e)) = CantWriteFirst capacity grows rule old.begun limit old.query old.left e × (new ≡ old)
