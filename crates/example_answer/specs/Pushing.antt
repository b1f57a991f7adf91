-- How the records that match a question are pushed. RFC 1035 section 4.1.
use Rattle.std.specs.Prelude.{◌≤◌, ◌<◌, List, Result, Ok, Err}
use Rattle.dns_message.specs.Targets.{Plain}
use Rattle.dns_message.specs.Records.{RecordItem}
use Rattle.dns_message.specs.Builders.{Built, Represents, InAnswer, State, most_entries}
use Rattle.dns_message.specs.declared.builder.PushError.{PushError}
use Rattle.dns_message.specs.declared.builder.PushError.TheVariants.{CountOverflow, LimitExceeded, ShortBuf, OutOfMemory}
use Rattle.example_answer.specs.Answering.{all_or_none, size, with_answers}

-- a builder with these records appended to the answers of a state, and within the limit if the state is
pub record MoreAnswers (s : State) (new : Built) (xs : List RecordItem) : Type 0 where
  pub represents : Represents InAnswer Plain (with_answers xs s) new
  pub within : size s ≤ s.limit → size (with_answers xs s) ≤ s.limit

-- Why pushing further records fails: an allocation failed, or the limit exceeds 65,535 octets, so that a count can be full.
abbrev pub RefusesMore : State → PushError → Type 0
RefusesMore s OutOfMemory = Unit {0}
RefusesMore s CountOverflow = most_entries < s.limit
RefusesMore s LimitExceeded = ⊥
RefusesMore s ShortBuf = ⊥

-- All of these records are pushed; or some of them are, and all would exceed the limit; or a push fails for another reason.
abbrev pub PushesEach : List RecordItem → State → Result (Unit {0}) PushError → Built → Type 0
PushesEach xs s (Ok _) new = MoreAnswers s new xs
PushesEach xs s (Err LimitExceeded) new = (some : List RecordItem) × MoreAnswers s new some × (s.limit < size (with_answers xs s))
PushesEach xs s (Err OutOfMemory) new = RefusesMore s OutOfMemory
PushesEach xs s (Err ShortBuf) new = RefusesMore s ShortBuf
PushesEach xs s (Err CountOverflow) new = RefusesMore s CountOverflow

-- a builder within its limit gets all of these records, or none and TC; or a push fails
abbrev pub AddsRecords : List RecordItem → State → Result Built PushError → Type 0
AddsRecords xs s (Ok new) = size s ≤ s.limit → Represents InAnswer Plain (all_or_none xs s) new
AddsRecords xs s (Err e) = RefusesMore s e
