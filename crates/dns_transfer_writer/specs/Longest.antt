-- No message could have more of the records that come next. RFC 5936 section 2.2.
use Rattle.std.specs.Prelude.{◌≡◌, ℕ, ◌≤◌, Bool, List, ◌∷◌, ◌++◌, length, Option}
use Rattle.dns_wire.specs.Encoders.{Rule}
use Rattle.dns_item.specs.Items.{RecordItem}
use Rattle.dns_build.specs.BuilderStates.{Built}
use Rattle.dns_build.specs.State.{most_entries}
use Rattle.dns_transfer_writer.specs.Filling.{MessageFits}
use Rattle.dns_transfer_writer.specs.Messages.{Holds, message_state}

-- a message can have these records: it fits with them, and they are at most 65,535
pub record CanHold (capacity : Option ℕ) (rule : Rule) (begun : Bool) (limit : ℕ) (query : List ℕ) (xs : List RecordItem) : Type 0 where
  pub fits : MessageFits capacity rule (message_state begun limit query xs)
  pub few : length xs ≤ most_entries

-- A message of a writer has at least as many of the records `xs` as any beginning `ys` of them that a message can have.
abbrev pub MessagesAreLongest : Type 0
MessagesAreLongest = (capacity : Option ℕ) (rule : Rule) (begun : Bool) (limit : ℕ) (query : List ℕ) (xs left : List RecordItem) (b : Built)
    → (holds : Holds capacity rule begun limit query xs left b)
    → (ys rest : List RecordItem) → xs ≡ ys ++ rest → CanHold capacity rule begun limit query ys → length ys ≤ length (holds.first ∷ holds.others)
