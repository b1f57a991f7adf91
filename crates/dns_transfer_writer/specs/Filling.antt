-- Records that are pushed while they fit. RFC 5936 section 2.2.
use Rattle.std.specs.Prelude.{◌≡◌, ℕ, ◌≤◌, ◌<◌, ◌⊎◌, Bool, true, false, List, [], ◌∷◌, ◌++◌, length, Option}
use Rattle.dns_wire.specs.Encoders.{Rule}
use Rattle.dns_wire.specs.Targets.{Exceeds, Fits}
use Rattle.dns_item.specs.Items.{RecordItem}
use Rattle.dns_build.specs.BuilderStates.{Built, Represents, size_after}
use Rattle.dns_build.specs.State.{InAnswer, State, encode, most_entries, with_record, with_records}
use Rattle.dns_build.specs.declared.push_error.PushError.{PushError}
use Rattle.dns_build.specs.declared.push_error.PushError.TheVariants.{CountOverflow, LimitExceeded, OutOfMemory, ShortBuf}

-- a push fails as the message is full, not as an allocation failed
abbrev pub is_full : PushError → Bool
is_full ShortBuf = true
is_full LimitExceeded = true
is_full CountOverflow = true
is_full OutOfMemory = false

-- a message of n octets fits in the capacity of the target and in the limit
abbrev pub OctetsFit : Option ℕ → ℕ → ℕ → Type 0
OctetsFit capacity limit n = Fits capacity n × (n ≤ limit)

-- the message of a state fits
abbrev pub MessageFits : Option ℕ → Rule → State → Type 0
MessageFits capacity rule s = OctetsFit capacity s.limit (length (encode rule s).octets)

-- a message of n octets with one more record doesn't fit: the capacity, the limit, or the maximum of 65,535 records is exceeded
abbrev pub IsTooMuch : Option ℕ → ℕ → ℕ → ℕ → Type 0
IsTooMuch capacity limit n count = Exceeds capacity n ⊎ ((limit < n) ⊎ (count ≡ most_entries))

-- the first of these records doesn't fit in the message too, if there is one
abbrev pub NextDoesNotFit : Option ℕ → Rule → State → List RecordItem → Type 0
NextDoesNotFit capacity rule s [] = Unit {0}
NextDoesNotFit capacity rule s (x ∷ xs) = IsTooMuch capacity s.limit (size_after rule (with_record InAnswer x) s) (length s.answers)

-- While the records `xs` are pushed onto the state `s`: those before `left` are pushed.
pub record Filling (capacity : Option ℕ) (rule : Rule) (s : State) (xs left : List RecordItem) (now : Built) : Type 0 where
  pub pushed : List RecordItem
  pub all : xs ≡ pushed ++ left
  pub fits : MessageFits capacity rule s → MessageFits capacity rule (with_records InAnswer pushed s)
  pub represents : Represents InAnswer rule (with_records InAnswer pushed s) now

-- The longest beginning of the records `xs` is pushed that fits.
pub record Fills (capacity : Option ℕ) (rule : Rule) (s : State) (xs left : List RecordItem) (now : Built) : Type 0 where
  pub filling : Filling capacity rule s xs left now
  pub next : NextDoesNotFit capacity rule (with_records InAnswer filling.pushed s) left
