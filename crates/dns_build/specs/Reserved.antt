-- A builder of which octets are reserved: pushes leave them free, in the capacity of the target and in the push limit. RFC 6891 section 6.1.1; RFC 8945 section 5.1.
use Rattle.std.specs.Prelude.{◌≡◌, ◌⊎◌, ℕ, ◌+◌, ◌^◌, ◌≤◌, ◌<◌, Bool, IsTrue, List, Option, Some, length, refl, Result, Ok, Err}
use Rattle.std.specs.Coded.{Coded, code_by, coded×, coded_ℕ}
use Rattle.dns_wire.specs.Encoders.{Rule}
use Rattle.dns_wire.specs.Targets.{Exceeds, Fits}
use Rattle.dns_item.specs.Items.{RecordItem}
use Rattle.dns_build.specs.BuilderStates.{Built, built_code, size_after}
use Rattle.dns_build.specs.Sets.{AllFit, SetIsRefused}
use Rattle.dns_build.specs.State.{Stage, State, most_entries, with_records}
use Rattle.dns_build.specs.declared.push_error.PushError.{PushError}
use Rattle.dns_build.specs.declared.push_error.PushError.TheVariants.{CountOverflow, LimitExceeded, ShortBuf, OutOfMemory}

-- the builder, whose push limit is lowered by the reserved octets, and their number
pub record Reserving : Type 0 where
  pub built : Built
  pub reserved : ℕ

abbrev pub reserving_code : Coded Reserving
reserving_code = code_by (Built × ℕ) (coded× built_code coded_ℕ) (λ r. (r.built, r.reserved)) (λ p. record { built = p.0; reserved = p.1 }) (λ _. refl)

-- The message with the reserved octets is within the capacity of the target, and the message alone within the lowered push limit.
pub record IsReserved (capacity : Option ℕ) (r : Reserving) : Type 0 where
  pub fits : (most : ℕ) → capacity ≡ Some most → length r.built.written.octets + r.reserved ≤ most
  pub within : length r.built.written.octets ≤ r.built.limit
  pub limited : r.built.limit + r.reserved < 2 ^ 64

-- the result of reserving octets, without the builder
abbrev pub reserve_result : {X Y : Type 0} → Result X (Y × PushError) → Result (Unit {0}) PushError
reserve_result (Ok reserved) = Ok tt
reserve_result (Err refused) = Err refused.1

-- the builder that is returned with success or with an error
abbrev pub builder_in : {X : Type 0} → Result Built (Built × X) → Built
builder_in (Ok b) = b
builder_in (Err refused) = refused.0

-- The result of a push after which the message would have n octets, into a section with `count` items, while further octets are reserved. The limit is lowered by them.
-- All errors of the push come before that of the reserved octets.
abbrev pub PushLeaving : Option ℕ → Bool → ℕ → ℕ → ℕ → ℕ → Result (Unit {0}) PushError → Type 0
PushLeaving capacity grows limit reserved n count (Ok _) = Fits capacity (n + reserved) × (n ≤ limit) × (count < most_entries)
PushLeaving capacity grows limit reserved n count (Err ShortBuf) = Exceeds capacity n ⊎ (Exceeds capacity (n + reserved) × (n ≤ limit) × (count < most_entries))
PushLeaving capacity grows limit reserved n count (Err OutOfMemory) = IsTrue grows
PushLeaving capacity grows limit reserved n count (Err LimitExceeded) = Fits capacity n × (limit < n)
PushLeaving capacity grows limit reserved n count (Err CountOverflow) = Fits capacity n × (n ≤ limit) × (count ≡ most_entries)

-- The result of pushing these records onto the state `s`, all or none, while further octets are reserved. All errors of the push come before that of the reserved octets.
abbrev pub SetLeaving : Option ℕ → Bool → Rule → Stage → State → ℕ → List RecordItem → Result (Unit {0}) PushError → Type 0
SetLeaving capacity grows rule stage s reserved xs (Ok _) =
    AllFit capacity grows rule stage s xs × Fits capacity (size_after rule (with_records stage xs) s + reserved) × (size_after rule (with_records stage xs) s ≤ s.limit)
SetLeaving capacity grows rule stage s reserved xs (Err ShortBuf) =
    SetIsRefused capacity grows rule stage s xs ShortBuf ⊎ (AllFit capacity grows rule stage s xs × Exceeds capacity (size_after rule (with_records stage xs) s + reserved))
SetLeaving capacity grows rule stage s reserved xs (Err OutOfMemory) = IsTrue grows
SetLeaving capacity grows rule stage s reserved xs (Err LimitExceeded) = SetIsRefused capacity grows rule stage s xs LimitExceeded
SetLeaving capacity grows rule stage s reserved xs (Err CountOverflow) = SetIsRefused capacity grows rule stage s xs CountOverflow
