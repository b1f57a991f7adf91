-- Sets of records that are pushed whole or not at all. RFC 2181 section 5.
use Rattle.std.specs.Prelude.{◌≡◌, ℕ, Bool, List, ◌∷◌, ◌++◌, length, Option, Result, Ok, Err}
use Rattle.dns_wire.specs.Encoders.{Rule}
use Rattle.dns_item.specs.Items.{RecordItem}
use Rattle.dns_build.specs.State.{Stage, State, with_record, with_records, records_at}
use Rattle.dns_build.specs.BuilderStates.{PushReturns, size_after}
use Rattle.dns_build.specs.declared.push_error.PushError.{PushError}

-- Pushing records into the section of `stage`, onto the state `s`, over a target with capacity `capacity`, which allocates if `grows`, under the compression rule `rule`.
module _ (capacity : Option ℕ) (grows : Bool) (rule : Rule) (stage : Stage) (s : State) where
  -- the result of pushing the record `x` after the records `before`
  abbrev pub ReturnsAfter : List RecordItem → RecordItem → Result (Unit {0}) PushError → Type 0
  ReturnsAfter before x =
      let t = with_records stage before s in
      PushReturns capacity grows t.limit (size_after rule (with_record stage x) t) (length (records_at stage t))

  -- each of these records can be pushed after those before it
  abbrev pub AllFit : List RecordItem → Type 0
  AllFit xs = (before : List RecordItem) (x : RecordItem) (after : List RecordItem) → xs ≡ before ++ x ∷ after → ReturnsAfter before x (Ok tt)

  -- the first records can be pushed, and pushing the next one fails
  pub record SetIsRefused (xs : List RecordItem) (e : PushError) : Type 0 where
    pub first : List RecordItem
    pub next : RecordItem
    pub others : List RecordItem
    pub all : xs ≡ first ++ next ∷ others
    pub accepted : AllFit first
    pub refused : ReturnsAfter first next (Err e)

  -- the result of pushing a set: success if all records can be pushed, or else the error of the first that can't be
  abbrev pub SetReturns : List RecordItem → Result (Unit {0}) PushError → Type 0
  SetReturns xs (Ok _) = AllFit xs
  SetReturns xs (Err e) = SetIsRefused xs e
