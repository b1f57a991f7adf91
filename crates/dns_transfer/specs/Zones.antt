-- What the steps of a transfer do to a zone, which is a set of records: a list of which only membership counts. RFC 5936 section 2.2, RFC 1995 section 4.
--
-- The laws are over records as values. Records that differ in the case of names are two values, unless each is first brought to its canonical form (`canonical` of dns_data, `lowered`).
use Rattle.std.specs.Prelude.{◌≡◌, ◌≢◌, ◌↔◌, ℕ, ◌⊎◌, List, [], ◌∷◌, ◌++◌, map}
use Rattle.std.specs.List.{flat_map}
use Rattle.dns_item.specs.Items.{RecordItem}
use Rattle.dns_transfer.specs.Forms.{Difference, all_removed, all_added, difference_steps}
use Rattle.dns_transfer.specs.Runs.{StepOf}
use Rattle.dns_transfer.specs.Runs.StepOf.{Begin, UpToDate, FallsBackToAxfr, Remove, Add, End}

module _ {R : Type 0} where
  -- a record is in a zone
  abbrev pub IsIn : R → List R → Type 0
  IsIn x [] = ⊥
  IsIn x (y ∷ zone) = (x ≡ y) ⊎ IsIn x zone

  -- two lists have the same records
  abbrev pub SameZone : List R → List R → Type 0
  SameZone old new = (x : R) → IsIn x new ↔ IsIn x old

  -- the new zone is the old one without a record
  abbrev pub IsWithout : R → List R → List R → Type 0
  IsWithout r old new = (x : R) → IsIn x new ↔ (IsIn x old × (x ≢ r))

  -- the new zone is the old one with a record
  abbrev pub IsWith : R → List R → List R → Type 0
  IsWith r old new = (x : R) → IsIn x new ↔ (IsIn x old ⊎ (x ≡ r))

  -- What one step does. `soa` is the record of `Begin`, with which a whole zone begins.
  abbrev pub Applies : R → StepOf R → List R → List R → Type 0
  Applies soa (Begin serial r) old new = SameZone old new
  Applies soa (UpToDate serial) old new = SameZone old new
  Applies soa FallsBackToAxfr old new = SameZone (soa ∷ []) new
  Applies soa (Remove r) old new = IsWithout r old new
  Applies soa (Add r) old new = IsWith r old new
  Applies soa (End serial) old new = SameZone old new

  -- what steps do, one after the other
  pub data ApplyAll (soa : R) : List (StepOf R) → List R → List R → Type 0 where
    none : {zone : List R} → ApplyAll soa [] zone zone
    more : {step : StepOf R} {steps : List (StepOf R)} {old mid new : List R} → Applies soa step old mid → ApplyAll soa steps mid new → ApplyAll soa (step ∷ steps) old new

  -- A difference between two versions of a zone: the new one is what it doesn't remove of the old one, and what it adds.
  abbrev pub IsChange : Difference R → List R → List R → Type 0
  IsChange d old new = (x : R) → IsIn x new ↔ ((IsIn x old × ¬ IsIn x (all_removed d)) ⊎ IsIn x (all_added d))

  -- the history of a zone: differences between its versions, oldest first
  pub data IsHistory : List (Difference R) → List R → List R → Type 0 where
    none : {zone : List R} → IsHistory [] zone zone
    more : {d : Difference R} {ds : List (Difference R)} {old mid new : List R} → IsChange d old mid → IsHistory ds mid new → IsHistory (d ∷ ds) old new

-- The steps of the differences between a zone's versions, applied to the first version, give the last one.
abbrev pub ChangesLead : Type 0
ChangesLead = (soa : RecordItem) (ds : List (Difference RecordItem)) (old new result : List RecordItem)
    → IsHistory ds old new → ApplyAll soa (flat_map difference_steps ds) old result → SameZone new result

-- The steps of a whole zone that is sent in place of changes give the records that they hand out, whatever the version before had.
abbrev pub WholeReplaces : Type 0
WholeReplaces = (soa : RecordItem) (serial : ℕ) (others old result : List RecordItem)
    → ApplyAll soa (Begin serial soa ∷ FallsBackToAxfr ∷ map Add others ++ End serial ∷ []) old result → SameZone (soa ∷ others) result

-- By AXFR they give these records from the first of them, which is that of `Begin`.
abbrev pub WholeIsMade : Type 0
WholeIsMade = (soa : RecordItem) (serial : ℕ) (others result : List RecordItem)
    → ApplyAll soa (Begin serial soa ∷ map Add others ++ End serial ∷ []) (soa ∷ []) result → SameZone (soa ∷ others) result
