-- The forms of a whole transfer: its records, and their steps. RFC 5936 section 2.2, RFC 1995 sections 2, 4 and 6.
--
-- `kind` says what a record is. `IsTransfer` doesn't speak of states; `FormsAreRead` and `OnlyFormsAreRead` say that exactly these records are read to the end, with these steps.
use Rattle.std.specs.Prelude.{◌≡◌, ◌≢◌, ℕ, List, [], ◌∷◌, ◌++◌, map, Result, Ok, Err}
use Rattle.std.specs.List.{AllByRecursion, flat_map}
use Rattle.dns_iana.specs.Serials.{IsGreater}
use Rattle.dns_name.specs.Names.{Fault}
use Rattle.dns_item.specs.ParsedRecord.{EncodedRecord}
use Rattle.dns_transfer.specs.Asked.{Asked}
use Rattle.dns_transfer.specs.Kinds.{kind_of}
use Rattle.dns_transfer.specs.Runs.{StepOf, ItemOf, RunOf, run}
use Rattle.dns_transfer.specs.Runs.StepOf.{Begin, UpToDate, FallsBackToAxfr, Remove, Add, End}
use Rattle.dns_transfer.specs.declared.error.TransferError.{TransferError}
use Rattle.dns_transfer.specs.declared.grammar.Request.{Request}
use Rattle.dns_transfer.specs.declared.grammar.Request.TheVariants.{Axfr, Ixfr}
use Rattle.dns_transfer.specs.declared.grammar.State.{State}
use Rattle.dns_transfer.specs.declared.grammar.State.TheVariants.{Wanted, Ended}
use Rattle.dns_transfer.specs.declared.grammar.Kind.{Kind}
use Rattle.dns_transfer.specs.declared.grammar.Kind.TheVariants.{Soa, Other}

-- A difference sequence: the SOA record of the older version and the records that are removed, then that of the newer version and the records that are added. RFC 1995 section 4.
pub record Difference (R : Type 0) : Type 0 where
  pub old_soa : R
  pub removed : List R
  pub new_soa : R
  pub added : List R

module _ {R : Type 0} where
  -- what a difference removes and adds, the SOA records first
  abbrev pub all_removed : Difference R → List R
  all_removed d = d.old_soa ∷ d.removed

  abbrev pub all_added : Difference R → List R
  all_added d = d.new_soa ∷ d.added

  -- its records in a transfer, and their steps
  abbrev pub difference_records : Difference R → List R
  difference_records d = all_removed d ++ all_added d

  abbrev pub difference_steps : Difference R → List (StepOf R)
  difference_steps d = map Remove (all_removed d) ++ map Add (all_added d)

  -- records without a fault
  abbrev pub whole_reading : List R → List (Result R Fault)
  whole_reading = map (λ r. Ok r)

  -- steps without an error
  abbrev pub whole_steps : List (StepOf R) → List (ItemOf R)
  whole_steps = map (λ step. Ok step)

  module _ (kind : R → Result Kind TransferError) where
    -- a record is the zone's SOA record with this serial
    abbrev pub IsSoa : ℕ → R → Type 0
    IsSoa serial r = kind r ≡ Ok (Soa serial)

    -- records are others of the zone
    abbrev pub AreOthers : List R → Type 0
    AreOthers = AllByRecursion (λ r. kind r ≡ Ok Other)

    -- a difference from the version with one serial to a newer one
    pub record IsDifference (from to : ℕ) (d : Difference R) : Type 0 where
      pub old_serial : IsSoa from d.old_soa
      pub removes : AreOthers d.removed
      pub new_serial : IsSoa to d.new_soa
      pub newer : IsGreater to from
      pub adds : AreOthers d.added

    -- Differences lead from one version to another, one after the other; only the last of them leads to that version.
    pub data AreDifferences : ℕ → ℕ → List (Difference R) → Type 0 where
      last : {from to : ℕ} {d : Difference R} → IsDifference from to d → AreDifferences from to (d ∷ [])
      more : {from mid to : ℕ} {d : Difference R} {ds : List (Difference R)}
          → IsDifference from mid d → mid ≢ to → AreDifferences mid to ds → AreDifferences from to (d ∷ ds)

    -- The records of a whole transfer, and their steps.
    pub data IsTransfer : Request → List R → List (StepOf R) → Type 0 where
      -- the whole zone, with its SOA record first and last: RFC 5936 section 2.2
      whole : {serial : ℕ} {first end : R} (others : List R)
          → IsSoa serial first → AreOthers others → IsSoa serial end
          → IsTransfer Axfr (first ∷ others ++ end ∷ []) (Begin serial first ∷ map Add others ++ End serial ∷ [])
      -- the SOA record of a version that isn't newer: RFC 1995 section 2
      up_to_date : {known serial : ℕ} {first : R}
          → IsSoa serial first → ¬ IsGreater serial known
          → IsTransfer (Ixfr known) (first ∷ []) (UpToDate serial ∷ [])
      -- the whole zone in place of changes: RFC 1995 section 4
      fallen_back : {known serial : ℕ} {first end : R} (others : List R)
          → IsSoa serial first → IsGreater serial known → AreOthers others → IsSoa serial end
          → IsTransfer (Ixfr known) (first ∷ others ++ end ∷ []) (Begin serial first ∷ FallsBackToAxfr ∷ map Add others ++ End serial ∷ [])
      -- changes, with the SOA record of the last version before and after them: RFC 1995 section 4; condensed to one: section 6
      changes : {known serial : ℕ} {first end : R} {ds : List (Difference R)}
          → IsSoa serial first → IsGreater serial known → AreDifferences known serial ds → IsSoa serial end
          → IsTransfer (Ixfr known) (first ∷ flat_map difference_records ds ++ end ∷ []) (Begin serial first ∷ flat_map difference_steps ds ++ End serial ∷ [])

    -- records are read to the end, with these steps
    abbrev pub RunsToEnd : Request → List R → List (StepOf R) → Type 0
    RunsToEnd request rs steps = run kind request (whole_reading rs) Wanted ≡ (whole_steps steps, Ok Ended)

-- The records of a whole transfer are read to the end, with its steps.
abbrev pub FormsAreRead : Type 0
FormsAreRead = (asked : Asked) (rs : List EncodedRecord) (steps : List (StepOf EncodedRecord))
    → IsTransfer (kind_of asked) asked.request rs steps → RunsToEnd (kind_of asked) asked.request rs steps

-- Records that are read to the end are those of a whole transfer, and the steps are its.
abbrev pub OnlyFormsAreRead : Type 0
OnlyFormsAreRead = (asked : Asked) (rs : List EncodedRecord) (steps : List (StepOf EncodedRecord))
    → RunsToEnd (kind_of asked) asked.request rs steps → IsTransfer (kind_of asked) asked.request rs steps

-- the records that are handed out as the zone's: that of `Begin`, and those that are added
abbrev pub records_of_steps : {R : Type 0} → List (StepOf R) → List R
records_of_steps [] = []
records_of_steps (Begin serial r ∷ steps) = r ∷ records_of_steps steps
records_of_steps (UpToDate serial ∷ steps) = records_of_steps steps
records_of_steps (FallsBackToAxfr ∷ steps) = records_of_steps steps
records_of_steps (Remove r ∷ steps) = records_of_steps steps
records_of_steps (Add r ∷ steps) = r ∷ records_of_steps steps
records_of_steps (End serial ∷ steps) = records_of_steps steps

-- The steps of a transfer by AXFR hand out all of its records in order but the last, which is the zone's SOA record again: so each record once, as it was sent once.
abbrev pub ZonesAreWhole : Type 0
ZonesAreWhole = (asked : Asked) (rs : List EncodedRecord) (steps : List (StepOf EncodedRecord)) → asked.request ≡ Axfr → RunsToEnd (kind_of asked) asked.request rs steps
    → (serial : ℕ) × (end : EncodedRecord) × (kind_of asked end ≡ Ok (Soa serial)) × (rs ≡ records_of_steps steps ++ end ∷ [])

-- A list of records is read as its parts are, one after the other: first those of the first part, then from the state after it those of the second.
abbrev pub continued : {R : Type 0} → RunOf R → (State → RunOf R) → RunOf R
continued (items, Ok state) later = (items ++ (later state).0, (later state).1)
continued (items, Err e) later = (items, Err e)

abbrev pub RunsJoin : Type 0
RunsJoin = (asked : Asked) (xs ys : List (Result EncodedRecord Fault)) (state : State)
    → run (kind_of asked) asked.request (xs ++ ys) state ≡ continued (run (kind_of asked) asked.request xs state) (run (kind_of asked) asked.request ys)
