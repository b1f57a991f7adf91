-- How the steps of a copy combine.
use Rattle.std.proofs.Common.{◌≡◌, sym, refl, subst, ℕ, Bool, List, [], ◌∷◌, length}
use Rattle.std.specs.Prelude.{Option, Result, Ok, Err, OnOk, OnErr}
use Rattle.dns_octets.specs.declared.error.ParseError.{ParseError}
use Rattle.dns_name.specs.Names.{Fault, fault_of}
use Rattle.dns_wire.specs.Encoders.{Rule}
use Rattle.dns_item.specs.Items.{RecordItem}
use Rattle.dns_item.specs.ParsedRecord.{EncodedRecord}
use Rattle.dns_item.specs.declared.parsed_record.ParsedRecord.{ParsedRecord}
use Rattle.dns_build.specs.CopyRecords.{PushesRecord, CopiesList, CopiesRecordTo, CopiesListTo}
use Rattle.dns_build.specs.CopyRecords.CopiesList.{none, copied, refused, fault}
use Rattle.dns_build.specs.State.{Stage, State, with_record, records_at}
use Rattle.dns_build.specs.BuilderStates.{Built, Represents, MovesState, PushReturnsInEach}
use Rattle.dns_build.specs.declared.push_error.PushError.{PushError}
use Rattle.dns_build.specs.declared.copy_records_error.CopyRecordsError.{CopyRecordsError}
use Rattle.dns_build.specs.declared.copy_records_error.CopyRecordsError.TheVariants.{Parse, Push}

-- the clauses of a push, for one state
pub pushes_record : (capacity : Option ℕ) (grows : Bool) (rule : Rule) (stage : Stage) (x : RecordItem) (s : State) (old new : Built) (result : Result (Unit {0}) PushError)
    → Represents stage rule s old → OnOk result (MovesState stage stage rule (with_record stage x) old new) → OnErr result (new ≡ old)
    → PushReturnsInEach stage capacity grows rule (with_record stage x) (λ t. length (records_at stage t)) old result
    → (left : State) × PushesRecord capacity grows rule stage x s result left × Represents stage rule left new
pushes_record capacity grows rule stage x s old new (Ok u) represents accepted same outcome = (with_record stage x s, (outcome.each s represents, refl), accepted s represents)
pushes_record capacity grows rule stage x s old new (Err e) represents accepted same outcome = (s, (outcome.each s represents, refl), subst (Represents stage rule s) (sym same) represents)

module _ {F R : Type 0} (call : F → ParsedRecord → Option R → F → Type 0) (item : R → RecordItem) (capacity : Option ℕ) (grows : Bool) (rule : Rule) (stage : Stage) where
  -- a reading is copied up to `ys`: whatever copying `ys` gives, copying all of `xs` gives
  pub record SoFar (xs : List (Result EncodedRecord Fault)) (f : F) (s : State) (ys : List (Result EncodedRecord Fault)) (g : F) (now : Built) : Type 0 where
    pub state : State
    pub represents : Represents stage rule state now
    pub rest : (result : Result (Unit {0}) CopyRecordsError) (h : F) (u : State) → CopiesList call item capacity grows rule stage ys g state result h u
        → CopiesList call item capacity grows rule stage xs f s result h u

  -- one more record is copied
  pub so_far_more : (xs : List (Result EncodedRecord Fault)) (f : F) (s : State) (ys : List (Result EncodedRecord Fault)) (g : F) (now : Built)
      (x : EncodedRecord) (zs : List (Result EncodedRecord Fault)) (h : F) (new : Built)
      → SoFar xs f s ys g now → ys ≡ Ok x ∷ zs → ((t : State) → Represents stage rule t now → CopiesRecordTo call item capacity grows rule stage x g t (Ok tt) h new) → SoFar xs f s zs h new
  so_far_more xs f s ys g now x zs h new p is step =
      let made = step p.state p.represents in
      record {
        state = made.0;
        represents = made.2;
        rest = λ result k u c. p.rest result k u (subst (λ (l : List (Result EncodedRecord Fault)). CopiesList call item capacity grows rule stage l g p.state result k u) (sym is) (copied made.1 c));
      }

  -- all records are copied
  pub so_far_all : (xs : List (Result EncodedRecord Fault)) (f : F) (s : State) (ys : List (Result EncodedRecord Fault)) (g : F) (now : Built) → SoFar xs f s ys g now → ys ≡ []
      → CopiesListTo call item capacity grows rule stage xs f s (Ok tt) g now
  so_far_all xs f s ys g now p is =
      (p.state, p.rest (Ok tt) g p.state (subst (λ (l : List (Result EncodedRecord Fault)). CopiesList call item capacity grows rule stage l g p.state (Ok tt) g p.state) (sym is) none), p.represents)

  -- the next item is a fault
  pub so_far_fault : (xs : List (Result EncodedRecord Fault)) (f : F) (s : State) (ys : List (Result EncodedRecord Fault)) (g : F) (now : Built)
      (e : ParseError) (zs : List (Result EncodedRecord Fault))
      → SoFar xs f s ys g now → ys ≡ Err (fault_of e) ∷ zs → CopiesListTo call item capacity grows rule stage xs f s (Err (Parse e)) g now
  so_far_fault xs f s ys g now e zs p is = (
    p.state,
    p.rest (Err (Parse e)) g p.state
        (subst (λ (l : List (Result EncodedRecord Fault)). CopiesList call item capacity grows rule stage l g p.state (Err (Parse e)) g p.state) (sym is) fault),
    p.represents,
  )

  -- pushing the next record fails
  pub so_far_refused : (xs : List (Result EncodedRecord Fault)) (f : F) (s : State) (ys : List (Result EncodedRecord Fault)) (g : F) (now : Built)
      (x : EncodedRecord) (zs : List (Result EncodedRecord Fault)) (e : PushError) (h : F) (new : Built)
      → SoFar xs f s ys g now → ys ≡ Ok x ∷ zs → ((t : State) → Represents stage rule t now → CopiesRecordTo call item capacity grows rule stage x g t (Err e) h new)
      → CopiesListTo call item capacity grows rule stage xs f s (Err (Push e)) h new
  so_far_refused xs f s ys g now x zs e h new p is step =
      let made = step p.state p.represents in (
        made.0,
        p.rest (Err (Push e)) h made.0
            (subst (λ (l : List (Result EncodedRecord Fault)). CopiesList call item capacity grows rule stage l g p.state (Err (Push e)) h made.0) (sym is) (refused made.1)),
        made.2,
      )
