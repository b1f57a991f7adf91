-- How the copies of sections combine.
use Rattle.std.proofs.Common.{◌≡◌, ◌∙◌, subst, ap, inr, ℕ, Bool, List, [], ◌∷◌}
use Rattle.std.specs.Prelude.{Option, Some, Result, Ok, Err}
use Rattle.dns_octets.specs.declared.error.ParseError.{ParseError}
use Rattle.dns_name.specs.Names.{Fault, fault_of}
use Rattle.dns_wire.specs.Encoders.{Rule}
use Rattle.dns_item.specs.Items.{RecordItem, SkipsRecord, RecordSkipFaultAt}
use Rattle.dns_item.specs.ParsedRecord.{EncodedRecord}
use Rattle.dns_item.specs.declared.parsed_record.ParsedRecord.{ParsedRecord}
use Rattle.dns_read.specs.Reading.{StopsSkipping}
use Rattle.dns_read.specs.RecordSection.{octets_of, position, to_come, records_left, BeginsSection}
use Rattle.dns_read.specs.Sections.{record_count, StartFault, StartsAt, section_after}
use Rattle.dns_read.specs.Skipping.{StopsInRest}
use Rattle.dns_read.specs.declared.record_section.RecordSection.{RecordSection}
use Rattle.dns_read.specs.declared.section.Section.{Section}
use Rattle.dns_read.specs.declared.section.Section.TheVariants.{Answer, Authority, Additional}
use Rattle.dns_build.specs.CopyRecords.{record_sections, CopiesList, CopiesSection, CopiesSections, CopiesListTo, CopiesMessage}
use Rattle.dns_build.specs.CopyRecords.CopiesSection.{started, unstarted}
use Rattle.dns_build.specs.CopyRecords.CopiesSections.{none, copied, stopped}
use Rattle.dns_build.specs.State.{Stage, InAnswer, InAdditional, State, stage_of, up_to, move_to}
use Rattle.dns_build.specs.BuilderStates.{Built, Represents, MovesState, InEach}
use Rattle.dns_build.specs.declared.copy_records_error.CopyRecordsError.{CopyRecordsError}
use Rattle.dns_build.specs.declared.copy_records_error.CopyRecordsError.TheVariants.{Parse}

-- moving a state at the answer section to that section changes nothing
in_answer_already : (s : State) → s.stage ≡ InAnswer → s ≡ up_to InAnswer s → s ≡ move_to InAnswer s
in_answer_already s here last = (λ i. record s { stage = here i }) ∙ ap (λ (t : State). record t { stage = InAnswer }) last

-- the fault of a record that can't be skipped is why the next section has no start
start_fault : (which next : Section) (b : List ℕ) (p : ℕ) (f : Fault) → section_after which ≡ Some next → (StartsAt which b p)
    → StopsSkipping (SkipsRecord b) (RecordSkipFaultAt b) (record_count which b) p f → StartFault next b f
start_fault Answer next b p f after start stops = let e : Authority ≡ next = cc in subst (λ k. StartFault k b f) e (inr (p, start, stops))
start_fault Authority next b p f after start stops = let e : Additional ≡ next = cc in subst (λ k. StartFault k b f) e (inr (p, start, stops))
start_fault Additional next b p f after start stops = absurd (cc)

-- If the next section has no start, going on to it gives that error.
pub next_fault : (which next : Section) (b : List ℕ) (cursor : RecordSection) (e : ParseError) → section_after which ≡ Some next → BeginsSection which b cursor
    → StopsInRest (SkipsRecord (octets_of cursor)) (RecordSkipFaultAt (octets_of cursor)) (to_come cursor) (position cursor) e → StartFault next b (fault_of e)
next_fault which next b cursor e after begins stops =
    let counted = subst (λ (left : Result ℕ ParseError). StopsInRest (SkipsRecord (octets_of cursor)) (RecordSkipFaultAt (octets_of cursor)) left (position cursor) e) begins.fresh.count stops in
    let there = subst (λ (o : List ℕ). StopsInRest (SkipsRecord o) (RecordSkipFaultAt o) (Ok (record_count which b)) (position cursor) e) begins.fresh.octets counted in
    start_fault which next b (position cursor) (fault_of e) after begins.start there

module _ {F R : Type 0} (call : F → ParsedRecord → Option R → F → Type 0) (item : R → RecordItem) (capacity : Option ℕ) (grows : Bool) (rule : Rule) (b : List ℕ) where
  -- some sections are copied, `which` and `sections` remain, and the builder has moved to `which`
  pub record Entered (f : F) (s : State) (which : Section) (sections : List Section) (g : F) (now : Built) : Type 0 where
    pub state : State
    pub represents : Represents (stage_of which) rule (move_to (stage_of which) state) now
    pub rest : (result : Result (Unit {0}) CopyRecordsError) (h : F) (u : State) → CopiesSections call item capacity grows rule b (which ∷ sections) g state result h u
        → CopiesSections call item capacity grows rule b record_sections f s result h u

  -- some sections are copied, and `sections` remain
  pub record Left (f : F) (s : State) (stage : Stage) (sections : List Section) (g : F) (now : Built) : Type 0 where
    pub state : State
    pub represents : Represents stage rule state now
    pub rest : (result : Result (Unit {0}) CopyRecordsError) (h : F) (u : State) → CopiesSections call item capacity grows rule b sections g state result h u
        → CopiesSections call item capacity grows rule b record_sections f s result h u

  -- nothing is copied yet
  pub enters_first : (f : F) (s : State) (now : Built) → Represents InAnswer rule s now → Entered f s Answer (Authority ∷ Additional ∷ []) f now
  enters_first f s now represents = record {
    state = s;
    represents = subst (λ (t : State). Represents InAnswer rule t now) (in_answer_already s represents.here represents.last) represents;
    rest = λ result h u c. c;
  }

  -- the builder moves to the next section
  pub enters : (f : F) (s : State) (stage : Stage) (which : Section) (sections : List Section) (g : F) (now new : Built) → Left f s stage (which ∷ sections) g now
      → MovesState stage (stage_of which) rule (move_to (stage_of which)) now new → Entered f s which sections g new
  enters f s stage which sections g now new p moves = record { state = p.state; represents = moves p.state p.represents; rest = p.rest }

  -- copying the records of a section from its start copies the section
  from_start : (which : Section) (cursor : RecordSection) (f g : F) (s t : State) (result : Result (Unit {0}) CopyRecordsError) → BeginsSection which b cursor
      → CopiesList call item capacity grows rule (stage_of which) (records_left cursor) f s result g t → CopiesSection call item capacity grows rule b which f s result g t
  from_start which cursor f g s t result begins copies =
      started (position cursor) begins.start
      (subst (λ (xs : List (Result EncodedRecord Fault)). CopiesList call item capacity grows rule (stage_of which) xs f s result g t) begins.fresh.records copies)

  -- a section is copied
  pub leaves : (f : F) (s : State) (which : Section) (sections : List Section) (g h : F) (now new : Built) (cursor : RecordSection) → Entered f s which sections g now → BeginsSection which b cursor
      → InEach (stage_of which) rule now (λ t. CopiesListTo call item capacity grows rule (stage_of which) (records_left cursor) g t (Ok tt) h new) → Left f s (stage_of which) sections h new
  leaves f s which sections g h now new cursor p begins copies =
      let made = copies (move_to (stage_of which) p.state) p.represents in
      record { state = made.0; represents = made.2; rest = λ result k u c. p.rest result k u (copied (from_start which cursor g h _ made.0 (Ok tt) begins made.1) c) }

  -- all sections are copied
  pub leaves_last : (f : F) (s : State) (g : F) (now : Built) → Left f s InAdditional [] g now → CopiesMessage call item capacity grows rule b f s (Ok now)
  leaves_last f s g now p = (g, p.state, p.rest (Ok tt) g p.state none, p.represents)

  -- a section has no start
  pub stops_before : (f : F) (s : State) (which : Section) (sections : List Section) (g : F) (now : Built) (e : ParseError) → Entered f s which sections g now → StartFault which b (fault_of e)
      → CopiesMessage call item capacity grows rule b f s (Err (Parse e))
  stops_before f s which sections g now e p faulty = (g, move_to (stage_of which) p.state, p.rest (Err (Parse e)) g _ (stopped (unstarted faulty)))

  -- the copy of a section stops at an error
  pub stops_within : (f : F) (s : State) (which : Section) (sections : List Section) (g h : F) (now new : Built) (cursor : RecordSection) (e : CopyRecordsError)
      → Entered f s which sections g now → BeginsSection which b cursor
      → InEach (stage_of which) rule now (λ t. CopiesListTo call item capacity grows rule (stage_of which) (records_left cursor) g t (Err e) h new)
      → CopiesMessage call item capacity grows rule b f s (Err e)
  stops_within f s which sections g h now new cursor e p begins copies =
      let made = copies (move_to (stage_of which) p.state) p.represents in
      (h, made.0, p.rest (Err e) h made.0 (stopped (from_start which cursor g h _ made.0 (Err e) begins made.1)))
