-- What is still to come in an iteration, step by step.
use Rattle.std.proofs.Common.{◌≡◌, ◌∙◌, ℕ, zero, suc, ◌+◌, ◌<◌, ◌≤◌, ◌⊎◌, inl, inr, true, List, [], ◌∷◌, length, map, ap, sym, refl, subst, arith}
use Rattle.std.proofs.lemmas.Option.{slice_get_past}
use Rattle.std.specs.Prelude.{Option, Some, None, Result, Ok, Err, slice_get, IfOk, IfErr}
use Rattle.std.specs.Option.{option_map_or}
use Rattle.dns_octets.specs.declared.error.ParseError.{ParseError}
use Rattle.dns_octets.specs.declared.error.ParseError.TheVariants as errors
use Rattle.dns_name.specs.Names.{Fault, FaultAt, EndsOrFaults, fault_of, head_of, head_at}
use Rattle.dns_name.specs.Names.Faulty.{head}
use Rattle.dns_name.specs.Names.Fault.{ShortInput}
use Rattle.dns_name.specs.Unique.{EncodedName}
use Rattle.dns_code.specs.HeaderSection.{header_size}
use Rattle.dns_item.specs.Questions.{QuestionItem, SkipsQuestion, ReadsQuestion, QuestionSkipFaultAt, QuestionFaultAt}
use Rattle.dns_item.specs.Items.{SkipsRecord, RecordEntry, ReadsRecord, RecordFaultAt}
use Rattle.dns_read.specs.Reading.{Skipped, StopsSkipping, Reading}
use Rattle.dns_read.specs.Reading.Reading.{none as no_entry, entry, stop}
use Rattle.dns_read.specs.Reading.Skipped.{none, more}
use Rattle.dns_read.specs.Reading.StopsSkipping.{after}
use Rattle.dns_read.specs.QuestionsFrom.{questions_from}
use Rattle.dns_read.specs.RecordsFrom.{records_from, in_octets, records_in}
use Rattle.dns_read.specs.Sections.{question_count, answer_count, authority_count, additional_count}
use Rattle.dns_read.specs.declared.section.Section.{Section}
use Rattle.dns_read.specs.declared.section.Section.TheVariants.{Answer, Authority, Additional}
use Rattle.dns_read.proofs.theory.QuestionsFromLemmas.{questions_from_are_read}
use Rattle.dns_read.proofs.theory.RecordsFromLemmas.{records_from_are_read}
use Rattle.dns_read.specs.StartOrFault.{questions_skip_or_stop}
use Rattle.dns_item.specs.ParsedRecord.{EncodedRecord}
use Rattle.dns_read.specs.Sections.{section_after, record_count, StartsAt, AnswersStart, AnswersFault}
use Rattle.dns_read.specs.MessageIter.{records_end, HasNoFault}
use Rattle.dns_read.specs.Searches.{questions_of}
use Rattle.dns_read.specs.SectionStarts.{found, records_of}
use Rattle.dns_read.proofs.theory.SectionLemmas.{starts_after}
use Rattle.dns_read.proofs.theory.SectionStartLemmas.{start_found, no_answers, no_authorities, no_additionals, no_reading}
use Rattle.dns_item.specs.AfterNames.FieldsFaultAt.{name as in_name}
use Rattle.dnsm_status.proofs.theory.FaultLemmas.{reported_fields}
use Rattle.dnsm_status.specs.Codes.{IsReported}
use Rattle.dnsm_read.specs.Names.{IsCachedOffset}
use Rattle.dnsm_read.specs.Steps.{left_from, Ends, EndsFrom, IsHeader, IsOpen, Opens, ReturnsQuestion, ReturnsRecord, ReturnsEntry, EntryFaultAt, LeftIn, ReportsFields, SkipsEntry, Spans, Steps}
use Rattle.dnsm_read.specs.Steps.Ends.{nothing, next_section, next_question, next_record}
use Rattle.dnsm_read.specs.declared.walk.Cursor.{Cursor}
use Rattle.dnsm_read.specs.declared.walk.Header.{Header}
use Rattle.dnsm_read.specs.declared.walk.Item.{Item}
use Rattle.dnsm_read.proofs.CachedOwnerLemmas.{entry_named}
use Rattle.dnsm_read.specs.Walk.{Asked, Stated, Given, walk_of, asked_then, stated_then, after_section, records_left, questions_end, section_at, count_at, left_at}

-- The offset after questions.

module _ {Exceeds : ℕ → ℕ → Type 0} {Stops : ℕ → Fault → Type 0} (h : EndsOrFaults Exceeds Stops) where
  found_end : (p q : ℕ) (s : ((q : ℕ) × Exceeds p q) ⊎ ((f : Fault) × Stops p f)) → Exceeds p q → found s ≡ Some q
  found_end p q (inl x) skipped = ap Some (h.one p x.0 q x.1 skipped)
  found_end p q (inr f) skipped = absurd (h.not_both p q f.0 skipped f.1)

  found_none : (p : ℕ) (f : Fault) (s : ((q : ℕ) × Exceeds p q) ⊎ ((f : Fault) × Stops p f)) → Stops p f → found s ≡ None
  found_none p f (inl x) stops = absurd (h.not_both p x.0 f x.1 stops)
  found_none p f (inr g) stops = refl

module _ (b : List ℕ) where
  end_skipped : (n p q : ℕ) → Skipped (SkipsQuestion b) n p q → questions_end b n p ≡ Some q
  unfolding questions_end
  end_skipped n p q skipped = let h = questions_skip_or_stop b n in found_end h p q (h.some p) skipped

  end_stopped : (n p : ℕ) (f : Fault) → StopsSkipping (SkipsQuestion b) (QuestionSkipFaultAt b) n p f → questions_end b n p ≡ None
  unfolding questions_end
  end_stopped n p f stops = let h = questions_skip_or_stop b n in found_none h p f (h.some p) stops

  end_by : (n p q : ℕ) → SkipsQuestion b p q → ((r : ℕ) × Skipped (SkipsQuestion b) n q r) ⊎ ((f : Fault) × StopsSkipping (SkipsQuestion b) (QuestionSkipFaultAt b) n q f)
      → questions_end b (suc n) p ≡ questions_end b n q
  end_by n p q skips (inl r) = end_skipped (suc n) p r.0 (more skips r.1) ∙ sym (end_skipped n q r.0 r.1)
  end_by n p q skips (inr f) = end_stopped (suc n) p f.0 (after skips f.1) ∙ sym (end_stopped n q f.0 f.1)

  -- after a question there is one less to skip
  end_after : (n p q : ℕ) → SkipsQuestion b p q → questions_end b (suc n) p ≡ questions_end b n q
  end_after n p q skips = end_by n p q skips ((questions_skip_or_stop b n).some q)

  -- what follows the questions
  abbrev follows : Option ℕ → List Given
  follows end = option_map_or (records_left Answer b (answer_count b)) end []

  -- Questions.

  -- A question that can be read is the first of what is left.
  pub question_first : (n p q : ℕ) (x : QuestionItem) → ReadsQuestion b p q x → left_at b 0 (suc n) p ≡ Ok (Asked x) ∷ left_at b 0 n q
  unfolding left_at
  question_first n p q x reads =
      ap (λ (xs : List (Result QuestionItem Fault)). asked_then xs (follows (questions_end b (suc n) p))) ((questions_from_are_read b).entry n p q x reads)
      ∙ ap (λ (end : Option ℕ). asked_then (Ok x ∷ questions_from b n q) (follows end)) (end_after n p q reads.skips)

  -- The fault of a question is all that is left.
  pub question_fault : (n p : ℕ) (f : Fault) → QuestionFaultAt b p f → left_at b 0 (suc n) p ≡ Err f ∷ []
  unfolding left_at
  question_fault n p f fault =
      ap (λ (xs : List (Result QuestionItem Fault)). asked_then xs (follows (questions_end b (suc n) p))) ((questions_from_are_read b).stop n p f fault)

  no_question : (p : ℕ) → left_at b 0 0 p ≡ left_at b 1 (answer_count b) p
  unfolding left_at
  no_question p =
      ap (λ (xs : List (Result QuestionItem Fault)). asked_then xs (follows (questions_end b 0 p))) ((questions_from_are_read b).none p)
      ∙ ap follows (end_skipped 0 p p none)

  -- Records.

  -- what is still to come, by what is read of a section
  abbrev by_reading : Section → ℕ → List (Result RecordEntry Fault) → List Given
  by_reading which p xs = let ys = map (in_octets b) xs in stated_then which ys (after_section which b (records_end p ys))

  record_then : (which : Section) (n p q : ℕ) (x : RecordEntry) → ReadsRecord b p q x → records_left which b (suc n) p ≡ Ok (Stated which x) ∷ records_left which b n q
  unfolding records_in
  record_then which n p q x reads =
      ap (by_reading which p) ((records_from_are_read b).entry n p q x reads)
      ∙ ap (λ (r : ℕ). Ok (Stated which x) ∷ by_reading which r (records_from b n q)) reads.rdata_end

  fault_then : (which : Section) (n p : ℕ) (f : Fault) → RecordFaultAt b p f → records_left which b (suc n) p ≡ Err f ∷ []
  unfolding records_in
  fault_then which n p f fault = ap (by_reading which p) ((records_from_are_read b).stop n p f fault)

  none_then : (which : Section) (p : ℕ) → records_left which b 0 p ≡ after_section which b p
  unfolding records_in
  none_then which p = ap (by_reading which p) ((records_from_are_read b).none p)

  -- A record that can be read is the first of what is left.
  pub record_first : (s n p q : ℕ) (x : RecordEntry) → ReadsRecord b p q x → left_at b (suc s) (suc n) p ≡ Ok (Stated (section_at (suc s)) x) ∷ left_at b (suc s) n q
  unfolding left_at
  record_first s n p q x reads = record_then (section_at (suc s)) n p q x reads

  -- The fault of a record is all that is left.
  pub record_fault : (s n p : ℕ) (f : Fault) → RecordFaultAt b p f → left_at b (suc s) (suc n) p ≡ Err f ∷ []
  unfolding left_at
  record_fault s n p f fault = fault_then (section_at (suc s)) n p f fault

  -- Sections.

  -- After the last item of a section come those of the next one.
  pub section_moves : (s p : ℕ) → s < 3 → left_at b (suc s) (count_at b (suc s)) p ≡ left_at b s 0 p
  unfolding left_at
  section_moves zero p less = sym (no_question p)
  section_moves (suc zero) p less = sym (none_then Answer p)
  section_moves (suc (suc zero)) p less = sym (none_then Authority p)
  section_moves (suc (suc (suc s))) p less = absurd (omega arith)

  -- After the last item of the last section nothing is left.
  pub nothing_left : (p : ℕ) → left_at b 3 0 p ≡ []
  unfolding left_at
  nothing_left p = none_then Additional p

-- how a cursor moves on to the next section
pub moved_on : (b : List ℕ) (s n m p : ℕ) → n ≡ 0 → s < 3 → m ≡ count_at b (s + 1) → left_at b (s + 1) m p ≡ left_at b s n p
moved_on b s n m p empty less counted =
    let next : s + 1 ≡ suc s = omega arith in
    ap (λ k. left_at b (s + 1) k p) counted ∙ ap (λ t. left_at b t (count_at b t) p) next ∙ section_moves b s p less ∙ ap (λ k. left_at b s k p) (sym empty)

-- The entry at a cursor.

-- A number that isn't zero is a successor.
pub positive : (n : ℕ) → (n ≡ 0 → ⊥) → (m : ℕ) × (n ≡ suc m)
positive zero other = absurd (other refl)
positive (suc m) other = (m, refl)

-- In the first section an entry is a question.
pub entry_of_question : (b : List ℕ) (cursor : Cursor) (r : Result (Item × ℕ) ParseError) → cursor.section ≡ 0 → ReturnsQuestion b cursor.place r → ReturnsEntry b cursor r
entry_of_question b cursor (Ok found) first h = (
  Asked h.0,
  h.2,
  λ n more.
      ap (λ s. left_at b s cursor.left cursor.place) first ∙ ap (λ k. left_at b 0 k cursor.place) more ∙ question_first b n cursor.place found.1 h.0 h.1
      ∙ ap (λ (s : ℕ). let first_given : Given = Ok (Asked h.0) in first_given ∷ left_at b s n found.1) (sym first),
)
entry_of_question b cursor (Err e) first h = (
  subst (λ s. EntryFaultAt b s cursor.place (fault_of e)) (sym first) h,
  λ n more. ap (λ s. left_at b s cursor.left cursor.place) first ∙ ap (λ k. left_at b 0 k cursor.place) more ∙ question_fault b n cursor.place (fault_of e) h,
)

-- In the other sections an entry is a record.
pub entry_of_record : (b : List ℕ) (cursor : Cursor) (r : Result (Item × ℕ) ParseError) (s : ℕ) → cursor.section ≡ suc s → cursor.section ≤ 3 → ReturnsRecord b cursor.section cursor.place r
    → ReturnsEntry b cursor r
entry_of_record b cursor (Ok found) s at below h =
    let section : found.0.section ≡ suc s = h.3 ∙ at in (
      Stated (section_at (suc s)) h.0,
      (h.2, omega arith, omega arith, ap section_at section),
      λ n more.
          ap (λ t. left_at b t cursor.left cursor.place) at ∙ ap (λ k. left_at b (suc s) k cursor.place) more ∙ record_first b s n cursor.place found.1 h.0 h.1
          ∙ ap (λ (t : ℕ). let first_given : Given = Ok (Stated (section_at (suc s)) h.0) in first_given ∷ left_at b t n found.1) (sym at),
    )
entry_of_record b cursor (Err e) s at below h = (
  subst (λ t. EntryFaultAt b t cursor.place (fault_of e)) (sym at) h,
  λ n more. ap (λ t. left_at b t cursor.left cursor.place) at ∙ ap (λ k. left_at b (suc s) k cursor.place) more ∙ record_fault b s n cursor.place (fault_of e) h,
)

-- An entry's RDATA lies within the message.

-- The RDATA of an entry that ends within the message is within it too.
pub skipped_within : (b : List ℕ) (section p : ℕ) (r : Result (Item × ℕ) ParseError) → IfOk r (λ found. SkipsEntry b section p found.1)
    → IfOk r (λ found. Spans found.0 p found.1 × (found.0.section ≡ section)) → IfOk r (λ found. found.0.«data» + found.0.data_len ≤ length b)
skipped_within b zero p (Ok found) skips place = let within = skips.within in let end = place.0.end in omega arith
skipped_within b (suc s) p (Ok found) skips place = let within = skips.within in let end = place.0.end in omega arith
skipped_within b section p (Err e) skips place = tt

-- An entry begins at the cursor, and belongs to the cursor's section.

-- A question is the one at the cursor's offset.
pub question_at_offset : (b : List ℕ) (cursor : Cursor) (r : Result (Item × ℕ) ParseError) → cursor.section ≡ 0 → ReturnsQuestion b cursor.place r
    → IfOk r (λ found. Spans found.0 cursor.place found.1) → IfOk r (λ found. Spans found.0 cursor.place found.1 × (found.0.section ≡ cursor.section))
question_at_offset b cursor (Ok found) first h spans = (spans, h.2.section ∙ sym first)
question_at_offset b cursor (Err e) first h spans = tt

-- A record is the one at the cursor's offset.
pub record_at_offset : (b : List ℕ) (cursor : Cursor) (r : Result (Item × ℕ) ParseError) → ReturnsRecord b cursor.section cursor.place r
    → IfOk r (λ found. Spans found.0 cursor.place found.1) → IfOk r (λ found. Spans found.0 cursor.place found.1 × (found.0.section ≡ cursor.section))
record_at_offset b cursor (Ok found) h spans = (spans, h.3)
record_at_offset b cursor (Err e) h spans = tt

-- A cursor without an item left enters the next section.
pub left_in_next : (b : List ℕ) (old : Cursor) (s n m : ℕ) → LeftIn b old s n → n ≡ 0 → m ≡ count_at b (s + 1) → LeftIn b old (s + 1) m
left_in_next b old s n m (inl here) empty counted = inr (omega arith, omega arith, counted)
left_in_next b old s n m (inr later) empty counted = inr (omega arith, later.1, counted)

-- The fault of an entry has a number.

-- An error of a question has a status.
pub question_reported : (b : List ℕ) (p : ℕ) (r : Result (Item × ℕ) ParseError) → ReturnsQuestion b p r → IfErr r (λ e. IsReported (fault_of e))
question_reported b p (Ok found) h = tt
question_reported b p (Err e) h = reported_fields h

-- An error of a record has a status.
pub record_reported : (b : List ℕ) (section p : ℕ) (r : Result (Item × ℕ) ParseError) → ReturnsRecord b section p r → IfErr r (λ e. IsReported (fault_of e))
record_reported b section p (Ok found) h = tt
record_reported b section p (Err e) h = reported_fields h

-- A cursor that moved past empty sections.

-- A cursor with no entry left in the last section is at the end.
pub at_the_end : (b m : List ℕ) (old new : Cursor) → m ≡ b → left_from m new ≡ left_from m old → new.section ≤ 3 → (new.left ≡ 0 → new.section ≡ 3) → new.status ≡ old.status
    → new.owner ≡ old.owner → new.left ≡ 0 → IsOpen b old → (left_from b old ≡ []) × (left_from b new ≡ []) × IsOpen b new
at_the_end b m old new same left section last status owner none_left is_open =
    let at_end : left_from b new ≡ [] = ap (λ s. left_at b s new.left new.place) (last none_left) ∙ ap (λ k. left_at b 3 k new.place) none_left ∙ nothing_left b new.place in
    let kept = subst (λ k. left_from k new ≡ left_from k old) same left in
    (sym kept ∙ at_end, at_end, record { long = is_open.long; section = section; status = status ∙ is_open.status; owner = subst (IsCachedOffset b) (sym owner) is_open.owner })

-- A cursor moves past the next entry, and caches an offset.
pub at_the_entry : (b m : List ℕ) (old settled : Cursor) (item : Item) (next left owner : ℕ) → m ≡ b → left_from m settled ≡ left_from m old → settled.section ≤ 3
    → settled.status ≡ old.status → settled.left ≡ left + 1 → ReturnsEntry b settled (Ok (item, next)) → (EncodedName b settled.place → IsCachedOffset b owner)
    → Spans item settled.place next → IsOpen b old → Steps b old (record settled { place = next; left = left; owner = owner }) item (Ok true)
at_the_entry b m old settled item next left owner same kept section status counted returned caches spans is_open =
    let before = subst (λ k. left_from k settled ≡ left_from k old) same kept in (
      returned.0,
      sym before ∙ returned.2 left (let one_more : settled.left ≡ suc left = omega arith in one_more),
      returned.1,
      record {
        long = is_open.long;
        section = section;
        status = status ∙ is_open.status;
        owner = caches (entry_named b item returned.0 settled.place spans.start returned.1);
      },
    )

-- A cursor whose next entry has a fault stays there.
pub at_the_fault : (b m : List ℕ) (old new : Cursor) (f : Fault) → m ≡ b → left_from m new ≡ left_from m old → (new.left ≡ 0 → ⊥)
    → ((n : ℕ) → new.left ≡ suc n → left_from b new ≡ Err f ∷ []) → left_from b old ≡ Err f ∷ []
at_the_fault b m old new f same left other fault =
    let kept = subst (λ k. left_from k new ≡ left_from k old) same left in
    let one = positive new.left other in
    sym kept ∙ fault one.0 one.1

-- Where the last item ends.

-- a cursor that moves on to the next section
pub ends_in_next : (b : List ℕ) (s n m p end : ℕ) → n ≡ 0 → s < 3 → m ≡ count_at b (s + 1) → Ends b (s + 1) m p end → Ends b s n p end
ends_in_next b s n m p end empty less counted h =
    subst (λ k. Ends b s k p end) (sym empty) (next_section less (subst (λ k. Ends b (s + 1) k p end) counted h))

-- an item, and those after it
with_item : (b : List ℕ) (s n p q end : ℕ) → SkipsEntry b s p q → Ends b s n q end → Ends b s (suc n) p end
with_item b zero n p q end skips h = next_question skips h
with_item b (suc s) n p q end skips h = next_record skips h

-- A message ends where it ends after the next entry.
pub ends_after_item : (b m : List ℕ) (old new : Cursor) (left q end : ℕ) → m ≡ b → ((end : ℕ) → EndsFrom m new end → EndsFrom m old end) → new.left ≡ left + 1 → SkipsEntry b new.section new.place q
    → Ends b new.section left q end → EndsFrom b old end
ends_after_item b m old new left q end same before counted skips h =
    let there : EndsFrom b new end = subst (λ k. Ends b new.section k new.place end) (let e : suc left ≡ new.left = omega arith in e) (with_item b new.section left new.place q end skips h) in
    subst (λ k. EndsFrom k old end) same (before end (subst (λ k. EndsFrom k new end) (sym same) there))

-- a cursor with nothing left
pub ends_here : (b m : List ℕ) (old new : Cursor) → m ≡ b → ((end : ℕ) → EndsFrom m new end → EndsFrom m old end) → (new.left ≡ 0 → new.section ≡ 3) → new.left ≡ 0
    → EndsFrom b old new.place
ends_here b m old new same before last none_left =
    let here : EndsFrom m new new.place = subst (λ s. Ends m s new.left new.place new.place) (sym (last none_left)) (subst (λ k. Ends m 3 k new.place new.place) (sym none_left) nothing) in
    subst (λ k. EndsFrom k old new.place) same (before new.place here)

-- the entry that is read ends where the next one begins
pub question_skipped : (b : List ℕ) (cursor : Cursor) (r : Result (Item × ℕ) ParseError) → cursor.section ≡ 0 → ReturnsQuestion b cursor.place r
    → IfOk r (λ found. SkipsEntry b cursor.section cursor.place found.1)
question_skipped b cursor (Ok found) first h = subst (λ s. SkipsEntry b s cursor.place found.1) (sym first) h.1.skips
question_skipped b cursor (Err e) first h = tt

-- A record that is read is skipped to its end.
pub record_skipped : (b : List ℕ) (section p : ℕ) (r : Result (Item × ℕ) ParseError) → ReturnsRecord b section p r → IfOk r (λ found. SkipsRecord b p found.1)
record_skipped b section p (Ok found) h = h.1.skips
record_skipped b section p (Err e) h = tt

-- The item of a record that is read describes the record's fields.
pub record_reports_fields : (b : List ℕ) (section p : ℕ) (r : Result (Item × ℕ) ParseError) → ReturnsRecord b section p r → IfOk r (λ found. ReportsFields b found.0)
record_reports_fields b section p (Ok found) h = h.2.fields
record_reports_fields b section p (Err e) h = tt

-- In the first section no entry is a record.
pub question_reports_none : (b : List ℕ) (section : ℕ) (r : Result (Item × ℕ) ParseError) → section ≡ 0 → IfOk r (λ found. 1 ≤ section → ReportsFields b found.0)
question_reports_none b section (Ok found) first = λ some. absurd (omega arith)
question_reports_none b section (Err e) first = tt

-- In the others each is one.
pub entry_reports_fields : (b : List ℕ) (section : ℕ) (r : Result (Item × ℕ) ParseError) → IfOk r (λ found. ReportsFields b found.0)
    → IfOk r (λ found. 1 ≤ section → ReportsFields b found.0)
entry_reports_fields b section (Ok found) h = λ some. h
entry_reports_fields b section (Err e) h = tt

-- After the first section an entry is a record.
pub entry_skipped : (b : List ℕ) (cursor : Cursor) (r : Result (Item × ℕ) ParseError) (s : ℕ) → cursor.section ≡ suc s
    → IfOk r (λ found. SkipsRecord b cursor.place found.1) → IfOk r (λ found. SkipsEntry b cursor.section cursor.place found.1)
entry_skipped b cursor (Ok found) s at skips = subst (λ t. SkipsEntry b t cursor.place found.1) (sym at) skips
entry_skipped b cursor (Err e) s at skips = tt

-- Past the end, every read is `ShortInput`.

past_head : (b : List ℕ) (p : ℕ) → length b < p → head_at b p ≡ Err ShortInput
unfolding head_at
past_head b p past = let gone = slice_get_past b p (omega arith) in ap (λ o. head_of o (slice_get b (p + 1))) gone

-- Past the end of the octets the fault is the end.
pub past_end : (b : List ℕ) (p : ℕ) (e : ParseError) → length b < p → e ≡ errors.ShortInput → QuestionFaultAt b p (fault_of e) × RecordFaultAt b p (fault_of e) × FaultAt b p (fault_of e)
past_end b p e past short =
    let fault : fault_of e ≡ ShortInput = ap fault_of short in
    let none : FaultAt b p ShortInput = head (past_head b p past) in
    (subst (QuestionFaultAt b p) (sym fault) (in_name none), subst (RecordFaultAt b p) (sym fault) (in_name none), subst (FaultAt b p) (sym fault) none)

-- The beginning.

-- all records of a reading without an error are skipped
skipped_all : (b : List ℕ) {n p : ℕ} {xs : List (Result RecordEntry Fault)} → Reading (ReadsRecord b) (RecordFaultAt b) n p xs → HasNoFault (map (in_octets b) xs)
    → Skipped (SkipsRecord b) n p (records_end p (map (in_octets b) xs))
skipped_all b no_entry h = none
skipped_all b (entry {n = n} {q = q} {xs = xs} reads rest) h =
    more reads.skips (subst (λ e. Skipped (SkipsRecord b) n q (records_end e (map (in_octets b) xs))) (sym reads.rdata_end) (skipped_all b rest h.1))
skipped_all b (stop {f = f} fault) h = let refused = h.0 in absurd (cc)

-- so the next section begins where the last of them ends
next_start : (which next : Section) (b : List ℕ) (p : ℕ) → section_after which ≡ Some next → StartsAt which b p
    → let xs = records_in b (record_count which b) p in HasNoFault xs → StartsAt next b (records_end p xs)
unfolding records_in
next_start which next b p follows_it start faultless =
    let n = record_count which b in
    starts_after which next b p (records_end p (records_in b n p)) follows_it start (skipped_all b ((records_from_are_read b).reading n p) faultless)

-- what follows a reading matters only if it has no error
ends_alike : (which : Section) (xs : List (Result EncodedRecord Fault)) (us vs : List Given) → (HasNoFault xs → us ≡ vs) → stated_then which xs us ≡ stated_then which xs vs
ends_alike which [] us vs same = same tt
ends_alike which (Ok x ∷ xs) us vs same = ap (λ (ys : List Given). Ok (Stated which x.entry) ∷ ys) (ends_alike which xs us vs (λ h. same (refl, h)))
ends_alike which (Err f ∷ xs) us vs same = refl

module _ (b : List ℕ) where
  -- what the sections yield, by their readings
  abbrev additionals_of : List Given
  additionals_of = stated_then Additional (records_of Additional b) []

  abbrev authorities_of : List Given
  authorities_of = stated_then Authority (records_of Authority b) additionals_of

  abbrev answers_of : List Given
  answers_of = stated_then Answer (records_of Answer b) authorities_of

  reading_at : (which : Section) (p : ℕ) → StartsAt which b p → records_in b (record_count which b) p ≡ records_of which b
  reading_at which p start = sym (ap (λ (o : Option ℕ). option_map_or (records_in b (record_count which b)) o []) (start_found which b p start))

  from_additionals : (p : ℕ) → StartsAt Additional b p → records_left Additional b (additional_count b) p ≡ additionals_of
  from_additionals p start = ap (λ xs. stated_then Additional xs []) (reading_at Additional p start)

  from_authorities : (p : ℕ) → StartsAt Authority b p → records_left Authority b (authority_count b) p ≡ authorities_of
  from_authorities p start =
      let xs = records_in b (authority_count b) p in
      ends_alike Authority xs (records_left Additional b (additional_count b) (records_end p xs)) additionals_of
      (λ faultless. from_additionals (records_end p xs) (next_start Authority Additional b p refl start faultless))
      ∙ ap (λ ys. stated_then Authority ys additionals_of) (reading_at Authority p start)

  from_answers : (p : ℕ) → StartsAt Answer b p → records_left Answer b (answer_count b) p ≡ answers_of
  from_answers p start =
      let xs = records_in b (answer_count b) p in
      ends_alike Answer xs (records_left Authority b (authority_count b) (records_end p xs)) authorities_of
      (λ faultless. from_authorities (records_end p xs) (next_start Answer Authority b p refl start faultless))
      ∙ ap (λ ys. stated_then Answer ys authorities_of) (reading_at Answer p start)

  -- if the answer section has no start, no section has one
  none_after : (f : Fault) → AnswersFault b f → answers_of ≡ []
  none_after f fault =
      ap (λ xs. stated_then Answer xs authorities_of) (no_reading Answer b (no_answers b f fault))
      ∙ ap (λ xs. stated_then Authority xs additionals_of) (no_reading Authority b (no_authorities b f (inl fault)))
      ∙ ap (λ xs. stated_then Additional xs []) (no_reading Additional b (no_additionals b f (inl (inl fault))))

  by_start : ((p : ℕ) × AnswersStart b p) ⊎ ((f : Fault) × AnswersFault b f) → follows b (questions_end b (question_count b) header_size) ≡ answers_of
  by_start (inl start) = ap (follows b) (end_skipped b (question_count b) header_size start.0 start.1) ∙ from_answers start.0 start.1
  by_start (inr fault) = ap (follows b) (end_stopped b (question_count b) header_size fault.0 fault.1) ∙ sym (none_after fault.0 fault.1)

  -- before the first question, a cursor has all entries still to come
  pub begun : left_at b 0 (question_count b) header_size ≡ walk_of b
  unfolding left_at
  begun = ap (asked_then (questions_of b)) (by_start ((questions_skip_or_stop b (question_count b)).some header_size))

-- A cursor that was just opened has all entries before it.
pub opened : (b m : List ℕ) (header : Header) (n : ℕ) → m ≡ b → IsHeader m header → n ≡ question_count m → header_size ≤ length b
    → Opens b header (record { place = 12; left = n; section = 0; status = 0; owner = 0 })
opened b m header n same fields counted long = record {
  fields = subst (λ k. IsHeader k header) same fields;
  is_open = record { long = long; section = omega arith; status = refl; owner = inl refl };
  section = refl;
  place = refl;
  left = counted ∙ ap question_count same;
  walk = ap (λ k. left_at b 0 k 12) (counted ∙ ap question_count same) ∙ begun b;
  end = λ end h. subst (λ k. Ends b 0 k 12 end) (counted ∙ ap question_count same) h;
}
