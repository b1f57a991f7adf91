-- How the items that C passes become entries, and how entries are pushed.
use Rattle.std.proofs.Common.{◌≡◌, ◌∙◌, ℕ, zero, suc, ◌+◌, ◌<◌, ◌≤◌, ◌⊎◌, List, [], ◌∷◌, ◌++◌, length, drop, take, get_or, length-append, append_assoc, append-nil, ap, sym, subst, refl, inl, inr, arith}
use Rattle.std.proofs.Math.Seq.{drop-cons}
use Rattle.std.proofs.lemmas.List.{drop_all, take_all}
use Rattle.std.proofs.lemmas.List.Elements.{All-cons, All-more, All-nil, All-tail}
use Rattle.std.specs.List.{All}
use Rattle.std.specs.Prelude.{Bool, Option, Result, Ok, Err, None, IfErr, IsOk}
use Rattle.dns_name.proofs.theory.NameTextFaults.{one_text_name}
use Rattle.dns_wire.specs.Encoders.{Rule}
use Rattle.dns_wire.specs.Parts.{Part}
use Rattle.fields_table.proofs.theory.UncompressedOctets.{not_uncompressed, one_uncompressed}
use Rattle.dns_octets.specs.declared.error.AppendError.{AppendError}
use Rattle.dns_octets.specs.declared.error.AppendError.TheVariants as appending
use Rattle.dns_wire.specs.Targets.{AppendReturns}
use Rattle.dns_code.specs.Header.{HeaderFields}
use Rattle.dns_code.specs.HeaderSection.{header_size}
use Rattle.dns_item.specs.Questions.{QuestionItem}
use Rattle.dns_item.specs.Items.{RecordItem}
use Rattle.dns_read.specs.declared.section.Section.{Section}
use Rattle.dns_read.specs.declared.section.Section.TheVariants.{Answer, Authority, Additional}
use Rattle.dns_build.specs.State.{State, Stage, InBuilder, InQuestion, InAnswer, InAuthority, InAdditional, stage_of, depth_of, with_question, with_questions, with_record, with_records, most_entries}
use Rattle.dns_build.specs.BuilderStates.{Built, Represents, MovesState, InEach, PushReturns}
use Rattle.dns_build.specs.Answers.{ReturnsQuestion}
use Rattle.dns_build.specs.declared.push_error.PushError.{PushError}
use Rattle.dns_build.specs.declared.push_error.PushError.TheVariants as pushing
use Rattle.dnsm_status.specs.Codes.{append_fault, number_of, push_fault}
use Rattle.dnsm_text.specs.Texts.{SpellsNoName}
use Rattle.dnsm_read.specs.Walk.{section_at}
use Rattle.dnsm_make.specs.Built.{NewEntry, Question, Record, Means, AllMean, IsQuestionOf, IsRecordOf, IsDataOf, HasNoFields, item_data_type, LacksFields, IsRefused, FirstRefused, ReturnsRecordPush, RefusesHeader, RefusesQuestion, RefusesRecord, RefusesEntry, IsUnbuilt, HasTooMany, AreQuestions, AreRecords, RefusesEntries, beginning_of, questions_among, records_among}
use Rattle.dnsm_make.specs.declared.build.NewItem.{NewItem}
use Rattle.dnsm_status.specs.declared.code.CallError.TheVariants.{BadSection, BadText, LongData, BadData, NoRoom, TooMany}

-- A result that can't be an error is a value.
pub never_err : {T E : Type 0} (r : Result T E) (P : E → Type 0) → IfErr r P → ((e : E) → P e → ⊥) → IsOk r
never_err (Ok v) P h never = refl
never_err (Err e) P h never = absurd (never e h)

-- A text that spells no name refuses its item, in each section.
pub unnamed : (item : NewItem) (section : ℕ) → item.section ≡ section → section ≤ 3 → SpellsNoName item.name.now → IsRefused item (number_of BadText)
unnamed item zero is small none = inr (inl (is, none, refl))
unnamed item (suc n) is small none = inr (inr (omega arith, omega arith, inl (none, refl)))

-- An item is at most one question, and at most one record.

same_question : (item : NewItem) (x y : QuestionItem) → IsQuestionOf item x → IsQuestionOf item y → x ≡ y
same_question item x y h k =
    let name = one_text_name item.name.now x.name y.name h.name k.name in
    let rtype : x.rtype ≡ y.rtype = h.rtype ∙ sym k.rtype in
    let class : x.class ≡ y.class = h.class ∙ sym k.class in
    λ i. record { name = name i; rtype = rtype i; class = class i }

-- its RDATA has fields, or it has none
has_fields : (item : NewItem) (xs : List Part) → IsDataOf item xs → HasNoFields item → ⊥
has_fields item xs h none = not_uncompressed (item_data_type item) item.rdata.now none.1 xs h

same_record : (item : NewItem) (x y : RecordItem) → IsRecordOf item x → IsRecordOf item y → x ≡ y
same_record item x y h k =
    let owner = one_text_name item.name.now x.owner y.owner h.owner k.owner in
    let rtype : x.rtype ≡ y.rtype = h.rtype ∙ sym k.rtype in
    let class : x.class ≡ y.class = h.class ∙ sym k.class in
    let ttl : x.ttl ≡ y.ttl = h.ttl ∙ sym k.ttl in
    let parts : x.parts ≡ y.parts = one_uncompressed (item_data_type item) item.rdata.now x.parts y.parts h.parts k.parts in
    λ i. record { owner = owner i; rtype = rtype i; class = class i; ttl = ttl i; parts = parts i }

-- the remaining items, at an index and at the end
pub next_item : (items : List NewItem) (i : ℕ) (d : NewItem) → i < length items → drop i items ≡ get_or items i d ∷ drop (i + 1) items
next_item items i d within =
    let next : suc i ≡ i + 1 = omega arith in
    drop-cons items i d within ∙ ap (λ k. get_or items i d ∷ drop k items) next

-- After the last item none is left.
pub no_items : (items : List NewItem) (i : ℕ) → length items ≤ i → drop i items ≡ []
no_items items i past = drop_all i items past

-- Results for the remaining items hold for all items: that all are entries, or that the first bad one is refused.
pub record Checking (items left : List NewItem) : Type 0 where
  pub mean : (ys : List NewEntry) → AllMean left ys → (xs : List NewEntry) × AllMean items xs
  pub refused : (n : ℕ) → FirstRefused left n → FirstRefused items n

-- One more item that means an entry is checked.
pub check_more : (items left rest : List NewItem) (item : NewItem) → left ≡ item ∷ rest → ((x : NewEntry) × Means item x) → Checking items left → Checking items rest
check_more items left rest item is means h = record {
  mean = λ ys more. h.mean (means.0 ∷ ys) (subst (λ (xs : List NewItem). AllMean xs (means.0 ∷ ys)) (sym is) (means.1, more));
  refused = λ n more. h.refused n (subst (λ (xs : List NewItem). FirstRefused xs n) (sym is) (inr (means, more)));
}

-- After the last item each means an entry.
pub check_ends : (items left : List NewItem) → left ≡ [] → Checking items left → (xs : List NewEntry) × AllMean items xs
check_ends items left is h = h.mean [] (subst (λ (xs : List NewItem). AllMean xs []) (sym is) tt)

-- An invariant of pushing questions: the first questions are pushed, and the rest are those of the remaining items.
pub record Asking (rule : Rule) (left : List NewItem) (xs : List NewEntry) (s : State) (now : Built) : Type 0 where
  pub first : List QuestionItem
  pub rest : List NewEntry
  pub mean : AllMean left rest
  pub all : questions_among xs ≡ first ++ questions_among rest
  pub represents : Represents InQuestion rule (with_questions first s) now

-- Before the first item no question is pushed.
pub asking_begins : (rule : Rule) (items left : List NewItem) (xs : List NewEntry) (s : State) (now : Built) → left ≡ items → AllMean items xs
    → Represents InQuestion rule s now → Asking rule left xs s now
asking_begins rule items left xs s now is mean represents =
    let none : s ≡ with_questions [] s = ap (λ (qs : List QuestionItem). record s { questions = qs }) (sym (append-nil s.questions)) in
    record {
      first = [];
      rest = xs;
      mean = subst (λ (is : List NewItem). AllMean is xs) (sym is) mean;
      all = refl;
      represents =
          subst (λ (t : State). Represents InQuestion rule t now) none represents;
    }

module _ (rule : Rule) (rest : List NewItem) (item : NewItem) (xs : List NewEntry) (s : State) (now : Built) where
  asking_skips_by : (es : List NewEntry) (first : List QuestionItem) → (item.section ≡ 0 → ⊥) → AllMean (item ∷ rest) es → questions_among xs ≡ first ++ questions_among es
      → Represents InQuestion rule (with_questions first s) now → Asking rule rest xs s now
  asking_skips_by [] first other mean all represents = absurd mean
  asking_skips_by (Question x ∷ es) first other mean all represents = absurd (other mean.0.0)
  asking_skips_by (Record which x ∷ es) first other mean all represents = record { first = first; rest = es; mean = mean.1; all = all; represents = represents }

  asking_takes_by : (es : List NewEntry) (first : List QuestionItem) (y : QuestionItem) (new : Built) → item.section ≡ 0 → IsQuestionOf item y → AllMean (item ∷ rest) es
      → questions_among xs ≡ first ++ questions_among es → Represents InQuestion rule (with_question y (with_questions first s)) new → Asking rule rest xs s new
  asking_takes_by [] first y new here is mean all represents = absurd mean
  asking_takes_by (Question x ∷ es) first y new here is mean all represents = record {
    first = first ++ y ∷ [];
    rest = es;
    mean = mean.1;
    all =
        all ∙ ap (λ (z : QuestionItem). first ++ z ∷ questions_among es) (same_question item x y mean.0.1 is)
        ∙ sym (append_assoc first (y ∷ []) (questions_among es));
    represents =
        let same : with_question y (with_questions first s) ≡ with_questions (first ++ y ∷ []) s = ap (λ (qs : List QuestionItem). record s { questions = qs })
        (append_assoc s.questions first (y ∷ [])) in
        subst (λ (t : State). Represents InQuestion rule t new) same represents;
  }
  asking_takes_by (Record which x ∷ es) first y new here is mean all represents = absurd (let some = mean.0.0 in omega arith)

  -- pushing a question fails
  asking_refused_by : (capacity : Option ℕ) (grows : Bool) (es : List NewEntry) (first : List QuestionItem) (y : QuestionItem) (e : PushError)
      → item.section ≡ 0 → IsQuestionOf item y → AllMean (item ∷ rest) es
      → questions_among xs ≡ first ++ questions_among es → ReturnsQuestion capacity grows rule y (with_questions first s) (Err e)
      → RefusesQuestion capacity grows rule (questions_among xs) s (number_of (push_fault e))
  asking_refused_by capacity grows [] first y e here is mean all refused = absurd mean
  asking_refused_by capacity grows (Question x ∷ es) first y e here is mean all refused = record {
    first = first;
    next = y;
    others = questions_among es;
    all = all ∙ ap (λ (z : QuestionItem). first ++ z ∷ questions_among es) (same_question item x y mean.0.1 is);
    error = e;
    refused = refused;
    number = refl;
  }
  asking_refused_by capacity grows (Record which x ∷ es) first y e here is mean all refused = absurd (let some = mean.0.0 in omega arith)

  -- the text of its item spells a name
  asking_named_by : (es : List NewEntry) → AllMean (item ∷ rest) es → SpellsNoName item.name.now → ⊥
  asking_named_by [] mean none = mean
  asking_named_by (Question x ∷ es) mean none = none x.name mean.0.1.name
  asking_named_by (Record which x ∷ es) mean none = none x.owner mean.0.3.owner

module _ (rule : Rule) (left rest : List NewItem) (item : NewItem) (is : left ≡ item ∷ rest) (xs : List NewEntry) (s : State) (now : Built) (h : Asking rule left xs s now) where
  here_means : AllMean (item ∷ rest) h.rest
  here_means = subst (λ (items : List NewItem). AllMean items h.rest) is h.mean

  -- an item of another section is skipped
  pub asking_skips : (item.section ≡ 0 → ⊥) → Asking rule rest xs s now
  asking_skips other = asking_skips_by rule rest item xs s now h.rest h.first other here_means h.all h.represents

  -- a question is pushed
  pub asking_takes : (y : QuestionItem) (new : Built) → item.section ≡ 0 → IsQuestionOf item y → MovesState InQuestion InQuestion rule (with_question y) now new → Asking rule rest xs s new
  asking_takes y new here is_question moves = asking_takes_by rule rest item xs s now h.rest h.first y new here is_question here_means h.all (moves (with_questions h.first s) h.represents)

  -- no text is refused
  pub asking_named : SpellsNoName item.name.now → ⊥
  asking_named none = asking_named_by rule rest item xs s now h.rest here_means none

  -- a push fails
  pub asking_refused : (capacity : Option ℕ) (grows : Bool) (y : QuestionItem) (e : PushError) → item.section ≡ 0 → IsQuestionOf item y
      → InEach InQuestion rule now (λ t. ReturnsQuestion capacity grows rule y t (Err e))
      → RefusesQuestion capacity grows rule (questions_among xs) s (number_of (push_fault e))
  asking_refused capacity grows y e here is_question refused = asking_refused_by rule rest item xs s now capacity grows h.rest h.first y e here is_question
      here_means h.all (refused (with_questions h.first s) h.represents)

asking_ends_by : (rule : Rule) (rest xs : List NewEntry) (first : List QuestionItem) (s : State) (now : Built) → AllMean [] rest → questions_among xs ≡ first ++ questions_among rest
    → Represents InQuestion rule (with_questions first s) now → Represents InQuestion rule (with_questions (questions_among xs) s) now
asking_ends_by rule [] xs first s now mean all represents =
    let whole : first ≡ questions_among xs = sym (append-nil first) ∙ sym all in
    subst (λ (qs : List QuestionItem). Represents InQuestion rule (with_questions qs s) now) whole represents
asking_ends_by rule (x ∷ rest) xs first s now mean all represents = absurd mean

-- all are pushed
pub asking_ends : (rule : Rule) (left : List NewItem) (xs : List NewEntry) (s : State) (now : Built) → left ≡ [] → Asking rule left xs s now
    → Represents InQuestion rule (with_questions (questions_among xs) s) now
asking_ends rule left xs s now is h = asking_ends_by rule h.rest xs h.first s now (subst (λ (items : List NewItem). AllMean items h.rest) is h.mean) h.all h.represents

-- Records are pushed onto the list of a stage.

record_more : (stage : Stage) (x : RecordItem) (first : List RecordItem) (s : State) → with_record stage x (with_records stage first s) ≡ with_records stage (first ++ x ∷ []) s
record_more InBuilder x first s = refl
record_more InQuestion x first s = refl
record_more InAnswer x first s = ap (λ (rs : List RecordItem). record s { answers = rs }) (append_assoc s.answers first (x ∷ []))
record_more InAuthority x first s = ap (λ (rs : List RecordItem). record s { authorities = rs }) (append_assoc s.authorities first (x ∷ []))
record_more InAdditional x first s = ap (λ (rs : List RecordItem). record s { additionals = rs }) (append_assoc s.additionals first (x ∷ []))

records_none : (stage : Stage) (s : State) → with_records stage [] s ≡ s
records_none InBuilder s = refl
records_none InQuestion s = refl
records_none InAnswer s = ap (λ (rs : List RecordItem). record s { answers = rs }) (append-nil s.answers)
records_none InAuthority s = ap (λ (rs : List RecordItem). record s { authorities = rs }) (append-nil s.authorities)
records_none InAdditional s = ap (λ (rs : List RecordItem). record s { additionals = rs }) (append-nil s.additionals)

-- the number of a section, and the depth of its stage
depth_here : (n : ℕ) (which : Section) → 1 ≤ n → n ≤ 3 → section_at n ≡ which → n + 1 ≡ depth_of (stage_of which)
depth_here zero which some most is = absurd (omega arith)
depth_here (suc zero) which some most is = omega (arith, ap (λ (w : Section). depth_of (stage_of w)) is)
depth_here (suc (suc zero)) which some most is = omega (arith, ap (λ (w : Section). depth_of (stage_of w)) is)
depth_here (suc (suc (suc n))) which some most is = omega (arith, ap (λ (w : Section). depth_of (stage_of w)) is)

section_here : (n : ℕ) (which : Section) → n + 1 ≡ depth_of (stage_of which) → section_at n ≡ which
section_here n Answer here = let one : n ≡ 1 = omega (arith, here) in ap section_at one
section_here n Authority here = let two : n ≡ 2 = omega (arith, here) in ap section_at two
section_here n Additional here = let three : n ≡ 3 = omega (arith, here) in ap section_at three

not_first : (n : ℕ) (which : Section) → n ≡ 0 → n + 1 ≡ depth_of (stage_of which) → ⊥
not_first n Answer first here = omega (arith, first, here)
not_first n Authority first here = omega (arith, first, here)
not_first n Additional first here = omega (arith, first, here)

-- the records of a section among entries
own_record : (which : Section) (x : RecordItem) (es : List NewEntry) → records_among which (Record which x ∷ es) ≡ x ∷ records_among which es
own_record Answer x es = refl
own_record Authority x es = refl
own_record Additional x es = refl

kept_record : (which w : Section) (x : RecordItem) (es : List NewEntry) → w ≡ which → records_among which (Record w x ∷ es) ≡ x ∷ records_among which es
kept_record which w x es is = ap (λ (v : Section). records_among which (Record v x ∷ es)) is ∙ own_record which x es

other_record : (which w : Section) (x : RecordItem) (es : List NewEntry) → (w ≡ which → ⊥) → records_among which (Record w x ∷ es) ≡ records_among which es
other_record Answer Answer x es other = absurd (other refl)
other_record Answer Authority x es other = refl
other_record Answer Additional x es other = refl
other_record Authority Answer x es other = refl
other_record Authority Authority x es other = absurd (other refl)
other_record Authority Additional x es other = refl
other_record Additional Answer x es other = refl
other_record Additional Authority x es other = refl
other_record Additional Additional x es other = absurd (other refl)

other_question : (which : Section) (x : QuestionItem) (es : List NewEntry) → records_among which (Question x ∷ es) ≡ records_among which es
other_question Answer x es = refl
other_question Authority x es = refl
other_question Additional x es = refl

-- An invariant of pushing records: the first records of the section are pushed, and the rest are those of the remaining items.
pub record Stating (rule : Rule) (stage : Stage) (which : Section) (left : List NewItem) (xs : List NewEntry) (s : State) (now : Built) : Type 0 where
  pub first : List RecordItem
  pub rest : List NewEntry
  pub mean : AllMean left rest
  pub all : records_among which xs ≡ first ++ records_among which rest
  pub represents : Represents stage rule (with_records stage first s) now

-- Before the first item no record of the section is pushed.
pub stating_begins : (rule : Rule) (stage : Stage) (which : Section) (items left : List NewItem) (xs : List NewEntry) (s : State) (now : Built) → left ≡ items
    → AllMean items xs → Represents stage rule s now
    → Stating rule stage which left xs s now
stating_begins rule stage which items left xs s now is mean represents = record {
  first = [];
  rest = xs;
  mean = subst (λ (is : List NewItem). AllMean is xs) (sym is) mean;
  all = refl;
  represents = subst (λ (t : State). Represents stage rule t now) (sym (records_none stage s)) represents;
}

module _ (rule : Rule) (stage : Stage) (which : Section) (rest : List NewItem) (item : NewItem) (xs : List NewEntry) (s : State) (now : Built) where
  -- the same with an equal list of remaining records
  alike : (us vs first : List RecordItem) → us ≡ vs → records_among which xs ≡ first ++ us → records_among which xs ≡ first ++ vs
  alike us vs first is all = all ∙ ap (λ (rs : List RecordItem). first ++ rs) is

  stating_skips_by : (es : List NewEntry) (first : List RecordItem) → (item.section + 1 ≡ depth_of (stage_of which) → ⊥) → AllMean (item ∷ rest) es
      → records_among which xs ≡ first ++ records_among which es
      → Represents stage rule (with_records stage first s) now → Stating rule stage which rest xs s now
  stating_skips_by [] first other mean all represents = absurd mean
  stating_skips_by (Question x ∷ es) first other mean all represents =
      record { first = first; rest = es; mean = mean.1; all = alike _ _ first (other_question which x es) all; represents = represents }
  stating_skips_by (Record w x ∷ es) first other mean all represents =
      let is_other : w ≡ which → ⊥ = λ is. other (depth_here item.section which mean.0.0 mean.0.1 (mean.0.2 ∙ is)) in
      record { first = first; rest = es; mean = mean.1; all = alike _ _ first (other_record which w x es is_other) all; represents = represents }

  -- the record that an item describes comes before the remaining records
  next_record : (w : Section) (x y : RecordItem) (es : List NewEntry) (first : List RecordItem) → item.section + 1 ≡ depth_of (stage_of which)
      → section_at item.section ≡ w → IsRecordOf item x → IsRecordOf item y
      → records_among which xs ≡ first ++ records_among which (Record w x ∷ es) → records_among which xs ≡ first ++ y ∷ records_among which es
  next_record w x y es first at own means is all =
      let kept = kept_record which w x es (sym own ∙ section_here item.section which at) in
      alike _ _ first (kept ∙ ap (λ (z : RecordItem). z ∷ records_among which es) (same_record item x y means is)) all

  stating_takes_by : (es : List NewEntry) (first : List RecordItem) (y : RecordItem) (new : Built) → item.section + 1 ≡ depth_of (stage_of which) → IsRecordOf item y → AllMean (item ∷ rest) es
      → records_among which xs ≡ first ++ records_among which es → Represents stage rule (with_record stage y (with_records stage first s)) new → Stating rule stage which rest xs s new
  stating_takes_by [] first y new at is mean all represents = absurd mean
  stating_takes_by (Question x ∷ es) first y new at is mean all represents = absurd (not_first item.section which mean.0.0 at)
  stating_takes_by (Record w x ∷ es) first y new at is mean all represents = record {
    first = first ++ y ∷ [];
    rest = es;
    mean = mean.1;
    all = next_record w x y es first at mean.0.2 mean.0.3 is all ∙ sym (append_assoc first (y ∷ []) (records_among which es));
    represents = subst (λ (t : State). Represents stage rule t new) (record_more stage y first s) represents;
  }

  -- pushing a record fails
  stating_refused_by : (capacity : Option ℕ) (grows : Bool) (es : List NewEntry) (first : List RecordItem) (y : RecordItem) (e : PushError)
      → item.section + 1 ≡ depth_of (stage_of which) → IsRecordOf item y
      → AllMean (item ∷ rest) es → records_among which xs ≡ first ++ records_among which es → ReturnsRecordPush capacity grows rule stage y (with_records stage first s) (Err e)
      → RefusesRecord capacity grows rule stage (records_among which xs) s (number_of (push_fault e))
  stating_refused_by capacity grows [] first y e at is mean all refused = absurd mean
  stating_refused_by capacity grows (Question x ∷ es) first y e at is mean all refused = absurd (not_first item.section which mean.0.0 at)
  stating_refused_by capacity grows (Record w x ∷ es) first y e at is mean all refused = record {
    first = first;
    next = y;
    others = records_among which es;
    all = next_record w x y es first at mean.0.2 mean.0.3 is all;
    error = e;
    refused = refused;
    number = refl;
  }

  -- its item is an entry: it has a valid name, and a record's RDATA isn't too long
  stating_named_by : (es : List NewEntry) (n : ℕ) → item.section + 1 ≡ depth_of (stage_of which) → AllMean (item ∷ rest) es → LacksFields item n → ⊥
  stating_named_by [] n at mean lacks = mean
  stating_named_by (Question x ∷ es) n at mean lacks = not_first item.section which mean.0.0 at
  stating_named_by (Record w x ∷ es) n at mean (inl none) = none.0 x.owner mean.0.3.owner
  stating_named_by (Record w x ∷ es) n at mean (inr (inl long)) = let short = mean.0.3.short in let over = long.1 in omega arith
  stating_named_by (Record w x ∷ es) n at mean (inr (inr bad)) = has_fields item x.parts mean.0.3.parts bad.2

module _ (rule : Rule) (stage : Stage) (which : Section) (left rest : List NewItem) (item : NewItem) (is : left ≡ item ∷ rest) (xs : List NewEntry) (s : State)
    (now : Built) (h : Stating rule stage which left xs s now) where
  these_mean : AllMean (item ∷ rest) h.rest
  these_mean = subst (λ (items : List NewItem). AllMean items h.rest) is h.mean

  -- an item of another section is skipped
  pub stating_skips : (item.section + 1 ≡ depth_of (stage_of which) → ⊥) → Stating rule stage which rest xs s now
  stating_skips other = stating_skips_by rule stage which rest item xs s now h.rest h.first other these_mean h.all h.represents

  -- a record is pushed
  pub stating_takes : (y : RecordItem) (new : Built) → item.section + 1 ≡ depth_of (stage_of which) → IsRecordOf item y
      → MovesState stage stage rule (with_record stage y) now new → Stating rule stage which rest xs s new
  stating_takes y new at is_record moves = stating_takes_by rule stage which rest item xs s now h.rest h.first y new at is_record these_mean h.all (moves (with_records stage h.first s) h.represents)

  -- no item is refused
  pub stating_named : (n : ℕ) → item.section + 1 ≡ depth_of (stage_of which) → LacksFields item n → ⊥
  stating_named n at lacks = stating_named_by rule stage which rest item xs s now h.rest n at these_mean lacks

  -- a push fails
  pub stating_refused : (capacity : Option ℕ) (grows : Bool) (y : RecordItem) (e : PushError) → item.section + 1 ≡ depth_of (stage_of which) → IsRecordOf item y
      → InEach stage rule now (λ t. ReturnsRecordPush capacity grows rule stage y t (Err e)) → RefusesRecord capacity grows rule stage (records_among which xs) s (number_of (push_fault e))
  stating_refused capacity grows y e at is_record refused =
      stating_refused_by rule stage which rest item xs s now capacity grows h.rest h.first y e at is_record these_mean h.all (refused (with_records stage h.first s) h.represents)

stating_ends_by : (rule : Rule) (stage : Stage) (which : Section) (rest xs : List NewEntry) (first : List RecordItem) (s : State) (now : Built) → AllMean [] rest
    → records_among which xs ≡ first ++ records_among which rest → Represents stage rule (with_records stage first s) now → Represents stage rule (with_records stage (records_among which xs) s) now
stating_ends_by rule stage which [] xs first s now mean all represents =
    let whole : first ≡ records_among which xs = sym (append-nil first) ∙ sym all in
    subst (λ (rs : List RecordItem). Represents stage rule (with_records stage rs s) now) whole represents
stating_ends_by rule stage which (x ∷ rest) xs first s now mean all represents = absurd mean

-- all are pushed
pub stating_ends : (rule : Rule) (stage : Stage) (which : Section) (left : List NewItem) (xs : List NewEntry) (s : State) (now : Built) → left ≡ [] → Stating rule stage which left xs s now
    → Represents stage rule (with_records stage (records_among which xs) s) now
stating_ends rule stage which left xs s now is h = stating_ends_by rule stage which h.rest xs h.first s now (subst (λ (items : List NewItem). AllMean items h.rest) is h.mean) h.all h.represents

-- The first item that is no entry is reported by one of four numbers.

module _ (n : ℕ) (section : n ≡ number_of BadSection → ⊥) (text : n ≡ number_of BadText → ⊥) (long : n ≡ number_of LongData → ⊥) (bad : n ≡ number_of BadData → ⊥) where
  lacks_otherwise : (item : NewItem) → LacksFields item n → ⊥
  lacks_otherwise item (inl h) = text h.1
  lacks_otherwise item (inr (inl h)) = long h.2
  lacks_otherwise item (inr (inr h)) = bad h.3

  refused_otherwise : (item : NewItem) → IsRefused item n → ⊥
  refused_otherwise item (inl h) = section h.1
  refused_otherwise item (inr (inl h)) = text h.2
  refused_otherwise item (inr (inr h)) = lacks_otherwise item h.2

  first_otherwise : (items : List NewItem) → FirstRefused items n → ⊥
  first_otherwise [] h = h
  first_otherwise (item ∷ items) (inl h) = refused_otherwise item h
  first_otherwise (item ∷ items) (inr h) = first_otherwise items h.1

-- A missing capacity is no reason for failure.

-- a target without a bound fails only if it is out of memory or a count is full
returns_otherwise : (grows : Bool) (limit n count : ℕ) (e : PushError) → number_of (push_fault e) ≡ number_of NoRoom → PushReturns None grows limit n count (Err e) → ⊥
returns_otherwise grows limit n count pushing.ShortBuf capacity refused = refused
returns_otherwise grows limit n count pushing.OutOfMemory capacity refused = omega arith
returns_otherwise grows limit n count pushing.LimitExceeded capacity refused = omega arith
returns_otherwise grows limit n count pushing.CountOverflow capacity refused = omega arith

header_otherwise : (grows : Bool) (e : AppendError) → number_of (append_fault e) ≡ number_of NoRoom → AppendReturns {X = Unit {0}} None grows header_size (Err e) → ⊥
header_otherwise grows appending.ShortBuf capacity refused = refused
header_otherwise grows appending.OutOfMemory capacity refused = omega arith

entry_otherwise : (grows : Bool) (rule : Rule) (header : HeaderFields) (xs : List NewEntry) (n : ℕ) → n ≡ number_of NoRoom → RefusesEntry None grows rule header xs n → ⊥
entry_otherwise grows rule header xs n capacity (inl h) = returns_otherwise grows _ _ _ h.error (sym h.number ∙ capacity) h.refused
entry_otherwise grows rule header xs n capacity (inr h) = returns_otherwise grows _ _ _ h.1.error (sym h.1.number ∙ capacity) h.1.refused

made_otherwise : (grows : Bool) (rule : Rule) (header : HeaderFields) (xs : List NewEntry) (n : ℕ) → n ≡ number_of NoRoom → RefusesHeader None grows rule n
    ⊎ RefusesEntry None grows rule header xs n → ⊥
made_otherwise grows rule header xs n capacity (inl h) = header_otherwise grows h.error (sym h.number ∙ capacity) h.refused
made_otherwise grows rule header xs n capacity (inr h) = entry_otherwise grows rule header xs n capacity h

-- A message that can't be built is not refused for want of room in the buffer.
pub unbuilt_otherwise : (grows : Bool) (rule : Rule) (header : HeaderFields) (items : List NewItem) (n : ℕ) → n ≡ number_of NoRoom → IsUnbuilt None grows rule header items n → ⊥
unbuilt_otherwise grows rule header items n capacity (inl h) = first_otherwise n (λ is. omega arith) (λ is. omega arith) (λ is. omega arith) (λ is. omega arith) items h
unbuilt_otherwise grows rule header items n capacity (inr h) = made_otherwise grows rule header h.0 n capacity h.2

-- A full count is reported only if a section has more entries than its count can hold.

header_others : (e : AppendError) → number_of (append_fault e) ≡ number_of TooMany → ⊥
header_others appending.ShortBuf many = omega arith
header_others appending.OutOfMemory many = omega arith

module _ (capacity : Option ℕ) (grows : Bool) (rule : Rule) where
  returns_full : (limit n count : ℕ) (e : PushError) → number_of (push_fault e) ≡ number_of TooMany → PushReturns capacity grows limit n count (Err e) → count ≡ most_entries
  returns_full limit n count pushing.ShortBuf many refused = absurd (omega arith)
  returns_full limit n count pushing.OutOfMemory many refused = absurd (omega arith)
  returns_full limit n count pushing.LimitExceeded many refused = absurd (omega arith)
  returns_full limit n count pushing.CountOverflow many refused = refused.2

  -- after a full list there is one more
  more_than : {X : Type 0} (xs first others : List X) (next : X) → xs ≡ first ++ next ∷ others → length first ≡ most_entries → most_entries < length xs
  more_than xs first others next all full =
      let both = length-append first (next ∷ others) in
      let whole = ap length all in
      omega arith

  questions_full : (header : HeaderFields) (xs : List NewEntry) (n : ℕ) → n ≡ number_of TooMany → RefusesQuestion capacity grows rule (questions_among xs)
      (beginning_of InQuestion header xs) n → most_entries < length (questions_among xs)
  questions_full header xs n many h = more_than _ h.first h.others h.next h.all (returns_full _ _ (length h.first) h.error (sym h.number ∙ many) h.refused)

  records_full : (which : Section) (header : HeaderFields) (xs : List NewEntry) (n : ℕ) → n ≡ number_of TooMany
      → RefusesRecord capacity grows rule (stage_of which) (records_among which xs) (beginning_of (stage_of which) header xs) n → most_entries < length (records_among which xs)
  records_full Answer header xs n many h = more_than _ h.first h.others h.next h.all (returns_full _ _ (length h.first) h.error (sym h.number ∙ many) h.refused)
  records_full Authority header xs n many h = more_than _ h.first h.others h.next h.all (returns_full _ _ (length h.first) h.error (sym h.number ∙ many) h.refused)
  records_full Additional header xs n many h = more_than _ h.first h.others h.next h.all (returns_full _ _ (length h.first) h.error (sym h.number ∙ many) h.refused)

  entry_full : (header : HeaderFields) (xs : List NewEntry) (n : ℕ) → n ≡ number_of TooMany → RefusesEntry capacity grows rule header xs n
      → (most_entries < length (questions_among xs)) ⊎ ((which : Section) × (most_entries < length (records_among which xs)))
  entry_full header xs n many (inl h) = inl (questions_full header xs n many h)
  entry_full header xs n many (inr h) = inr (h.0, records_full h.0 header xs n many h.1)

  made_full : (header : HeaderFields) (xs : List NewEntry) (n : ℕ) → n ≡ number_of TooMany → RefusesHeader capacity grows rule n ⊎ RefusesEntry capacity grows rule header xs n
      → (most_entries < length (questions_among xs)) ⊎ ((which : Section) × (most_entries < length (records_among which xs)))
  made_full header xs n many (inl h) = absurd (header_others h.error (sym h.number ∙ many))
  made_full header xs n many (inr h) = entry_full header xs n many h

  -- A full count is reported only if a section has too many entries.
  pub unbuilt_full : (header : HeaderFields) (items : List NewItem) (n : ℕ) → n ≡ number_of TooMany → IsUnbuilt capacity grows rule header items n → HasTooMany items
  unbuilt_full header items n many (inl h) = absurd (first_otherwise n (λ is. omega arith) (λ is. omega arith) (λ is. omega arith) (λ is. omega arith) items h)
  unbuilt_full header items n many (inr h) = (h.0, h.1, made_full header h.0 n many h.2)

-- Writing entries fails.

module _ (capacity : Option ℕ) (grows : Bool) (rule : Rule) (header : HeaderFields) (xs : List NewEntry) where
  -- at the header section
  header_refused : {X : Type 0} (r : Result X AppendError) (e : AppendError) → r ≡ Err e → AppendReturns capacity grows header_size r → AppendReturns {X = Unit {0}} capacity grows header_size (Err e)
  header_refused {X} r appending.ShortBuf is answer = subst (λ (q : Result X AppendError). AppendReturns capacity grows header_size q) is answer
  header_refused {X} r appending.OutOfMemory is answer = subst (λ (q : Result X AppendError). AppendReturns capacity grows header_size q) is answer

  -- The error of the target at the header section is that of the entries.
  pub refused_header : {X : Type 0} (r : Result X AppendError) (e : AppendError) → r ≡ Err e → AppendReturns capacity grows header_size r
      → RefusesEntries capacity grows rule header xs (number_of (append_fault e))
  refused_header r e is answer = inl (record { error = e; refused = header_refused r e is answer; number = refl })

  -- at a question
  pub refused_question : (own : HeaderFields) (n : ℕ) → own ≡ header → RefusesQuestion capacity grows rule (questions_among xs) (beginning_of InQuestion own xs)
      n → RefusesEntries capacity grows rule header xs n
  refused_question own n is refuses = inr (inl (subst (λ (h : HeaderFields). RefusesQuestion capacity grows rule (questions_among xs) (beginning_of InQuestion h xs) n) is refuses))

  -- at a record
  pub refused_record : (which : Section) (own : HeaderFields) (n : ℕ) → own ≡ header → RefusesRecord capacity grows rule (stage_of which)
      (records_among which xs) (beginning_of (stage_of which) own xs) n
      → RefusesEntries capacity grows rule header xs n
  refused_record which own n is refuses =
      inr (inr (which, subst (λ (h : HeaderFields). RefusesRecord capacity grows rule (stage_of which) (records_among which xs) (beginning_of (stage_of which) h xs) n) is refuses))

-- The items of each section are converted, so all items are entries.

abbrev IsInSection : NewItem → Type 0
IsInSection item = item.section ≤ 3

abbrev MayAsk : NewItem → Type 0
MayAsk item = item.section ≡ 0 → (x : QuestionItem) × IsQuestionOf item x

abbrev MayState : Section → NewItem → Type 0
MayState which item = item.section + 1 ≡ depth_of (stage_of which) → (x : RecordItem) × IsRecordOf item x

-- an item of each section, by its number
entry_at : (item : NewItem) (n : ℕ) → item.section ≡ n → n ≤ 3 → (item.section ≡ 0 → (x : QuestionItem) × IsQuestionOf item x)
    → ((which : Section) → item.section + 1 ≡ depth_of (stage_of which) → (x : RecordItem) × IsRecordOf item x) → (x : NewEntry) × Means item x
entry_at item zero is small question records = let q = question is in (Question q.0, (is, q.1))
entry_at item (suc zero) is small question records =
    let r = records Answer (omega arith) in
    (Record (section_at item.section) r.0, (omega arith, omega arith, refl, r.1))
entry_at item (suc (suc zero)) is small question records =
    let r = records Authority (omega arith) in
    (Record (section_at item.section) r.0, (omega arith, omega arith, refl, r.1))
entry_at item (suc (suc (suc n))) is small question records =
    let r = records Additional (omega arith) in
    (Record (section_at item.section) r.0, (omega arith, omega arith, refl, r.1))

-- If the items of each section can be converted, they are entries.
pub all_entries : (items : List NewItem) → All (λ item. item.section ≤ 3) items → AreQuestions items → ((which : Section) → AreRecords which items) → (xs : List NewEntry) × AllMean items xs
all_entries [] sections questions records = ([], tt)
all_entries (item ∷ items) sections questions records =
    let first = entry_at item item.section refl (sections 0 item (omega arith)) (questions 0 item (omega arith)) (λ which. records which 0 item (omega arith)) in
    let more = all_entries items (All-tail IsInSection item items sections) (All-tail MayAsk item items questions) (λ which. All-tail (MayState which) item items (records which)) in
    (first.0 ∷ more.0, (first.1, more.1))

-- entries are in one of the four sections
pub have_sections : (items : List NewItem) (xs : List NewEntry) → AllMean items xs → All (λ item. item.section ≤ 3) items
have_sections [] xs mean = All-nil IsInSection
have_sections (item ∷ items) [] mean = absurd mean
have_sections (item ∷ items) (Question x ∷ xs) mean = All-cons IsInSection item items (let own = mean.0.0 in omega arith) (have_sections items xs mean.1)
have_sections (item ∷ items) (Record which x ∷ xs) mean = All-cons IsInSection item items mean.0.1 (have_sections items xs mean.1)

-- records of each section
pub all_records : (items : List NewItem) → AreRecords Answer items → AreRecords Authority items → AreRecords Additional items → (which : Section) → AreRecords which items
all_records items answers authorities additionals Answer = answers
all_records items answers authorities additionals Authority = authorities
all_records items answers authorities additionals Additional = additionals

-- The items before an index are converted.

module _ (items : List NewItem) where
  -- Before the first item nothing is converted.
  pub no_questions : AreQuestions (take 0 items)
  no_questions = All-nil MayAsk

  -- One more item is converted.
  pub one_question : (i : ℕ) (d : NewItem) → i < length items → AreQuestions (take i items) → MayAsk (get_or items i d) → AreQuestions (take (i + 1) items)
  one_question i d within before here = All-more MayAsk items i d within before here

  -- After the last item all questions are converted.
  pub all_questions : (i : ℕ) → length items ≤ i → AreQuestions (take i items) → AreQuestions items
  all_questions i past before = subst AreQuestions (take_all i items past) before

  module _ (which : Section) where
    -- The same of the records of a section.
    pub no_records : AreRecords which (take 0 items)
    no_records = All-nil (MayState which)

    -- One more item is converted, if it is in the section.
    pub one_record : (i : ℕ) (d : NewItem) → i < length items → AreRecords which (take i items) → MayState which (get_or items i d) → AreRecords which (take (i + 1) items)
    one_record i d within before here = All-more (MayState which) items i d within before here

    -- After the last item all records of the section are converted.
    pub each_record : (i : ℕ) → length items ≤ i → AreRecords which (take i items) → AreRecords which items
    each_record i past before = subst (AreRecords which) (take_all i items past) before

-- the number of a section plus one is the depth of its stage
pub at_depth : (stage : Stage) (which : Section) (depth m n : ℕ) → stage ≡ stage_of which → depth ≡ depth_of stage → m + 1 ≡ depth → m ≡ n → n + 1 ≡ depth_of (stage_of which)
at_depth stage which depth m n at deep here same = ap (λ k. k + 1) (sym same) ∙ here ∙ deep ∙ ap depth_of at

-- A section of another number is not the section of this stage.
pub not_at_depth : (stage : Stage) (which : Section) (depth m n : ℕ) → stage ≡ stage_of which → depth ≡ depth_of stage → (m + 1 ≡ depth → ⊥) → m ≡ n → n + 1 ≡ depth_of (stage_of which) → ⊥
not_at_depth stage which depth m n at deep other same here = other (ap (λ k. k + 1) same ∙ here ∙ sym (ap depth_of at) ∙ sym deep)
