-- How the records that match a question are pushed one by one.
use Rattle.std.proofs.Common.{◌≡◌, ◌∙◌, ℕ, ◌+◌, ◌<◌, ◌≤◌, Bool, true, false, cond, List, [], ◌∷◌, ◌++◌, length, length-append, take, drop, get_or, append_assoc, ap, sym, subst, arith, None}
use Rattle.std.proofs.lemmas.Bool.{le-leb, lt-leb}
use Rattle.std.proofs.lemmas.List.{take_more, append-nil, map-append, take-append-drop}
use Rattle.std.proofs.lemmas.List.Elements.{filter-append}
use Rattle.std.specs.Prelude.{map, nat_le, Ok, Err}
use Rattle.dns_message.specs.Targets.{Plain, Fits}
use Rattle.dns_message.specs.Questions.{QuestionItem}
use Rattle.dns_message.specs.Records.{RecordItem}
use Rattle.dns_message.specs.Builders.{Built, PushReturns, Represents, MovesState, InEach, size_after, InAnswer, State, with_record, most_entries, tc_rewound}
use Rattle.dns_message.specs.declared.builder.PushError.{PushError}
use Rattle.dns_message.specs.declared.builder.PushError.TheVariants.{CountOverflow, LimitExceeded, ShortBuf, OutOfMemory}
use Rattle.example_answer.specs.Answering.{is_asked, asked_records, with_answers, size, all_or_none}
use Rattle.example_answer.specs.Pushing.{MoreAnswers, PushesEach, AddsRecords}
use Rattle.dns_message.proofs.CallerLemmas.{longer_with_answers, items_are_few}

-- no further answers
none_more : (s : State) (b : Built) → Represents InAnswer Plain s b → MoreAnswers s b []
none_more s b h =
    let e : s ≡ with_answers [] s = λ i. record s { answers = sym (append-nil s.answers) i } in
    record { represents = subst (λ (t : State). Represents InAnswer Plain t b) e h; within = λ l. subst (λ (t : State). size t ≤ s.limit) e l }

-- when pushing an answer succeeds, and the reasons for which it fails
abbrev HasCapacity : RecordItem → State → Type 0
HasCapacity x t = let n = size_after Plain (with_record InAnswer x) t in Fits None n × (n ≤ t.limit) × (length t.answers < most_entries)

abbrev ExceedsLimit : RecordItem → State → Type 0
ExceedsLimit x t = let n = size_after Plain (with_record InAnswer x) t in Fits None n × (t.limit < n)

abbrev ExceedsCount : RecordItem → State → Type 0
ExceedsCount x t = let n = size_after Plain (with_record InAnswer x) t in Fits None n × (n ≤ t.limit) × (length t.answers ≡ most_entries)

-- one further answer after others
one_more : (s : State) (xs : List RecordItem) (x : RecordItem) (mid new : Built) → MoreAnswers s mid xs
    → MovesState InAnswer InAnswer Plain (with_record InAnswer x) mid new → InEach InAnswer Plain mid (HasCapacity x) → MoreAnswers s new (xs ++ x ∷ [])
one_more s xs x mid new h moves capacity =
    let e : with_record InAnswer x (with_answers xs s) ≡ with_answers (xs ++ x ∷ []) s = λ i. record s { answers = append_assoc s.answers xs (x ∷ []) i } in
    record {
      represents = subst (λ (t : State). Represents InAnswer Plain t new) e (moves (with_answers xs s) h.represents);
      within = λ l. subst (λ (t : State). size t ≤ s.limit) e (capacity (with_answers xs s) h.represents).1;
    }

-- with the first of further answers, a message is no longer than with all
some_within : (s : State) (b : Built) → Represents InAnswer Plain s b → (xs ys : List RecordItem) → size (with_answers xs s) ≤ size (with_answers (xs ++ ys) s)
some_within s b h xs ys =
    subst (λ (t : State). size (with_answers xs t) ≤ size (with_answers (xs ++ ys) t)) (sym h.last) (longer_with_answers Plain s xs ys)

-- if one answer exceeds the limit, all of them do
limit_exceeded : (s : State) (xs : List RecordItem) (x : RecordItem) (ys : List RecordItem) (b mid : Built) → Represents InAnswer Plain s b → MoreAnswers s mid xs
    → InEach InAnswer Plain mid (ExceedsLimit x) → s.limit < size (with_answers ((xs ++ x ∷ []) ++ ys) s)
limit_exceeded s xs x ys b mid h more exceeds =
    let e : with_record InAnswer x (with_answers xs s) ≡ with_answers (xs ++ x ∷ []) s = λ i. record s { answers = append_assoc s.answers xs (x ∷ []) i } in
    let l : s.limit < size (with_answers (xs ++ x ∷ []) s) = subst (λ (t : State). s.limit < size t) e (exceeds (with_answers xs s) more.represents).1 in
    let m = some_within s b h (xs ++ x ∷ []) ys in
    omega (arith, l, m)

-- if an answer can't be counted, the limit exceeds the greatest count
count_exceeded : (s : State) (xs : List RecordItem) (x : RecordItem) (mid : Built) → MoreAnswers s mid xs → InEach InAnswer Plain mid (ExceedsCount x) → most_entries < s.limit
count_exceeded s xs x mid more exceeds =
    let t = with_answers xs s in
    let p = exceeds t more.represents in
    let k = items_are_few Plain (with_record InAnswer x t) in
    let n = length-append t.answers (x ∷ []) in
    omega (arith, p, k, n)

module _ {R : Type 0} (item : R → RecordItem) (asked : QuestionItem) (table : List R) where
  -- the matches among the first records of the table
  abbrev pub first : ℕ → List RecordItem
  first i = asked_records asked (map item (take i table))

  -- one further record of the table
  next : (i : ℕ) (x : R) (d : R) → i < length table → x ≡ get_or table i d → first (i + 1) ≡ first i ++ cond (is_asked asked (item x)) (item x ∷ []) []
  next i x d l is =
      ap (λ (ys : List R). asked_records asked (map item ys)) (take_more table i d l)
      ∙ ap (λ (y : R). asked_records asked (map item (take i table ++ y ∷ []))) (sym is)
      ∙ ap (asked_records asked) (map-append item (take i table) (x ∷ []))
      ∙ filter-append (is_asked asked) (map item (take i table)) (item x ∷ [])

  next_taken : (i : ℕ) (x : R) (d : R) → i < length table → x ≡ get_or table i d → is_asked asked (item x) ≡ true → first (i + 1) ≡ first i ++ item x ∷ []
  next_taken i x d l is asks = next i x d l is ∙ ap (λ (b : Bool). first i ++ cond b (item x ∷ []) []) asks

  next_exceeded : (i : ℕ) (x : R) (d : R) → i < length table → x ≡ get_or table i d → is_asked asked (item x) ≡ false → first (i + 1) ≡ first i
  next_exceeded i x d l is other = next i x d l is ∙ ap (λ (b : Bool). first i ++ cond b (item x ∷ []) []) other ∙ append-nil (first i)

  -- the matches among the first records, followed by those among the remaining ones, are all matches
  first_then : (i : ℕ) → first i ++ asked_records asked (map item (drop i table)) ≡ asked_records asked (map item table)
  first_then i =
      sym (filter-append (is_asked asked) (map item (take i table)) (map item (drop i table)))
      ∙ ap (asked_records asked) (sym (map-append item (take i table) (drop i table)))
      ∙ ap (λ (ys : List R). asked_records asked (map item ys)) (take-append-drop i table)

  -- at first nothing is pushed
  pub pushes_none : (s : State) (b : Built) → Represents InAnswer Plain s b → MoreAnswers s b (first 0)
  pushes_none s b h = none_more s b h

  -- a record that matches is pushed
  pub pushes_next : (i : ℕ) (x d : R) → i < length table → x ≡ get_or table i d → is_asked asked (item x) ≡ true → (old mid new : Built)
      → MovesState InAnswer InAnswer Plain (with_record InAnswer (item x)) mid new → InEach InAnswer Plain mid (HasCapacity (item x))
      → InEach InAnswer Plain old (λ s. MoreAnswers s mid (first i)) → InEach InAnswer Plain old (λ s. MoreAnswers s new (first (i + 1)))
  pushes_next i x d l is asks old mid new moves capacity so_far s h =
      subst (MoreAnswers s new) (sym (next_taken i x d l is asks)) (one_more s (first i) (item x) mid new (so_far s h) moves capacity)

  -- a record that doesn't match is skipped
  pub exceeds_next : (i : ℕ) (x d : R) → i < length table → x ≡ get_or table i d → is_asked asked (item x) ≡ false → (old mid : Built)
      → InEach InAnswer Plain old (λ s. MoreAnswers s mid (first i)) → InEach InAnswer Plain old (λ s. MoreAnswers s mid (first (i + 1)))
  exceeds_next i x d l is other old mid so_far s h = subst (MoreAnswers s mid) (sym (next_exceeded i x d l is other)) (so_far s h)

  -- if a push fails, the reason is one for all matches, or the matches before it have been pushed
  pub refused_next : (i : ℕ) (x d : R) → i < length table → x ≡ get_or table i d → is_asked asked (item x) ≡ true → (old mid : Built)
      → InEach InAnswer Plain old (λ s. MoreAnswers s mid (first i)) → (e : PushError)
      → InEach InAnswer Plain mid (λ t. PushReturns None true t.limit (size_after Plain (with_record InAnswer (item x)) t) (length t.answers) (Err e))
      → InEach InAnswer Plain old (λ s. PushesEach (asked_records asked (map item table)) s (Err e) mid)
  refused_next i x d l is asks old mid so_far ShortBuf fails s h = fails (with_answers (first i) s) (so_far s h).represents
  refused_next i x d l is asks old mid so_far OutOfMemory fails s h = tt
  refused_next i x d l is asks old mid so_far CountOverflow fails s h = count_exceeded s (first i) (item x) mid (so_far s h) fails
  refused_next i x d l is asks old mid so_far LimitExceeded fails s h =
      let others = asked_records asked (map item (drop (i + 1) table)) in
      let all : (first i ++ item x ∷ []) ++ others ≡ asked_records asked (map item table) =
      ap (λ (ys : List RecordItem). ys ++ others) (sym (next_taken i x d l is asks)) ∙ first_then (i + 1) in (
        first i,
        so_far s h,
        subst (λ (ys : List RecordItem). s.limit < size (with_answers ys s)) all (limit_exceeded s (first i) (item x) others old mid h (so_far s h) fails),
      )

-- the choice of `all_or_none`, by a test whose outcome is known
chosen : (xs : List RecordItem) (s : State) (b : Bool) → nat_le (size (with_answers xs s)) s.limit ≡ b → all_or_none xs s ≡ cond b (with_answers xs s) (tc_rewound InAnswer s)
chosen xs s b is = ap (λ (t : Bool). cond t (with_answers xs s) (tc_rewound InAnswer s)) is

-- all matches are added
pub all_added : (xs : List RecordItem) (s : State) (new : Built) → MoreAnswers s new xs → AddsRecords xs s (Ok new)
all_added xs s new more l =
    subst (λ (t : State). Represents InAnswer Plain t new) (sym (chosen xs s true (le-leb (size (with_answers xs s)) s.limit (more.within l)))) more.represents

-- no match is added, and TC is set
pub none_added : (xs : List RecordItem) (s : State) (mid new : Built) → PushesEach xs s (Err LimitExceeded) mid
    → MovesState InAnswer InAnswer Plain (tc_rewound InAnswer) mid new → AddsRecords xs s (Ok new)
none_added xs s mid new p moves l =
    let other = lt-leb (size (with_answers xs s)) s.limit p.2 in
    subst (λ (t : State). Represents InAnswer Plain t new) (sym (chosen xs s false other)) (moves (with_answers p.0 s) p.1.represents)
