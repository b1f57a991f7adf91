-- The questions pushed when an answer is started.
use Rattle.std.proofs.Common.{◌≡◌, ◌⊎◌, ℕ, Bool, Option, Result, Ok, Err, List, [], ◌∷◌, ◌++◌, append_assoc, append-nil, ap, sym, ◌∙◌, refl, subst, inl, inr}
use Rattle.std.specs.List.{filter_map}
use Rattle.std.specs.Result.{result_ok}
use Rattle.dns_octets.specs.declared.error.ParseError.{ParseError}
use Rattle.dns_name.specs.Names.{Fault}
use Rattle.dns_wire.specs.Encoders.{Rule}
use Rattle.dns_item.specs.Questions.{QuestionItem}
use Rattle.dns_read.specs.QuestionSection.{questions_left, to_come, position, octets_of}
use Rattle.dns_read.specs.QuestionsFrom.{questions_from}
use Rattle.dns_read.specs.Skipping.{items_left}
use Rattle.dns_read.specs.declared.question_section.QuestionSection.{QuestionSection}
use Rattle.dns_build.specs.Answers.{ReturnsQuestion, AreAccepted, Asks, GivesEither, IsEither}
use Rattle.dns_build.specs.BuilderStates.{Built, Represents, MovesState, InEach}
use Rattle.dns_build.specs.State.{State, InQuestion, with_question, with_questions}
use Rattle.dns_build.specs.declared.push_error.PushError.{PushError}

-- An empty list has no element.
pub none_there : {X : Type 0} (before after : List X) (x : X) → [] ≡ before ++ x ∷ after → ⊥
none_there [] after x is = cc
none_there (y ∷ before) after x is = cc

-- An element of a list with one more element is the last one, or is in the list.
pub at_end_or_before : {X : Type 0} (xs before after : List X) (x y : X) → xs ++ x ∷ [] ≡ before ++ y ∷ after
    → ((before ≡ xs) × (y ≡ x)) ⊎ ((less : List X) × (xs ≡ before ++ y ∷ less))
at_end_or_before [] [] after x y is = inl (refl, cc)
at_end_or_before [] (z ∷ before) after x y is = let rest : [] ≡ before ++ y ∷ after = cc in absurd (none_there before after y rest)
at_end_or_before (w ∷ xs) [] after x y is = let same : w ≡ y = cc in inr (xs, ap (λ z. z ∷ xs) same)
at_end_or_before {X} (w ∷ xs) (z ∷ before) after x y is =
    let same : w ≡ z = cc in
    let rest : xs ++ x ∷ [] ≡ before ++ y ∷ after = cc in
    by (at_end_or_before xs before after x y rest) same
  where
    by : ((before ≡ xs) × (y ≡ x)) ⊎ ((less : List X) × (xs ≡ before ++ y ∷ less)) → w ≡ z
        → ((z ∷ before ≡ w ∷ xs) × (y ≡ x)) ⊎ ((less : List X) × (w ∷ xs ≡ (z ∷ before) ++ y ∷ less))
    by (inl p) same = inl ((λ i. sym same i ∷ p.0 i), p.1)
    by (inr p) same = inr (p.0, (λ i. same i ∷ p.1 i))

module _ (capacity : Option ℕ) (grows : Bool) (rule : Rule) (s : State) where
  -- an empty list of questions can be pushed
  pub none_accepted : AreAccepted capacity grows rule s []
  none_accepted before x after is = absurd (none_there before after x is)

  -- if one more question can be pushed, all of them can
  one_accepted : (xs : List QuestionItem) (x : QuestionItem) → AreAccepted capacity grows rule s xs → ReturnsQuestion capacity grows rule x (with_questions xs s) (Ok tt)
      → AreAccepted capacity grows rule s (xs ++ x ∷ [])
  one_accepted xs x accepted more before y after is = by (at_end_or_before xs before after x y is)
    where
      by : ((before ≡ xs) × (y ≡ x)) ⊎ ((less : List QuestionItem) × (xs ≡ before ++ y ∷ less)) → ReturnsQuestion capacity grows rule y (with_questions before s) (Ok tt)
      by (inl p) = subst (λ (q : QuestionItem × List QuestionItem). ReturnsQuestion capacity grows rule q.0 (with_questions q.1 s) (Ok tt)) (λ i. (sym p.1 i, sym p.0 i)) more
      by (inr p) = accepted before y p.0 p.1

  -- During a push of the questions `xs`: those before `rest` are pushed.
  pub record Pushing (xs rest : List QuestionItem) (now : Built) : Type 0 where
    pub first : List QuestionItem
    pub all : xs ≡ first ++ rest
    pub accepted : AreAccepted capacity grows rule s first
    pub represents : Represents InQuestion rule (with_questions first s) now

  -- at first all questions remain
  pub begins : (xs rest : List QuestionItem) (now : Built) → rest ≡ xs → Represents InQuestion rule s now → Pushing xs rest now
  begins xs rest now is represents = record {
    first = [];
    all = sym is;
    accepted = none_accepted;
    represents = let same : s ≡ with_questions [] s = λ i. record s { questions = sym (append-nil s.questions) i } in subst (λ (t : State). Represents InQuestion rule t now) same represents;
  }

  -- at the end none remains
  pub ends : (xs rest : List QuestionItem) (now : Built) → rest ≡ [] → Pushing xs rest now → Asks capacity grows rule s xs (Ok tt) now
  ends xs rest now is p =
      let all : p.first ≡ xs = sym (append-nil p.first) ∙ ap (λ (ys : List QuestionItem). p.first ++ ys) (sym is) ∙ sym p.all in
      subst (λ (ys : List QuestionItem). AreAccepted capacity grows rule s ys × Represents InQuestion rule (with_questions ys s) now) all (p.accepted, p.represents)

  module _ (xs rest : List QuestionItem) (x : QuestionItem) (less : List QuestionItem) (is : rest ≡ x ∷ less) (old new : Built) where
    after : (p : Pushing xs rest old) → xs ≡ p.first ++ x ∷ less
    after p = p.all ∙ ap (λ (ys : List QuestionItem). p.first ++ ys) is

    -- the next question is pushed
    pub takes-next : InEach InQuestion rule old (λ t. ReturnsQuestion capacity grows rule x t (Ok tt)) → MovesState InQuestion InQuestion rule (with_question x) old new
        → Pushing xs rest old → Pushing xs less new
    takes-next fits moves p = record {
      first = p.first ++ x ∷ [];
      all = after p ∙ sym (append_assoc p.first (x ∷ []) less);
      accepted = one_accepted p.first x p.accepted (fits (with_questions p.first s) p.represents);
      represents =
          let same : with_question x (with_questions p.first s) ≡ with_questions (p.first ++ x ∷ []) s = λ i. record s { questions = append_assoc s.questions p.first (x ∷ []) i } in
          subst (λ (t : State). Represents InQuestion rule t new) same (moves (with_questions p.first s) p.represents);
    }

    -- pushing the next question fails
    pub refuses-next : (e : PushError) → InEach InQuestion rule old (λ t. ReturnsQuestion capacity grows rule x t (Err e)) → new ≡ old → Pushing xs rest old → Asks capacity grows rule s xs (Err e) new
    refuses-next e refused same p = (
      p.first,
      record { accepted = p.accepted; next = x; others = less; all = after p; refused = refused (with_questions p.first s) p.represents },
      subst (Represents InQuestion rule (with_questions p.first s)) (sym same) p.represents,
    )

-- after a question that was read come the other readable ones
pub readable-next : (rest left : List (Result QuestionItem Fault)) (x : QuestionItem) → rest ≡ Ok x ∷ left → filter_map result_ok rest ≡ x ∷ filter_map result_ok left
readable-next rest left x is = ap (filter_map result_ok) is

-- a fault is the last item
pub readable-fault : (rest : List (Result QuestionItem Fault)) (new : QuestionSection) (f : Fault) (e : ParseError) → rest ≡ Err f ∷ questions_left new
    → to_come new ≡ Err e → filter_map result_ok rest ≡ []
readable-fault rest new f e is faulted =
    ap (filter_map result_ok) is
    ∙ ap (λ (left : Result ℕ ParseError). filter_map result_ok (items_left (λ n. questions_from (octets_of new) n (position new)) left)) faulted

-- the builder is taken from `Ok` or from `Err`
pub takes_either : (capacity : Option ℕ) (grows : Bool) (rule : Rule) (s : State) (xs : List QuestionItem) (result : Result Built Built) (b : Built)
    → (result ≡ Ok b) ⊎ (result ≡ Err b) → GivesEither capacity grows rule s xs result → IsEither capacity grows rule s xs b
takes_either capacity grows rule s xs result b (inl is) gives = inl (subst (GivesEither capacity grows rule s xs) is gives)
takes_either capacity grows rule s xs result b (inr is) gives = inr (subst (GivesEither capacity grows rule s xs) is gives)
