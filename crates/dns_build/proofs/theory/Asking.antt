-- The lengths of messages to which questions are pushed.
use Rattle.std.proofs.Common.{◌≡◌, ◌≤◌, ℕ, Bool, Option, List, [], ◌∷◌, ◌++◌, append_assoc, append-nil, sym, refl, subst}
use Rattle.dns_wire.specs.Encoders.{Rule}
use Rattle.dns_item.specs.Questions.{QuestionItem}
use Rattle.dns_build.specs.Answers.{AreAccepted}
use Rattle.dns_build.specs.BuilderStates.{size_after}
use Rattle.dns_build.specs.State.{State, with_question, with_questions}

module _ (capacity : Option ℕ) (grows : Bool) (rule : Rule) (s : State) where
  -- if the message is within the limit after the first questions, and the others can be pushed, it is within the limit after all
  all_within : (xs ys : List QuestionItem) → AreAccepted capacity grows rule s (xs ++ ys) → size_after rule (with_questions xs) s ≤ s.limit → size_after rule (with_questions (xs ++ ys)) s ≤ s.limit
  all_within xs [] accepted l = subst (λ (zs : List QuestionItem). size_after rule (with_questions zs) s ≤ s.limit) (sym (append-nil xs)) l
  all_within xs (y ∷ ys) accepted l =
      let e : with_question y (with_questions xs s) ≡ with_questions (xs ++ y ∷ []) s = λ i. record s { questions = append_assoc s.questions xs (y ∷ []) i } in
      let m = subst (λ (t : State). size_after rule (λ u. u) t ≤ s.limit) e (accepted xs y ys refl).1 in
      let others = all_within (xs ++ y ∷ []) ys (subst (AreAccepted capacity grows rule s) (sym (append_assoc xs (y ∷ []) ys)) accepted) m in
      subst (λ (zs : List QuestionItem). size_after rule (with_questions zs) s ≤ s.limit) (append_assoc xs (y ∷ []) ys) others

  -- a message within its limit stays so when questions are pushed
  pub accepted_within : (xs : List QuestionItem) → AreAccepted capacity grows rule s xs → size_after rule (λ t. t) s ≤ s.limit → size_after rule (with_questions xs) s ≤ s.limit
  accepted_within xs accepted l =
      let e : s ≡ with_questions [] s = λ i. record s { questions = sym (append-nil s.questions) i } in
      all_within [] xs accepted (subst (λ (t : State). size_after rule (λ u. u) t ≤ s.limit) e l)
