-- What the messages of a transfer give is one list of items and one end.
use Rattle.std.proofs.Common.{◌≡◌, ◌∙◌, ℕ, inl, inr, ap, sym, refl, subst, List, [], ◌∷◌, ◌++◌}
use Rattle.std.specs.Prelude.{◌⊎◌, Option, Some, None, Result, Ok, Err}
use Rattle.dns_octets.specs.declared.error.ParseError.{ParseError}
use Rattle.dns_name.specs.Names.{Fault, fault_of}
use Rattle.dns_name.specs.Names.Fault.{ShortInput, Form}
use Rattle.dns_read.specs.SectionStarts.{records_of}
use Rattle.dns_read.specs.Sections.{AnswersFault}
use Rattle.dns_read.specs.StartOrFault.{start_or_fault}
use Rattle.dns_read.specs.declared.section.Section.TheVariants.{Answer}
use Rattle.dns_read.proofs.theory.SectionStartLemmas.{start_found, no_answers}
use Rattle.dns_transfer.specs.Asked.{Asked}
use Rattle.dns_transfer.specs.Errors.{error_of}
use Rattle.dns_transfer.specs.Messages.{RefusesMessage, error_before_answers}
use Rattle.dns_transfer.specs.Messages.RefusesMessage.{before, no_start}
use Rattle.dns_transfer.specs.Steps.{Item, run_of}
use Rattle.dns_transfer.specs.Transfers.{IsTaken, TransfersFrom, TakenOrRefused, SomeTransfer, OneTransfer, NothingFollows}
use Rattle.dns_transfer.specs.Transfers.TransfersFrom.{none, message, stopped, refused}
use Rattle.dns_transfer.specs.declared.error.TransferError.{TransferError}
use Rattle.dns_transfer.specs.declared.error.TransferError.TheVariants.{Parse}
use Rattle.dns_transfer.specs.declared.grammar.State.{State}
use Rattle.dns_transfer.proofs.KindLemmas.{error_of-fault_of}

-- the fault that the error of a fault reports is that fault
fault_of-error_of : (f : Fault) → fault_of (error_of f) ≡ f
fault_of-error_of ShortInput = refl
fault_of-error_of (Form cause) = refl

-- errors with one fault are one
one_of_fault : (e f : ParseError) → fault_of e ≡ fault_of f → e ≡ f
one_of_fault e f same = sym (error_of-fault_of e) ∙ ap error_of same ∙ error_of-fault_of f

module _ (asked : Asked) (state : State) (b : List ℕ) where
  -- a message that is taken isn't refused
  not_both : (e : TransferError) → IsTaken asked state b → RefusesMessage asked state b e → ⊥
  not_both e taken (before is) = let both = sym taken.no_error ∙ is in cc both
  not_both e taken (no_start {e = error} is fault) = let both = sym taken.starts ∙ no_answers b (fault_of error) fault in cc both

  -- a message is refused with one error
  one_error : (e f : TransferError) → RefusesMessage asked state b e → RefusesMessage asked state b f → e ≡ f
  one_error e f (before is) (before same) = let both = sym is ∙ same in cc both
  one_error e f (before is) (no_start clean fault) = absurd (let both = sym is ∙ clean in cc both)
  one_error e f (no_start clean fault) (before is) = absurd (let both = sym is ∙ clean in cc both)
  one_error e f (no_start {e = error} clean fault) (no_start {e = other} also again) =
      ap (λ (p : ParseError). Parse p) (one_of_fault error other ((start_or_fault.answers b).one_fault (fault_of error) (fault_of other) fault again))

  -- a message is taken or refused
  by_error : (o : Option TransferError) → error_before_answers asked state b ≡ o → IsTaken asked state b ⊎ ((e : TransferError) × RefusesMessage asked state b e)
  by_error (Some e) is = inr (e, before is)
  by_error None is =
      elim (start_or_fault.answers b).some [
        | inl s ↦ inl (record { no_error = is; start = s.0; starts = start_found Answer b s.0 s.1 })
        | inr f ↦ inr (Parse (error_of f.0), no_start is (subst (AnswersFault b) (sym (fault_of-error_of f.0)) f.1))
      ]

-- A message is taken, or it is refused with one error.
pub taken_or_refused : TakenOrRefused
taken_or_refused = record {
  some = λ asked state b. by_error asked state b (error_before_answers asked state b) refl;
  not_both = λ asked state b e taken refuses. not_both asked state b e taken refuses;
  one_error = λ asked state b e f refuses also. one_error asked state b e f refuses also;
}

-- what messages give, by the first of them
abbrev From : Asked → State → List (List ℕ) → List Item → Result State TransferError → Type 0
From asked state [] xs end = (xs ≡ []) × (end ≡ Ok state)
From asked state (b ∷ bs) xs end =
    ((next : State) × (items : List Item) × IsTaken asked state b × ((run_of asked (records_of Answer b) state).1 ≡ Ok next) × TransfersFrom asked next bs items end
    × (xs ≡ (run_of asked (records_of Answer b) state).0 ++ items))
    ⊎ (((e : TransferError) × IsTaken asked state b × ((run_of asked (records_of Answer b) state).1 ≡ Err e) × (xs ≡ (run_of asked (records_of Answer b) state).0) × (end ≡ Err e))
    ⊎ ((e : TransferError) × RefusesMessage asked state b e × (xs ≡ Err e ∷ []) × (end ≡ Err e)))

from : {asked : Asked} {state : State} {bs : List (List ℕ)} {xs : List Item} {end : Result State TransferError} → TransfersFrom asked state bs xs end → From asked state bs xs end
from none = (refl, refl)
from (message {next = next} {items = items} taken goes later) = inl (next, items, taken, goes, later, refl)
from (stopped {e = e} taken stops) = inr (inl (e, taken, stops, refl, refl))
from (refused {e = e} refuses) = inr (inr (e, refuses, refl, refl))

-- two results of one run
same_state : {r : Result State TransferError} {m n : State} → r ≡ Ok m → r ≡ Ok n → m ≡ n
same_state h k = let both = sym h ∙ k in cc both

same_end : {r : Result State TransferError} {e f : TransferError} → r ≡ Err e → r ≡ Err f → e ≡ f
same_end h k = let both = sym h ∙ k in cc both

not_both_ends : {r : Result State TransferError} {m : State} {e : TransferError} → r ≡ Ok m → r ≡ Err e → ⊥
not_both_ends h k = let both = sym h ∙ k in cc both

-- an error is the end
ended_alike : {end other : Result State TransferError} {e f : TransferError} → end ≡ Err e → other ≡ Err f → e ≡ f → end ≡ other
ended_alike h k same = h ∙ ap (λ (e : TransferError). let r : Result State TransferError = Err e in r) same ∙ sym k

-- Messages give one list of items, and one end.
pub one_transfer : OneTransfer
one_transfer asked state [] xs ys end other x y = let h = from x in let k = from y in (h.0 ∙ sym k.0, h.1 ∙ sym k.1)
one_transfer asked state (b ∷ bs) xs ys end other x y =
    elim (from x) [
      | inl h ↦ elim (from y) [
        | inl k ↦
            let later = subst (λ (n : State). TransfersFrom asked n bs k.1 other) (same_state k.3 h.3) k.4 in
            let same = one_transfer asked h.0 bs h.1 k.1 end other h.4 later in
            (h.5 ∙ ap (λ (items : List Item). (run_of asked (records_of Answer b) state).0 ++ items) same.0 ∙ sym k.5, same.1)
        | inr k ↦ elim k [ inl k ↦ absurd (not_both_ends h.3 k.2) | inr k ↦ absurd (not_both asked state b k.0 h.2 k.1) ]
      ]
      | inr h ↦ elim h [
        | inl h ↦ elim (from y) [
          | inl k ↦ absurd (not_both_ends k.3 h.2)
          | inr k ↦ elim k [
            | inl k ↦ (h.3 ∙ sym k.3, ended_alike h.4 k.4 (same_end h.2 k.2))
            | inr k ↦ absurd (not_both asked state b k.0 h.1 k.1)
          ]
        ]
        | inr h ↦ elim (from y) [
          | inl k ↦ absurd (not_both asked state b h.0 k.2 h.1)
          | inr k ↦ elim k [
            | inl k ↦ absurd (not_both asked state b h.0 k.1 h.1)
            | inr k ↦
                let same = one_error asked state b h.0 k.0 h.1 k.1 in
                (h.2 ∙ ap (λ (e : TransferError). let item : Item = Err e in item ∷ []) same ∙ sym k.2, ended_alike h.3 k.3 same)
          ]
        ]
      ]
    ]

-- what messages give, if the first is taken and this is what they give after it from each state
module _ (asked : Asked) (state : State) (b : List ℕ) (bs : List (List ℕ)) (taken : IsTaken asked state b)
    (later : (next : State) → (items : List Item) × (end : Result State TransferError) × TransfersFrom asked next bs items end) where
  by_end : (r : Result State TransferError) → (run_of asked (records_of Answer b) state).1 ≡ r
      → (items : List Item) × (end : Result State TransferError) × TransfersFrom asked state (b ∷ bs) items end
  by_end (Ok next) is = let others = later next in ((run_of asked (records_of Answer b) state).0 ++ others.0, others.1, message taken is others.2)
  by_end (Err e) is = ((run_of asked (records_of Answer b) state).0, Err e, stopped taken is)

-- Messages give a list of items, and an end.
pub some_transfer : SomeTransfer
some_transfer asked state [] = ([], Ok state, none)
some_transfer asked state (b ∷ bs) =
    let later = λ (next : State). some_transfer asked next bs in
    elim (taken_or_refused.some asked state b) [
      | inl taken ↦ by_end asked state b bs taken later (run_of asked (records_of Answer b) state).1 refl
      | inr refuses ↦ (Err refuses.0 ∷ [], Err refuses.0, refused refuses.1)
    ]

-- After the end no message is taken.
pub nothing_follows : NothingFollows
nothing_follows asked b taken = let clean = taken.no_error in cc clean
