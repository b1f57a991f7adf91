-- Each section has exactly one reading. RFC 1035 section 4.1. The proof is in `specs` because `questions_from` and `records_from` take their list from it.
use Rattle.std.proofs.Common.{◌≡◌, ℕ, zero, suc, ◌⊎◌, inl, inr, List, [], ◌∷◌, ap, sym, ◌∙◌, refl, subst}
use Rattle.std.specs.Prelude.{Result, Ok, Err}
use Rattle.dns_name.specs.Names.{Fault, ReadsOrFaults}
use Rattle.dns_item.specs.Questions.{ReadsQuestion, QuestionFaultAt}
use Rattle.dns_item.specs.Items.{ReadsRecord, RecordFaultAt}
use Rattle.dns_item.proofs.theory.QuestionEntryLemmas.{question_or_fault}
use Rattle.dns_item.proofs.theory.EntryLemmas.{record_or_fault}
use Rattle.dns_read.specs.Reading.{Reading}
use Rattle.dns_read.specs.Reading.Reading.{none, entry, stop}
use Rattle.dns_read.specs.Readings.{OneReading, OneReadingOfQuestions, OneReadingOfRecords}

module _ {X : Type 0} (Reads : ℕ → ℕ → X → Type 0) (FaultOf : ℕ → Fault → Type 0) (each : ReadsOrFaults Reads FaultOf) where
  some_reading : (n p : ℕ) → (xs : List (Result X Fault)) × Reading Reads FaultOf n p xs
  some_reading zero p = ([], none)
  some_reading (suc n) p =
      elim (each.some p) [
        | inl a ↦ let r = some_reading n a.0 in (Ok a.1 ∷ r.0, entry a.2 r.1)
        | inr a ↦ (Err a.0 ∷ [], stop a.1)
      ]

  -- what a reading is, by the number n of entries that it may have
  abbrev Parts : ℕ → ℕ → List (Result X Fault) → Type 0
  Parts zero p xs = xs ≡ []
  Parts (suc n) p xs =
      ((q : ℕ) × (x : X) × (others : List (Result X Fault)) × Reads p q x × Reading Reads FaultOf n q others × (xs ≡ Ok x ∷ others))
      ⊎ ((f : Fault) × FaultOf p f × (xs ≡ Err f ∷ []))

  parts : {n p : ℕ} {xs : List (Result X Fault)} → Reading Reads FaultOf n p xs → Parts n p xs
  parts none = refl
  parts (entry {q = q} {x = x} {xs = xs} h r) = inl (q, x, xs, h, r, refl)
  parts (stop {f = f} h) = inr (f, h, refl)

  one_reading : (n p : ℕ) (xs ys : List (Result X Fault)) → Reading Reads FaultOf n p xs → Reading Reads FaultOf n p ys → xs ≡ ys
  one_reading zero p xs ys r s = parts r ∙ sym (parts s)
  one_reading (suc n) p xs ys r s =
      elim (parts r) [
        | inl a ↦ elim (parts s) [
          | inl b ↦
              let e = each.one p a.0 b.0 a.1 b.1 a.3 b.3 in
              let s' = subst (λ q. Reading Reads FaultOf n q b.2) (sym e.0) b.4 in
              let rest = one_reading n a.0 a.2 b.2 a.4 s' in
              a.5 ∙ (λ i. Ok (e.1 i) ∷ rest i) ∙ sym b.5
          | inr b ↦ absurd (each.not_both p a.0 a.1 b.0 a.3 b.1)
        ]
        | inr a ↦ elim (parts s) [
          | inl b ↦ absurd (each.not_both p b.0 b.1 a.0 b.3 a.1)
          | inr b ↦ a.2 ∙ ap (λ (f : Fault). let x : Result X Fault = Err f in x ∷ []) (each.one_fault p a.0 b.0 a.1 b.1) ∙ sym b.2
        ]
      ]

  readings : OneReading Reads FaultOf
  readings = record { some = some_reading; one = one_reading }

pub one_reading_of_questions : OneReadingOfQuestions
one_reading_of_questions b = readings (ReadsQuestion b) (QuestionFaultAt b) (question_or_fault b)

pub one_reading_of_records : OneReadingOfRecords
one_reading_of_records b = readings (ReadsRecord b) (RecordFaultAt b) (record_or_fault b)
