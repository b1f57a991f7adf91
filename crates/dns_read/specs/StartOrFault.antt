-- Each section has exactly one start or exactly one fault.
use Rattle.std.proofs.Common.{◌≡◌, ℕ, zero, suc, ◌⊎◌, inl, inr, List, sym, ◌∙◌, refl, subst}
use Rattle.dns_name.specs.Names.{Fault, EndsOrFaults}
use Rattle.dns_code.specs.HeaderSection.{header_size}
use Rattle.dns_item.proofs.theory.QuestionEntryLemmas.{question_end_or_fault}
use Rattle.dns_item.proofs.theory.EntryLemmas.{record_end_or_fault}
use Rattle.dns_read.specs.Reading.{Skipped, StopsSkipping}
use Rattle.dns_read.specs.Reading.Skipped.{none, more}
use Rattle.dns_read.specs.Reading.StopsSkipping.{here, after}
use Rattle.dns_read.specs.Sections.{question_count, answer_count, authority_count, AnswersStart, AuthoritiesStart, AdditionalsStart, AnswersFault, AuthoritiesFault, AdditionalsFault}
use Rattle.dns_read.specs.Readings.{QuestionsSkipOrStop, RecordsSkipOrStop, OneStart, StartsOrFaults, StartOrFault}

module _ {Skips : ℕ → ℕ → Type 0} {FaultOf : ℕ → Fault → Type 0} (each : EndsOrFaults Skips FaultOf) where
  -- the cases of `Skipped` and of `StopsSkipping`, by the number of entries
  abbrev Steps : ℕ → ℕ → ℕ → Type 0
  Steps zero p q = q ≡ p
  Steps (suc n) p q = (r : ℕ) × Skips p r × Skipped Skips n r q

  steps : {n p q : ℕ} → Skipped Skips n p q → Steps n p q
  steps none = refl
  steps (more {q = q} h x) = (q, h, x)

  abbrev Stops : ℕ → ℕ → Fault → Type 0
  Stops zero p f = ⊥
  Stops (suc n) p f = FaultOf p f ⊎ ((q : ℕ) × Skips p q × StopsSkipping Skips FaultOf n q f)

  stops : {n p : ℕ} {f : Fault} → StopsSkipping Skips FaultOf n p f → Stops n p f
  stops (here h) = inl h
  stops (after {q = q} h x) = inr (q, h, x)

  skipped_or_stopped : (n p : ℕ) → ((q : ℕ) × Skipped Skips n p q) ⊎ ((f : Fault) × StopsSkipping Skips FaultOf n p f)
  skipped_or_stopped zero p = inl (p, none)
  skipped_or_stopped (suc n) p =
      elim (each.some p) [
        | inl a ↦ elim (skipped_or_stopped n a.0) [ inl r ↦ inl (r.0, more a.1 r.1) | inr f ↦ inr (f.0, after a.1 f.1) ]
        | inr f ↦ inr (f.0, here f.1)
      ]

  one_skipped : (n p q r : ℕ) → Skipped Skips n p q → Skipped Skips n p r → q ≡ r
  one_skipped zero p q r x y = steps x ∙ sym (steps y)
  one_skipped (suc n) p q r x y =
      let a = steps x in
      let b = steps y in
      one_skipped n a.0 q r a.2 (subst (λ k. Skipped Skips n k r) (sym (each.one p a.0 b.0 a.1 b.1)) b.2)

  skipped_not_stopped : (n p q : ℕ) (f : Fault) → Skipped Skips n p q → StopsSkipping Skips FaultOf n p f → ⊥
  skipped_not_stopped zero p q f x y = stops y
  skipped_not_stopped (suc n) p q f x y =
      let a = steps x in
      elim (stops y) [
        | inl g ↦ each.not_both p a.0 f a.1 g
        | inr b ↦ skipped_not_stopped n a.0 q f a.2 (subst (λ k. StopsSkipping Skips FaultOf n k f) (each.one p b.0 a.0 b.1 a.1) b.2)
      ]

  one_stop : (n p : ℕ) (f g : Fault) → StopsSkipping Skips FaultOf n p f → StopsSkipping Skips FaultOf n p g → f ≡ g
  one_stop zero p f g x y = absurd (stops x)
  one_stop (suc n) p f g x y =
      elim (stops x) [
        | inl a ↦ elim (stops y) [ inl b ↦ each.one_fault p f g a b | inr b ↦ absurd (each.not_both p b.0 f b.1 a) ]
        | inr a ↦ elim (stops y) [
          | inl b ↦ absurd (each.not_both p a.0 g a.1 b)
          | inr b ↦ one_stop n a.0 f g a.2 (subst (λ k. StopsSkipping Skips FaultOf n k g) (each.one p b.0 a.0 b.1 a.1) b.2)
        ]
      ]

  -- n entries can be skipped, or one of them has a fault
  skips_or_stops : (n : ℕ) → EndsOrFaults (Skipped Skips n) (StopsSkipping Skips FaultOf n)
  skips_or_stops n = record { some = skipped_or_stopped n; one = one_skipped n; not_both = skipped_not_stopped n; one_fault = one_stop n }

-- the same for questions
pub questions_skip_or_stop : QuestionsSkipOrStop
questions_skip_or_stop b n = skips_or_stops (question_end_or_fault b) n

-- the same for records
pub records_skip_or_stop : RecordsSkipOrStop
records_skip_or_stop b n = skips_or_stops (record_end_or_fault b) n

-- the section after one that has a start, or has none
module _ {Start : ℕ → Type 0} {NoStart : Fault → Type 0} {Skips : ℕ → ℕ → Type 0} {FaultOf : ℕ → Fault → Type 0} (before : StartsOrFaults Start NoStart) (each : EndsOrFaults Skips FaultOf) where
  abbrev After : ℕ → Type 0
  After p = (q : ℕ) × Start q × Skips q p

  abbrev NoneAfter : Fault → Type 0
  NoneAfter f = NoStart f ⊎ ((q : ℕ) × Start q × FaultOf q f)

  some_after : ((p : ℕ) × After p) ⊎ ((f : Fault) × NoneAfter f)
  some_after = elim before.some [
    | inl a ↦ elim (each.some a.0) [ inl r ↦ inl (r.0, (a.0, a.1, r.1)) | inr f ↦ inr (f.0, inr (a.0, a.1, f.1)) ]
    | inr f ↦ inr (f.0, inl f.1)
  ]

  one_after : (p q : ℕ) → After p → After q → p ≡ q
  one_after p q x y = each.one x.0 p q x.2 (subst (λ k. Skips k q) (before.one y.0 x.0 y.1 x.1) y.2)

  not_both_after : (p : ℕ) (f : Fault) → After p → NoneAfter f → ⊥
  not_both_after p f x y = elim y [
    | inl g ↦ before.not_both x.0 f x.1 g
    | inr b ↦ each.not_both x.0 p f x.2 (subst (λ k. FaultOf k f) (before.one b.0 x.0 b.1 x.1) b.2)
  ]

  one_fault_after : (f g : Fault) → NoneAfter f → NoneAfter g → f ≡ g
  one_fault_after f g x y = elim x [
    | inl a ↦ elim y [ inl b ↦ before.one_fault f g a b | inr b ↦ absurd (before.not_both b.0 f b.1 a) ]
    | inr a ↦ elim y [
      | inl b ↦ absurd (before.not_both a.0 g a.1 b)
      | inr b ↦ each.one_fault a.0 f g a.2 (subst (λ k. FaultOf k g) (before.one b.0 a.0 b.1 a.1) b.2)
    ]
  ]

  section_after : StartsOrFaults After NoneAfter
  section_after = record { some = some_after; one = one_after; not_both = not_both_after; one_fault = one_fault_after }

answers : (b : List ℕ) → StartsOrFaults (AnswersStart b) (AnswersFault b)
answers b =
    let all = questions_skip_or_stop b (question_count b) in
    record { some = all.some header_size; one = all.one header_size; not_both = all.not_both header_size; one_fault = all.one_fault header_size }

authorities : (b : List ℕ) → StartsOrFaults (AuthoritiesStart b) (AuthoritiesFault b)
authorities b = section_after (answers b) (records_skip_or_stop b (answer_count b))

additionals : (b : List ℕ) → StartsOrFaults (AdditionalsStart b) (AdditionalsFault b)
additionals b = section_after (authorities b) (records_skip_or_stop b (authority_count b))

-- A section has a start or a fault.
pub start_or_fault : StartOrFault
start_or_fault = record { answers = answers; authorities = authorities; additionals = additionals }

-- A section has at most one start.
pub one_start : OneStart
one_start = record { answers = λ b. (answers b).one; authorities = λ b. (authorities b).one; additionals = λ b. (additionals b).one }
