-- How steps are taken one by one.
use Rattle.std.proofs.Common.{◌≡◌, ◌∙◌, ◌⊎◌, ◌<◌, ◌≤◌, ◌-◌, ◌+◌, ◌++◌, ℕ, zero, suc, inl, inr, get_or, subst, Bool, true, false, cond, List, [], ◌∷◌, ap, sym, refl, arith, append_assoc, Some, None}
use Rattle.std.proofs.lemmas.List.{append-nil}
use Rattle.std.proofs.lemmas.List.Elements.{Contains-get_or}
use Rattle.std.proofs.lemmas.List.Folds.{list_any-append}
use Rattle.std.proofs.lemmas.List.Kept.{AllPairs-cons}
use Rattle.std.specs.List.{list_any}
use Rattle.std.specs.Prelude.{◌||◌, All, AllPairs, Contains, Option, map, option_map}
use Rattle.dns_message.proofs.CallerLemmas.{names_equal-Decides}
use Rattle.dns_message.specs.Names.{Labels, names_equal}
use Rattle.example_response.specs.Answers.{StepItem, is_among, is_named, next_of, repeats_dname, step_of, steps_from}
use Rattle.example_response.specs.Laws.{NamesAreOnce, SameName}
use Rattle.example_response.specs.Zones.{CaseItem, case_of}
use Rattle.example_response.specs.declared.zone.Zone.{Zone}
use Rattle.example_response.proofs.Tests.{by_test, in_none, is_one_of, never}

-- Whether one of the items that are shown passes a test.
pub any_shown : {X Y : Type 0} (f : X → Y) (p : Y → Bool) (xs : List X) → list_any p (map f xs) ≡ list_any (λ x. p (f x)) xs
any_shown f p [] = refl
any_shown f p (x ∷ xs) = ap (λ b. p (f x) || b) (any_shown f p xs)

-- the first of these items, or one of the others, if there are any
in_chosen : {X : Type 0} (none : Bool) (y x : X) (ys : List X) → Contains (cond none [] (y ∷ ys)) x → (none ≡ false) × ((y ≡ x) ⊎ Contains ys x)
in_chosen true y x ys h = in_none x h
in_chosen false y x ys h = (refl, is_one_of y x ys h)

-- whether a name was cloned, as the contract of a clone says it
abbrev IsCloned : {N : Type 0} → (N → Labels) → Option N → Option N → Type 0
IsCloned shown None None = Unit {0}
IsCloned shown None (Some y) = ⊥
IsCloned shown (Some x) None = ⊥
IsCloned shown (Some x) (Some y) = shown y ≡ shown x

-- A clone of a name shows the same.
pub cloned : {N : Type 0} (shown : N → Labels) (next current : Option N) → IsCloned shown next current → option_map shown current ≡ option_map shown next
cloned shown None None h = refl
cloned shown None (Some y) h = absurd h
cloned shown (Some x) None h = absurd h
cloned shown (Some x) (Some y) h = ap Some h

-- neither of two tests passes
or_false : (a b : Bool) → (a || b) ≡ false → a ≡ false
or_false true b e = absurd (cc)
or_false false b e = refl

or_also_false : (a b : Bool) → (a || b) ≡ false → b ≡ false
or_also_false true b e = absurd (cc)
or_also_false false b e = e

-- a name that isn't among steps isn't among some of them
among_neither : (name : Labels) (xs ys : List StepItem) → is_among name (xs ++ ys) ≡ false → (is_among name xs ≡ false) × (is_among name ys ≡ false)
among_neither name xs ys e =
    let both = sym (list_any-append (is_named name) xs ys) ∙ e in
    (or_false (is_among name xs) (is_among name ys) both, or_also_false (is_among name xs) (is_among name ys) both)

module _ (zone : Zone) (qtype : ℕ) where
  no_steps : (n : ℕ) (before : List StepItem) → steps_from zone qtype n before None ≡ []
  unfolding steps_from
  no_steps zero before = refl
  no_steps (suc n) before = refl

  none_left : (before : List StepItem) (next : Option Labels) → steps_from zone qtype 0 before next ≡ []
  unfolding steps_from
  none_left before next = refl

  -- the steps from a name, by whether it is among the steps before
  steps_by : ℕ → List StepItem → Labels → Bool → List StepItem
  steps_by n before name among =
      cond among [] (step_of zone qtype before name ∷ steps_from zone qtype n (before ++ step_of zone qtype before name ∷ []) (step_of zone qtype before name).next)

  one_step : (n : ℕ) (before : List StepItem) (name : Labels) → steps_from zone qtype (suc n) before (Some name) ≡ steps_by n before name (is_among name before)
  unfolding steps_from steps_by
  one_step n before name = refl

  no_step : (n : ℕ) (before : List StepItem) (name : Labels) → is_among name before ≡ true → steps_from zone qtype (suc n) before (Some name) ≡ []
  unfolding steps_by
  no_step n before name is = one_step n before name ∙ ap (steps_by n before name) is

  next_step : (n : ℕ) (before : List StepItem) (name : Labels) → is_among name before ≡ false → steps_from zone qtype (suc n) before (Some name)
      ≡ step_of zone qtype before name ∷ steps_from zone qtype n (before ++ step_of zone qtype before name ∷ []) (step_of zone qtype before name).next
  unfolding steps_by
  next_step n before name is = one_step n before name ∙ ap (steps_by n before name) is

  -- The steps so far are all if none follows.
  ends : (before : List StepItem) (later : List StepItem) (all : List StepItem) → later ≡ [] → before ++ later ≡ all → before ≡ all
  ends before later all none is = sym (append-nil before) ∙ ap (λ (xs : List StepItem). before ++ xs) (sym none) ∙ is

  -- They are all if no name follows.
  pub ends_early : (before : List StepItem) (n : ℕ) (current : Option Labels) (all : List StepItem) → current ≡ None → before ++ steps_from zone qtype n before current ≡ all → before ≡ all
  ends_early before n current all none is = ends before (steps_from zone qtype n before current) all (ap (steps_from zone qtype n before) none ∙ no_steps n before) is

  -- They are all if the name that follows is among them.
  pub ends_in_loop : (most i : ℕ) (before : List StepItem) (current : Option Labels) (name : Labels) (all : List StepItem)
      → i < most → current ≡ Some name → is_among name before ≡ true → before ++ steps_from zone qtype (most - i) before current ≡ all → before ≡ all
  ends_in_loop most i before current name all l follows among is =
      let left : most - i ≡ suc (most - (i + 1)) = omega arith in
      let none : steps_from zone qtype (most - i) before current ≡ [] = (λ j. steps_from zone qtype (left j) before (follows j)) ∙ no_step (most - (i + 1)) before name among in
      ends before (steps_from zone qtype (most - i) before current) all none is

  -- They are all after the last one that is taken.
  pub ends_late : (most : ℕ) (before : List StepItem) (i : ℕ) (current : Option Labels) (all : List StepItem)
      → most ≤ i → before ++ steps_from zone qtype (most - i) before current ≡ all → before ≡ all
  ends_late most before i current all l is =
      let none : most - i ≡ 0 = omega arith in
      ends before (steps_from zone qtype (most - i) before current) all (ap (λ n. steps_from zone qtype n before current) none ∙ none_left before current) is

  -- What is shown of a step.
  pub step_is : (before : List StepItem) (name n : Labels) (case : CaseItem) (next : Option Labels) (repeats : Bool)
      → n ≡ name → case ≡ case_of zone n qtype → next ≡ next_of name case → repeats ≡ repeats_dname before name case
      → record { name = name; case = case; next = next; repeats = repeats } ≡ step_of zone qtype before name
  step_is before name n case next repeats same is leads repeated =
      let by_name : case ≡ case_of zone name qtype = is ∙ ap (λ n. case_of zone n qtype) same in
      λ i. record { name = name; case = by_name i; next = (leads ∙ ap (next_of name) by_name) i; repeats = (repeated ∙ ap (repeats_dname before name) by_name) i }

  -- The steps so far and the others are the same after a further step.
  pub same_after : (most : ℕ) (before : List StepItem) (i : ℕ) (current : Option Labels) (name : Labels) (step : StepItem) (next : Option Labels) (all : List StepItem)
      → i < most → current ≡ Some name → is_among name before ≡ false → step ≡ step_of zone qtype before name → next ≡ step.next
      → before ++ steps_from zone qtype (most - i) before current ≡ all
      → (before ++ step ∷ []) ++ steps_from zone qtype (most - (i + 1)) (before ++ step ∷ []) next ≡ all
  same_after most before i current name step next all l here new taken follows is =
      let left : most - i ≡ suc (most - (i + 1)) = omega arith in
      let later : StepItem → List StepItem = λ s. steps_from zone qtype (most - (i + 1)) (before ++ s ∷ []) s.next in
      let now : steps_from zone qtype (most - i) before current ≡ step_of zone qtype before name ∷ later (step_of zone qtype before name) =
      (λ j. steps_from zone qtype (left j) before (here j)) ∙ next_step (most - (i + 1)) before name new in
      ap (λ n. (before ++ step ∷ []) ++ steps_from zone qtype (most - (i + 1)) (before ++ step ∷ []) n) follows
      ∙ ap (λ (s : StepItem). (before ++ s ∷ []) ++ later s) taken
      ∙ append_assoc before (step_of zone qtype before name ∷ []) (later (step_of zone qtype before name))
      ∙ ap (λ (xs : List StepItem). before ++ xs) (sym now) ∙ is

  -- What holds of the step of each name holds of all steps. A name isn't that of a step before.
  pub steps_are : (P : StepItem → Type 0) → ((before : List StepItem) (name : Labels) → P (step_of zone qtype before name))
      → (n : ℕ) (before : List StepItem) (next : Option Labels) (step : StepItem) → Contains (steps_from zone qtype n before next) step → P step
  unfolding steps_from
  steps_are P each zero before next step h = in_none step h
  steps_are P each (suc n) before None step h = in_none step h
  steps_are P each (suc n) before (Some name) step h =
      let first = step_of zone qtype before name in
      elim (in_chosen (is_among name before) first step (steps_from zone qtype n (before ++ first ∷ []) first.next) h).1 [
        | inl same ↦ subst P same (each before name)
        | inr later ↦ steps_are P each n (before ++ first ∷ []) first.next step later
      ]

  is_new : (n : ℕ) (before : List StepItem) (next : Option Labels) (step : StepItem) → Contains (steps_from zone qtype n before next) step → is_among step.name before ≡ false
  unfolding steps_from
  is_new zero before next step h = in_none step h
  is_new (suc n) before None step h = in_none step h
  is_new (suc n) before (Some name) step h =
      let first = step_of zone qtype before name in
      let chosen = in_chosen (is_among name before) first step (steps_from zone qtype n (before ++ first ∷ []) first.next) h in
      elim chosen.1 [
        | inl same ↦ subst (λ (s : StepItem). is_among s.name before ≡ false) same chosen.0
        | inr later ↦ (among_neither step.name before (first ∷ []) (is_new n (before ++ first ∷ []) first.next step later)).0
      ]

  abbrev Differ : StepItem → StepItem → Type 0
  Differ x y = ¬ SameName x.name y.name

  -- the names of later steps differ from that of a step
  later_differ : (n : ℕ) (before : List StepItem) (first : StepItem) → All (Differ first) (steps_from zone qtype n (before ++ first ∷ []) first.next)
  later_differ n before first k d l same =
      let later = steps_from zone qtype n (before ++ first ∷ []) first.next in
      let step = get_or later k d in
      let new = (among_neither step.name before (first ∷ []) (is_new n (before ++ first ∷ []) first.next step (Contains-get_or later k d l))).1 in
      never (names_equal first.name step.name) ((names_equal-Decides first.name step.name).1 same) (or_false (names_equal first.name step.name) false new)

  -- The names of an answer differ.
  pub names_differ : (n : ℕ) (before : List StepItem) (next : Option Labels) → AllPairs Differ (steps_from zone qtype n before next)
  unfolding steps_from
  names_differ zero before next = λ i j d l m. absurd (omega (arith, m))
  names_differ (suc n) before None = λ i j d l m. absurd (omega (arith, m))
  names_differ (suc n) before (Some name) =
      let first = step_of zone qtype before name in
      let later = steps_from zone qtype n (before ++ first ∷ []) first.next in
      by_test (AllPairs Differ) (is_among name before) [] (first ∷ later)
      (λ among i j d l m. absurd (omega (arith, m)))
      (λ new. AllPairs-cons Differ first later (later_differ n before first) (names_differ n (before ++ first ∷ []) first.next))

-- No name of an answer is there twice.
pub names_are_once : NamesAreOnce
names_are_once zone qtype n next = names_differ zone qtype n [] next
