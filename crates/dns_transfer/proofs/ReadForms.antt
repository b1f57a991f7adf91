-- Records that are read to the end are those of a whole transfer.
use Rattle.std.proofs.Common.{◌≡◌, ◌∙◌, ℕ, Bool, true, false, ap, sym, refl, subst, List, [], ◌∷◌, inl, inr}
use Rattle.std.proofs.lemmas.Bool.{eqb-true}
use Rattle.std.proofs.lemmas.Bool.Decides.{eqb_tells}
use Rattle.std.specs.Bool.{⊤}
use Rattle.std.specs.Prelude.{◌≢◌, ◌⊎◌, ◌==◌, if◌then◌else◌, Result, Ok, Err}
use Rattle.dns_iana.specs.Serials.{IsGreater}
use Rattle.dns_transfer.specs.Forms.{IsSoa, whole_reading, whole_steps}
use Rattle.dns_transfer.specs.Grammar.{Outcome, advance, in_whole, in_removing, in_adding, after_added, falls_back}
use Rattle.dns_transfer.specs.Runs.{StepOf, RunOf, step_of, after_step, stopped, taken, settled, run_by, run}
use Rattle.dns_transfer.specs.Runs.StepOf.{Remove, Add, End}
use Rattle.dns_transfer.specs.Serials.{is_greater}
use Rattle.dns_transfer.specs.declared.error.TransferError.{TransferError}
use Rattle.dns_transfer.specs.declared.error.TransferError.TheVariants.{WrongSoa}
use Rattle.dns_transfer.specs.declared.grammar.Request.{Request}
use Rattle.dns_transfer.specs.declared.grammar.State.{State}
use Rattle.dns_transfer.specs.declared.grammar.State.TheVariants.{Wanted, First, Whole, Removing, Adding, Ended}
use Rattle.dns_transfer.specs.declared.grammar.Kind.{Kind}
use Rattle.dns_transfer.specs.declared.grammar.Kind.TheVariants.{Soa, Other}
use Rattle.dns_transfer.specs.declared.grammar.Act.{Act}
use Rattle.dns_transfer.specs.declared.grammar.Act.TheVariants as acts
use Rattle.dns_transfer.proofs.theory.FormLemmas.{ends, runs}
use Rattle.dns_transfer.proofs.theory.RunLemmas.{run-known}
use Rattle.dns_transfer.proofs.SerialLemmas.{is_greater-Decides}

-- an outcome doesn't fall back
abbrev pub IsDirect : Outcome → Type 0
IsDirect (Ok (act, next)) = falls_back act ≡ false
IsDirect (Err e) = ⊤

-- the pair of an outcome
pub pair_of : {p q : Act × State} → (let o : Outcome = Ok p in o ≡ Ok q) → p ≡ q
pair_of is = cc is

-- what a choice between two outcomes says of the one that there is
pub chosen_ok : (b : Bool) (x : Act × State) (e : TransferError) {z : Act × State} → (let o : Outcome = if b then Ok x else Err e in o ≡ Ok z) → (b ≡ true) × (x ≡ z)
chosen_ok true x e is = (refl, cc is)
chosen_ok false x e is = absurd (cc is)

-- A pair that a test chose is the first if the test is true, and else the second.
pub chosen_pair : (b : Bool) (x y : Act × State) {z : Act × State} → (if b then x else y) ≡ z → ((b ≡ true) × (x ≡ z)) ⊎ ((b ≡ false) × (y ≡ z))
chosen_pair true x y is = inl (refl, is)
chosen_pair false x y is = inr (refl, is)

-- the state in which no act but the one after the first SOA record falls back
direct_if : (b : Bool) (x : Act × State) (e : TransferError) → IsDirect (Ok x) → IsDirect (if b then Ok x else Err e)
direct_if true x e is = is
direct_if false x e is = tt

-- The same if both outcomes are acts.
pub direct_pair : (b : Bool) (x y : Act × State) → IsDirect (Ok x) → IsDirect (Ok y) → IsDirect (Ok (if b then x else y))
direct_pair true x y is same = is
direct_pair false x y is same = same

whole_direct : (last : ℕ) (k : Kind) → IsDirect (in_whole last k)
whole_direct last Other = refl
whole_direct last (Soa serial) = direct_if (serial == last) (acts.End serial, Ended) WrongSoa refl

removing_direct : (old last : ℕ) (k : Kind) → IsDirect (in_removing old last k)
removing_direct old last Other = refl
removing_direct old last (Soa serial) = direct_if (is_greater serial old) (acts.Add, Adding serial last) WrongSoa refl

adding_direct : (new last : ℕ) (k : Kind) → IsDirect (in_adding new last k)
adding_direct new last Other = refl
adding_direct new last (Soa serial) =
    direct_if (serial == new) (after_added serial last) WrongSoa (direct_pair (serial == last) (acts.End serial, Ended) (acts.Remove, Removing serial last) refl refl)

-- different numbers, by the test
other_if : (s t : ℕ) → (s == t) ≡ false → s ≢ t
other_if s t is = elim (eqb_tells s t) [ inl same ↦ absurd (let both = sym is ∙ same.0 in cc both) | inr other ↦ other.1 ]

module _ {R : Type 0} (kind : R → Result Kind TransferError) (request : Request) where
  -- the first step of records that are read to the end: the kind of the first record, what it does, and the rest
  pub record FirstOf (r : R) (rs : List R) (from : State) (given : List (StepOf R)) : Type 0 where
    pub k : Kind
    pub act : Act
    pub next : State
    pub later : List (StepOf R)
    pub is : kind r ≡ Ok k
    pub does : advance request from k ≡ Ok (act, next)
    pub first : given ≡ step_of act r ∷ later
    pub reads : runs kind request rs next ≡ ends later

  -- an error isn't the end
  pub no_end : (e : TransferError) (given : List (StepOf R)) → stopped e ≡ ends given → ⊥
  no_end e given is = let last = ap (λ (r : RunOf R). r.1) is in cc last

  -- a step before what ends
  pub step_first : (act : Act) (r : R) (later : RunOf R) (given : List (StepOf R)) → after_step (step_of act r) later ≡ ends given
      → (others : List (StepOf R)) × (given ≡ step_of act r ∷ others) × (later ≡ ends others)
  step_first act r later [] is = absurd (let items = ap (λ (x : RunOf R). x.0) is in cc items)
  step_first act r later (step ∷ others) is =
      let items = ap (λ (x : RunOf R). x.0) is in
      let last = ap (λ (x : RunOf R). x.1) is in
      let same : step ≡ step_of act r = cc items in
      let front : later.0 ≡ whole_steps others = cc items in (others, ap (λ s. s ∷ others) same, λ i. (front i, last i))

  -- what a record does in a state in which no record falls back
  module _ (r : R) (rs : List R) (from : State) (given : List (StepOf R)) (direct : (k : Kind) → IsDirect (advance request from k)) where
    by_outcome : (k : Kind) (o : Outcome) → kind r ≡ Ok k → advance request from k ≡ o → IsDirect o → runs kind request (r ∷ rs) from ≡ ends given → FirstOf r rs from given
    by_outcome k (Ok (act, next)) is does at_once reads =
        let settles = run-known kind request r (whole_reading rs) from k is ∙ ap (settled r (run kind request (whole_reading rs)) (λ n. advance request n k)) does in
        let taken_so = ap (λ (b : Bool). after_step (step_of act r)
        (if b then taken r (run kind request (whole_reading rs)) (advance request next k) else run kind request (whole_reading rs) next)) at_once in
        let split = step_first act r (runs kind request rs next) given (sym (settles ∙ taken_so) ∙ reads) in
        record { k = k; act = act; next = next; later = split.0; is = is; does = does; first = split.1; reads = split.2 }
    by_outcome k (Err e) is does at_once reads =
        let settles = run-known kind request r (whole_reading rs) from k is ∙ ap (settled r (run kind request (whole_reading rs)) (λ n. advance request n k)) does in
        absurd (no_end e given (sym settles ∙ reads))

    by_kind : (known : Result Kind TransferError) → kind r ≡ known → runs kind request (r ∷ rs) from ≡ ends given → FirstOf r rs from given
    by_kind (Ok k) is reads = by_outcome k (advance request from k) is refl (direct k) reads
    by_kind (Err e) is reads =
        let stops = ap (λ (known : Result Kind TransferError). run_by kind request r (run kind request (whole_reading rs)) known from) is in
        absurd (no_end e given (sym stops ∙ reads))

    -- Records that are read to the end begin with a record that a state takes.
    pub first_of : runs kind request (r ∷ rs) from ≡ ends given → FirstOf r rs from given
    first_of reads = by_kind (kind r) refl reads

  -- Records that are read to the end from a state on, record by record.
  pub data EndsFrom : State → List R → List (StepOf R) → Type 0 where
    ended : EndsFrom Ended [] []
    whole_add : {last : ℕ} {r : R} {rs : List R} {given : List (StepOf R)} → kind r ≡ Ok Other → EndsFrom (Whole last) rs given → EndsFrom (Whole last) (r ∷ rs) (Add r ∷ given)
    whole_end : {last : ℕ} {r : R} → IsSoa kind last r → EndsFrom (Whole last) (r ∷ []) (End last ∷ [])
    remove : {old last : ℕ} {r : R} {rs : List R} {given : List (StepOf R)} → kind r ≡ Ok Other → EndsFrom (Removing old last) rs given
        → EndsFrom (Removing old last) (r ∷ rs) (Remove r ∷ given)
    newer : {old new last : ℕ} {r : R} {rs : List R} {given : List (StepOf R)} → IsSoa kind new r → IsGreater new old → EndsFrom (Adding new last) rs given
        → EndsFrom (Removing old last) (r ∷ rs) (Add r ∷ given)
    add : {new last : ℕ} {r : R} {rs : List R} {given : List (StepOf R)} → kind r ≡ Ok Other → EndsFrom (Adding new last) rs given
        → EndsFrom (Adding new last) (r ∷ rs) (Add r ∷ given)
    older : {new last : ℕ} {r : R} {rs : List R} {given : List (StepOf R)} → IsSoa kind new r → new ≢ last → EndsFrom (Removing new last) rs given
        → EndsFrom (Adding new last) (r ∷ rs) (Remove r ∷ given)
    add_end : {last : ℕ} {r : R} → IsSoa kind last r → EndsFrom (Adding last last) (r ∷ []) (End last ∷ [])

  -- the same of equal lists
  moved : {from : State} {xs ys : List R} {given others : List (StepOf R)} → ys ≡ xs → others ≡ given → EndsFrom from xs given → EndsFrom from ys others
  moved {from = from} {xs = xs} {others = others} e f h = subst (λ (l : List R). EndsFrom from l others) (sym e) (subst (λ (g : List (StepOf R)). EndsFrom from xs g) (sym f) h)

  -- after the end no record is read
  pub ended_rest : {rs : List R} {given : List (StepOf R)} → EndsFrom Ended rs given → (rs ≡ []) × (given ≡ [])
  ended_rest ended = (refl, refl)

  -- the states after the first record, or after the second by IXFR
  abbrev pub IsMid : State → Type 0
  IsMid Wanted = ⊥
  IsMid (First last) = ⊥
  IsMid (Whole last) = ⊤
  IsMid (Removing old last) = ⊤
  IsMid (Adding new last) = ⊤
  IsMid Ended = ⊤

  -- A record before records that are read to the end, by what it does.
  module _ (r : R) (rs : List R) (rest : (next : State) → IsMid next → (given : List (StepOf R)) → runs kind request rs next ≡ ends given → EndsFrom next rs given) where
    -- what follows, in the state that it comes in
    follows : (next from : State) (later : List (StepOf R)) → from ≡ next → IsMid from → runs kind request rs next ≡ ends later → EndsFrom from rs later
    follows next from later same mid reads = rest from mid later (subst (λ (n : State). runs kind request rs n ≡ ends later) (sym same) reads)

    whole_one : (last : ℕ) (k : Kind) (act : Act) (next : State) (later : List (StepOf R)) → kind r ≡ Ok k → in_whole last k ≡ Ok (act, next) → runs kind request rs next ≡ ends later
        → EndsFrom (Whole last) (r ∷ rs) (step_of act r ∷ later)
    whole_one last Other act next later is does reads =
        let both = pair_of {p = (acts.Add, Whole last)} does in
        let goes = ap (λ (p : Act × State). p.1) both in
        moved refl (λ i. step_of (ap (λ (p : Act × State). p.0) (sym both) i) r ∷ later) (whole_add is (follows next (Whole last) later goes tt reads))
    whole_one last (Soa serial) act next later is does reads =
        let c = chosen_ok (serial == last) (acts.End serial, Ended) WrongSoa does in
        let same = eqb-true serial last c.0 in
        let end = ended_rest (follows next Ended later (ap (λ (p : Act × State). p.1) c.1) tt reads) in
        moved (ap (λ (l : List R). r ∷ l) end.0) (λ i. step_of ((ap (λ (p : Act × State). p.0) (sym c.1) ∙ ap acts.End same) i) r ∷ end.1 i)
        (whole_end (subst (λ (s : ℕ). IsSoa kind s r) same is))

    removing_one : (old last : ℕ) (k : Kind) (act : Act) (next : State) (later : List (StepOf R)) → kind r ≡ Ok k → in_removing old last k ≡ Ok (act, next)
        → runs kind request rs next ≡ ends later → EndsFrom (Removing old last) (r ∷ rs) (step_of act r ∷ later)
    removing_one old last Other act next later is does reads =
        let both = pair_of {p = (acts.Remove, Removing old last)} does in
        let goes = ap (λ (p : Act × State). p.1) both in
        moved refl (λ i. step_of (ap (λ (p : Act × State). p.0) (sym both) i) r ∷ later) (remove is (follows next (Removing old last) later goes tt reads))
    removing_one old last (Soa serial) act next later is does reads =
        let c = chosen_ok (is_greater serial old) (acts.Add, Adding serial last) WrongSoa does in
        moved refl (λ i. step_of (ap (λ (p : Act × State). p.0) (sym c.1) i) r ∷ later)
        (newer is ((is_greater-Decides serial old).0 c.0) (follows next (Adding serial last) later (ap (λ (p : Act × State). p.1) c.1) tt reads))

    adding_one : (new last : ℕ) (k : Kind) (act : Act) (next : State) (later : List (StepOf R)) → kind r ≡ Ok k → in_adding new last k ≡ Ok (act, next)
        → runs kind request rs next ≡ ends later → EndsFrom (Adding new last) (r ∷ rs) (step_of act r ∷ later)
    adding_one new last Other act next later is does reads =
        let both = pair_of {p = (acts.Add, Adding new last)} does in
        let goes = ap (λ (p : Act × State). p.1) both in
        moved refl (λ i. step_of (ap (λ (p : Act × State). p.0) (sym both) i) r ∷ later) (add is (follows next (Adding new last) later goes tt reads))
    adding_one new last (Soa serial) act next later is does reads =
        let c = chosen_ok (serial == new) (after_added serial last) WrongSoa does in
        let same = eqb-true serial new c.0 in
        let soa = subst (λ (s : ℕ). IsSoa kind s r) same is in
        elim (chosen_pair (serial == last) (acts.End serial, Ended) (acts.Remove, Removing serial last) c.1) [
          | inl d ↦
              let final = eqb-true serial last d.0 in
              let end = ended_rest (follows next Ended later (ap (λ (p : Act × State). p.1) d.1) tt reads) in
              subst (λ (n : ℕ). EndsFrom (Adding n last) (r ∷ rs) (step_of act r ∷ later)) (sym final ∙ same)
              (moved (ap (λ (l : List R). r ∷ l) end.0) (λ i. step_of ((ap (λ (p : Act × State). p.0) (sym d.1) ∙ ap acts.End final) i) r ∷ end.1 i)
              (add_end (subst (λ (s : ℕ). IsSoa kind s r) final is)))
          | inr d ↦
              let goes = ap (λ (n : ℕ). Removing n last) (sym same) ∙ ap (λ (p : Act × State). p.1) d.1 in
              moved refl (λ i. step_of (ap (λ (p : Act × State). p.0) (sym d.1) i) r ∷ later)
              (older soa (λ e. other_if serial last d.0 (same ∙ e)) (follows next (Removing new last) later goes tt reads))
        ]

    -- The first record, in any of these states.
    one : (from : State) (given : List (StepOf R)) → IsMid from → runs kind request (r ∷ rs) from ≡ ends given → EndsFrom from (r ∷ rs) given
    one Wanted given mid reads = absurd mid
    one (First last) given mid reads = absurd mid
    one (Whole last) given mid reads =
        let v = first_of r rs (Whole last) given (whole_direct last) reads in moved refl v.first (whole_one last v.k v.act v.next v.later v.is v.does v.reads)
    one (Removing old last) given mid reads =
        let v = first_of r rs (Removing old last) given (removing_direct old last) reads in moved refl v.first (removing_one old last v.k v.act v.next v.later v.is v.does v.reads)
    one (Adding new last) given mid reads =
        let v = first_of r rs (Adding new last) given (adding_direct new last) reads in moved refl v.first (adding_one new last v.k v.act v.next v.later v.is v.does v.reads)
    one Ended given mid reads = let v = first_of r rs Ended given (λ k. tt) reads in absurd (let does = v.does in cc does)

  -- nothing was given, if nothing was read
  none_given : (given : List (StepOf R)) → ([] ≡ whole_steps given) → given ≡ []
  none_given [] is = refl
  none_given (step ∷ given) is = absurd (cc is)

  -- Without records, only the end is the end.
  nothing_read : (from : State) (given : List (StepOf R)) → runs kind request [] from ≡ ends given → EndsFrom from [] given
  nothing_read Ended given reads = moved refl (none_given given (ap (λ (r : RunOf R). r.0) reads)) ended
  nothing_read Wanted given reads = absurd (let last = ap (λ (r : RunOf R). r.1) reads in cc)
  nothing_read (First last) given reads = absurd (let last = ap (λ (r : RunOf R). r.1) reads in cc)
  nothing_read (Whole last) given reads = absurd (let last = ap (λ (r : RunOf R). r.1) reads in cc)
  nothing_read (Removing old last) given reads = absurd (let last = ap (λ (r : RunOf R). r.1) reads in cc)
  nothing_read (Adding new last) given reads = absurd (let last = ap (λ (r : RunOf R). r.1) reads in cc)

  -- Records that are read to the end, record by record.
  pub ends_from : (rs : List R) (from : State) → IsMid from → (given : List (StepOf R)) → runs kind request rs from ≡ ends given → EndsFrom from rs given
  ends_from [] from mid given reads = nothing_read from given reads
  ends_from (r ∷ rs) from mid given reads = one r rs (ends_from rs) from given mid reads
