-- Where the record sections begin at each stage.
use Rattle.std.proofs.Common.{◌≡◌, ℕ, zero, suc, ◌+◌, ◌-◌, ◌*◌, ◌<◌, ◌≤◌, ◌++◌, List, [], ◌∷◌, length, replicate, ap, sym, ◌∙◌, refl, subst, arith}
use Rattle.std.specs.Prelude.{max}
use Rattle.dns_wire.specs.Encoders.{Rule}
use Rattle.dns_wire.specs.Targets.{Written}
use Rattle.dns_build.specs.BuilderStates.{Built, last_start, earlier_starts, emptied_from, MovesState}
use Rattle.dns_build.specs.SectionStarts.{AreAfter, EarlierStay, LaterBegin, start_of, starts_at}
use Rattle.dns_build.specs.State.{Stage, InBuilder, InQuestion, InAnswer, InAuthority, InAdditional, depth_of, move_to}
use Rattle.dns_build.specs.declared.starts.Starts.{Starts}
use Rattle.dns_build.proofs.Steps.{Gone, gone-nowhere, gone-down, gone-there, moves-ahead, record_depth, stage_at, stage_at-depth}

-- The stage's own sections begin where they began.
pub starts-stay : (stage : Stage) (n : ℕ) (old new : Starts) → n ≡ depth_of stage → EarlierStay n old new → starts_at stage new ≡ starts_at stage old
starts-stay InBuilder n old new deep stay = refl
starts-stay InQuestion n old new deep stay = refl
starts-stay InAnswer n old new deep stay = λ i. stay.answers (omega arith) i ∷ []
starts-stay InAuthority n old new deep stay = λ i. stay.authorities (omega arith) i ∷ stay.answers (omega arith) i ∷ []
starts-stay InAdditional n old new deep stay = λ i. stay.additionals (omega arith) i ∷ stay.authorities (omega arith) i ∷ stay.answers (omega arith) i ∷ []

one_after : (n k end a b : ℕ) → 12 ≤ end → 12 ≤ a → (n < k → b ≡ end) → (k ≤ n → b ≡ a) → 12 ≤ b
one_after n k end a b late old new stay = grind arith

-- All begin after the header section.
pub after-set : (n end : ℕ) (old new : Starts) → 12 ≤ end → AreAfter old → LaterBegin n end new → EarlierStay n old new → AreAfter new
after-set n end old new late after begin stay = record {
  answers = one_after n 2 end old.answers new.answers late after.answers begin.answers stay.answers;
  authorities = one_after n 3 end old.authorities new.authorities late after.authorities begin.authorities stay.authorities;
  additionals = one_after n 4 end old.additionals new.additionals late after.additionals begin.additionals stay.additionals;
}

-- The section of a stage begins at the last of its starts.
pub last-of : (stage : Stage) (n : ℕ) (r : Starts) → n ≡ depth_of stage → start_of n r ≡ last_start (starts_at stage r)
last-of stage n r deep = ap (λ k. start_of k r) deep ∙ by stage
  where
    by : (stage : Stage) → start_of (depth_of stage) r ≡ last_start (starts_at stage r)
    by InBuilder = refl
    by InQuestion = refl
    by InAnswer = refl
    by InAuthority = refl
    by InAdditional = refl

-- the sections between two stages begin at the end
ahead : (from to : Stage) (end : ℕ) (r : Starts) → depth_of from ≤ depth_of to → LaterBegin (depth_of from) end r
    → starts_at to r ≡ replicate (max (depth_of to) 1 - max (depth_of from) 1) end ++ starts_at from r
ahead InBuilder InBuilder end r on begin = refl
ahead InBuilder InQuestion end r on begin = refl
ahead InBuilder InAnswer end r on begin = λ i. begin.answers (omega arith) i ∷ []
ahead InBuilder InAuthority end r on begin = λ i. begin.authorities (omega arith) i ∷ begin.answers (omega arith) i ∷ []
ahead InBuilder InAdditional end r on begin = λ i. begin.additionals (omega arith) i ∷ begin.authorities (omega arith) i ∷ begin.answers (omega arith) i ∷ []
ahead InQuestion InQuestion end r on begin = refl
ahead InQuestion InAnswer end r on begin = λ i. begin.answers (omega arith) i ∷ []
ahead InQuestion InAuthority end r on begin = λ i. begin.authorities (omega arith) i ∷ begin.answers (omega arith) i ∷ []
ahead InQuestion InAdditional end r on begin = λ i. begin.additionals (omega arith) i ∷ begin.authorities (omega arith) i ∷ begin.answers (omega arith) i ∷ []
ahead InAnswer InAnswer end r on begin = refl
ahead InAnswer InAuthority end r on begin = λ i. begin.authorities (omega arith) i ∷ r.answers ∷ []
ahead InAnswer InAdditional end r on begin = λ i. begin.additionals (omega arith) i ∷ begin.authorities (omega arith) i ∷ r.answers ∷ []
ahead InAuthority InAuthority end r on begin = refl
ahead InAuthority InAdditional end r on begin = λ i. begin.additionals (omega arith) i ∷ r.authorities ∷ r.answers ∷ []
ahead InAdditional InAdditional end r on begin = refl
ahead from to end r on begin = absurd (omega arith)

-- a builder has as many starts as its stage has record sections
count : (stage : Stage) (r : Starts) → length (starts_at stage r) ≡ record_depth stage
count InBuilder r = refl
count InQuestion r = refl
count InAnswer r = refl
count InAuthority r = refl
count InAdditional r = refl

-- what contracts see of a builder at a stage
abbrev pub seen : Stage → Written → ℕ → Starts → Built
seen stage w limit r = record { written = w; limit = limit; starts = starts_at stage r }

-- A builder whose later sections begin at the end is at a later stage.
pub enters : (from to : Stage) (rule : Rule) (n m : ℕ) (w : Written) (limit : ℕ) (shown : List ℕ) (r new : Starts) → n ≡ depth_of from → m ≡ depth_of to → n ≤ m
    → shown ≡ w.octets → LaterBegin n (length shown) new → EarlierStay n r new → MovesState from to rule (move_to to) (seen from w limit r) (seen to w limit new)
enters from to rule n m w limit shown r new deep deep_to on is begin stay =
    let end = length w.octets in
    let later : LaterBegin (depth_of from) end new = subst (λ (k : ℕ × List ℕ). LaterBegin k.0 (length k.1) new) (λ i. (deep i, is i)) begin in
    let entered = max (depth_of to) 1 - max (depth_of from) 1 in
    let there : starts_at to new ≡ replicate entered end ++ starts_at from r =
    ahead from to end new (omega arith) later ∙ ap (λ starts. replicate entered end ++ starts) (starts-stay from n r new deep stay) in
    moves-ahead from to rule n m entered _ _ deep deep_to on (λ i. max (sym deep_to i) 1 - max (sym deep i) 1) (count from r)
    (λ i. record { written = w; limit = limit; starts = there i })

-- At first a move back is where it began.
pub leaves-nothing : (from : Stage) (rule : Rule) (n : ℕ) (w : Written) (limit : ℕ) (r : Starts) → n ≡ depth_of from
    → Gone from rule n (seen from w limit r) (seen (stage_at n) w limit r)
leaves-nothing from rule n w limit r deep =
    let here : from ≡ stage_at n = sym (stage_at-depth from) ∙ ap stage_at (sym deep) in
    subst (λ t. Gone from rule n (seen from w limit r) (seen t w limit r)) here (gone-nowhere from rule n (seen from w limit r) deep (count from r))

-- what a step back makes of the starts
record Back (n : ℕ) (r : Starts) : Type 0 where
  last : last_start (starts_at (stage_at (suc n)) r) ≡ start_of (suc n) r
  earlier : earlier_starts (starts_at (stage_at (suc n)) r) ≡ starts_at (stage_at n) r

back : (n : ℕ) (r : Starts) → n < 4 → Back n r
back zero r few = record { last = refl; earlier = refl }
back (suc zero) r few = record { last = refl; earlier = refl }
back (suc (suc zero)) r few = record { last = refl; earlier = refl }
back (suc (suc (suc zero))) r few = record { last = refl; earlier = refl }
back n r few = absurd (omega arith)

-- One section back.
pub leaves-one : (from : Stage) (rule : Rule) (n m offset start : ℕ) (old : Built) (mid new : Written) (limit : ℕ) (r : Starts) → m ≡ suc n → n < 4 → offset ≡ 2 + 2 * m
    → start ≡ start_of m r → new ≡ emptied_from start offset mid
    → Gone from rule m old (seen (stage_at m) mid limit r) → Gone from rule n old (seen (stage_at n) new limit r)
leaves-one from rule n m offset start old mid new limit r more few there begins is gone =
    let b = back n r few in
    let from_start : start ≡ last_start (starts_at (stage_at m) r) = begins ∙ ap (λ k. start_of k r) more ∙ sym b.last ∙ ap (λ k. last_start (starts_at (stage_at k) r)) (sym more) in
    let earlier : starts_at (stage_at n) r ≡ earlier_starts (starts_at (stage_at m) r) = sym b.earlier ∙ ap (λ k. earlier_starts (starts_at (stage_at k) r)) (sym more) in
    gone-down from rule n m offset old _ _ more few there
    (λ i. record { written = (is ∙ ap (λ s. emptied_from s offset mid) from_start) i; limit = limit; starts = earlier i }) gone

-- A move back has reached its stage.
pub leaves-there : (from to : Stage) (rule : Rule) (n : ℕ) (old : Built) (w : Written) (limit : ℕ) (r : Starts) → n ≡ depth_of to
    → Gone from rule n old (seen (stage_at n) w limit r) → MovesState from to rule (move_to to) old (seen to w limit r)
leaves-there from to rule n old w limit r deep gone =
    let at : stage_at n ≡ to = ap stage_at deep ∙ stage_at-depth to in
    gone-there from to rule n old _ deep (subst (λ t. Gone from rule n old (seen t w limit r)) at gone)
