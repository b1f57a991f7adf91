-- What the reply to a call says at each record section.
use Rattle.std.proofs.Common.{◌≡◌, ℕ, Bool, false, true, Option, Result, Ok, Err, length, sym, ◌∙◌, ap, subst, refl}
use Rattle.std.specs.Prelude.{OnOk, OnErr, MatchResult}
use Rattle.dns_wire.specs.Encoders.{Rule}
use Rattle.dns_item.specs.Questions.{QuestionItem}
use Rattle.dns_item.specs.Items.{RecordItem}
use Rattle.dns_build.specs.BuilderStates.{Built, PushReturns, PushReturnsInEach, Represents, MovesState, InEach, size_after}
use Rattle.dns_build.specs.State as state
use Rattle.dns_read.specs.declared.section.Section.{Section}
use Rattle.dns_read.specs.declared.section.Section.TheVariants.{Answer, Authority, Additional}
use Rattle.dns_build.specs.State.{State, stage_of, with_record, records_at}
use Rattle.dns_build.specs.declared.push_error.PushError.{PushError}
use Rattle.dns_script.specs.declared.opt_plan.OptPlan.{OptPlan}
use Rattle.dns_script.specs.declared.script.Call.{Call}
use Rattle.dns_script.specs.declared.script.Call.TheVariants.{PushQuestion, PushRecord, PushOpt, Rewind, TcRewind, ToBuilder, ToQuestion, ToAnswer, ToAuthority}
use Rattle.dns_script.specs.declared.script.Call.TheVariants.{ToAdditional, SetHeader, SetLimit, ClearLimit}
use Rattle.dns_script.specs.declared.script.Reply.{Reply}
use Rattle.dns_script.specs.declared.script.Reply.TheVariants.{Done, Refused, Misplaced}
use Rattle.dns_script.specs.Script.{lacks, is_move, has_opt, is_setting, Stays}

-- each record section has the call that pushes a record
has_push : (Q R : Type 0) (section : Section) (x : R) → lacks {Q = Q} (stage_of section) (PushRecord x) ≡ false
has_push Q R Answer x = refl
has_push Q R Authority x = refl
has_push Q R Additional x = refl

-- no record section has the call that pushes a question
lacks_question : (Q R : Type 0) (section : Section) (x : Q) → lacks {R = R} (stage_of section) (PushQuestion x) ≡ true
lacks_question Q R Answer x = refl
lacks_question Q R Authority x = refl
lacks_question Q R Additional x = refl

-- a record section other than the additional one lacks the call that pushes an OPT record
lacks_opt : (Q R : Type 0) (section : Section) (plan : OptPlan) → has_opt {Q = Q} {R = R} (stage_of section) (PushOpt plan) ≡ false → lacks {Q = Q} {R = R} (stage_of section) (PushOpt plan) ≡ true
lacks_opt Q R Answer plan has = refl
lacks_opt Q R Authority plan has = refl
lacks_opt Q R Additional plan has = absurd (cc)

-- whether a call pushes a record or rewinds its section
abbrev pub is_own : {Q R : Type 0} → Call Q R → Bool
is_own (PushRecord x) = true
is_own Rewind = true
is_own TcRewind = true
is_own _ = false

-- the result of a push at the stage of the state itself
returns_here : (capacity : Option ℕ) (grows : Bool) (rule : Rule) (stage : state.Stage) (old : Built) (pushed : RecordItem) (r : Result (Unit {0}) PushError)
    → PushReturnsInEach stage capacity grows rule (with_record stage pushed) (λ s. length (records_at stage s)) old r
    → InEach stage rule old (λ s. PushReturns capacity grows s.limit (size_after rule (with_record s.stage pushed) s) (length (records_at s.stage s)) r)
returns_here capacity grows rule stage old pushed r outcome s h =
    subst (λ at. PushReturns capacity grows s.limit (size_after rule (with_record at pushed) s) (length (records_at at s)) r) (sym h.here) (outcome.each s h)

module _ (capacity : Option ℕ) (grows : Bool) {Q R : Type 0} (question : Q → QuestionItem) (item : R → RecordItem) (rule : Rule) (stage : state.Stage) (old new : Built) (x : R) where
  -- the push of a record is a step that stays at its stage
  pub push_stays : (section : Section) (call : Call Q R) (r : Result (Unit {0}) PushError) (reply : Reply)
      → stage ≡ stage_of section → call ≡ PushRecord x → MatchResult r (λ _. reply ≡ Done) (λ error. reply ≡ Refused error)
      → OnOk r (MovesState stage stage rule (with_record stage (item x)) old new) → OnErr r (new ≡ old)
      → PushReturnsInEach stage capacity grows rule (with_record stage (item x)) (λ s. length (records_at stage s)) old r
      → Stays capacity grows question item rule stage old call reply new
  push_stays section call (Ok v) reply at is m moved same outcome s h =
      let has : lacks {Q = Q} s.stage (PushRecord x) ≡ false = ap (λ here. lacks {Q = Q} here (PushRecord x)) (h.here ∙ at) ∙ has_push Q R section x in
      rw (is, m, has) (
        returns_here capacity grows rule stage old (item x) (Ok v) outcome s h,
        subst (λ here. Represents stage rule (with_record here (item x) s) new) (sym h.here) (moved s h),
      )
  push_stays section call (Err e) reply at is m moved same outcome s h =
      let has : lacks {Q = Q} s.stage (PushRecord x) ≡ false = ap (λ here. lacks {Q = Q} here (PushRecord x)) (h.here ∙ at) ∙ has_push Q R section x in
      rw (is, m, has) (
        returns_here capacity grows rule stage old (item x) (Err e) outcome s h,
        subst (λ b. Represents stage rule s b) (sym same) h,
      )

module _ (capacity : Option ℕ) (grows : Bool) {Q R : Type 0} (question : Q → QuestionItem) (item : R → RecordItem) (rule : Rule) (stage : state.Stage) (old new : Built) where
  -- a call that is none of these sets the header or the limit, or is misplaced
  pub others_stay : (section : Section) (call : Call Q R) (reply : Reply) → stage ≡ stage_of section → is_own call ≡ false → is_move call ≡ false → has_opt stage call ≡ false
      → (is_setting call ≡ true → Stays capacity grows question item rule stage old call reply new) → (is_setting call ≡ false → reply ≡ Misplaced) → (is_setting call ≡ false → new ≡ old)
      → Stays capacity grows question item rule stage old call reply new
  others_stay section (PushQuestion q) reply at own move opt done misplaced same s h =
      let has : lacks {R = R} s.stage (PushQuestion q) ≡ true = ap (λ here. lacks {R = R} here (PushQuestion q)) (h.here ∙ at) ∙ lacks_question Q R section q in
      rw (misplaced refl, has) (refl, subst (λ b. Represents stage rule s b) (sym (same refl)) h)
  others_stay section (PushOpt plan) reply at own move opt done misplaced same s h =
      let none = subst (λ here. has_opt {Q = Q} {R = R} here (PushOpt plan) ≡ false) at opt in
      let has : lacks {Q = Q} {R = R} s.stage (PushOpt plan) ≡ true = ap (λ here. lacks {Q = Q} {R = R} here (PushOpt plan)) (h.here ∙ at) ∙ lacks_opt Q R section plan none in
      rw (misplaced refl, has) (refl, subst (λ b. Represents stage rule s b) (sym (same refl)) h)
  others_stay section (SetHeader header) reply at own move opt done misplaced same s h = done refl s h
  others_stay section (SetLimit limit) reply at own move opt done misplaced same s h = done refl s h
  others_stay section ClearLimit reply at own move opt done misplaced same s h = done refl s h
  others_stay section (PushRecord x) reply at own move opt done misplaced same s h = absurd (cc)
  others_stay section Rewind reply at own move opt done misplaced same s h = absurd (cc)
  others_stay section TcRewind reply at own move opt done misplaced same s h = absurd (cc)
  others_stay section ToBuilder reply at own move opt done misplaced same s h = absurd (cc)
  others_stay section ToQuestion reply at own move opt done misplaced same s h = absurd (cc)
  others_stay section ToAnswer reply at own move opt done misplaced same s h = absurd (cc)
  others_stay section ToAuthority reply at own move opt done misplaced same s h = absurd (cc)
  others_stay section ToAdditional reply at own move opt done misplaced same s h = absurd (cc)
