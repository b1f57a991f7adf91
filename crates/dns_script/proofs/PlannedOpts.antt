-- What the reply to the push of an OPT record says.
use Rattle.std.proofs.Common.{◌≡◌, ◌∙◌, ap, sym, refl, subst, inl, inr, ℕ, ◌+◌, Bool, false, List, [], ◌∷◌, ◌++◌, length, length-append, append-nil, arith}
use Rattle.std.proofs.lemmas.Grind.{flat_map-append}
use Rattle.std.specs.Prelude.{Option, Some, None, Result, Ok, Err, OnOk, OnErr, MatchResult}
use Rattle.dns_octets.specs.declared.error.AppendError.{AppendError}
use Rattle.dns_octets.specs.declared.error.AppendError.TheVariants.{ShortBuf, OutOfMemory}
use Rattle.dns_wire.specs.Encoders.{Rule}
use Rattle.dns_item.specs.Questions.{QuestionItem}
use Rattle.dns_edns.specs.Options.{OptionItem, encode_option, encode_options}
use Rattle.dns_edns_builder.specs.Additions.{Adds}
use Rattle.dns_edns_builder.specs.Gathered.{Gathered, IsGathered, gathered, nothing_gathered}
use Rattle.dns_edns_builder.specs.declared.builder.OptBuilder.{OptBuilder}
use Rattle.dns_item.specs.Items.{RecordItem}
use Rattle.dns_build.specs.Opt.{opt_record, with_opt, OptReturns, PushesOpt}
use Rattle.dns_build.specs.BuilderStates.{Built, Represents, InEach, size_after}
use Rattle.dns_build.specs.State.{State, InAdditional, with_record}
use Rattle.dns_build.specs.declared.push_error.PushError.{PushError}
use Rattle.dns_script.specs.OptPlans.{with_any_rcode, planned, planned_options, planned_beside, gathered_size, AddsOptions, CarriesOut}
use Rattle.dns_script.specs.declared.opt_plan.OptPlan.{OptPlan}
use Rattle.dns_script.specs.declared.script.Call.{Call}
use Rattle.dns_script.specs.declared.script.Call.TheVariants.{PushOpt}
use Rattle.dns_script.specs.declared.script.Reply.{Reply}
use Rattle.dns_script.specs.declared.script.Reply.TheVariants.{Done, Refused}
use Rattle.dns_script.specs.Script.{lacks, Stays}

-- the first option is added, and the result is that of adding the others after it
pub added_first : (x : OptionItem) (old new : OptBuilder) (xs : List OptionItem) (outcome : Result (Unit {0}) AppendError) → Adds x old new (Ok tt)
    → AddsOptions (gathered_size (gathered new)) xs outcome → AddsOptions (gathered_size (gathered old)) (x ∷ xs) outcome
added_first x old new xs outcome h rest =
    let encoding = ap length (flat_map-append encode_option (gathered old).options (x ∷ [])) in
    let sum = length-append (encode_options (gathered old).options) (encode_options (x ∷ [])) in
    let one = ap length (append-nil (encode_option x)) in
    let size : gathered_size (gathered new) ≡ gathered_size (gathered old) + 4 + length x.octets = omega (arith, ap gathered_size h.0, encoding, sum, one) in
    inr (h.1, inr (subst (λ (n : ℕ). AddsOptions n xs outcome) size rest))

-- adding the first option fails
pub refused_first : (x : OptionItem) (old new : OptBuilder) (xs : List OptionItem) (e : AppendError) → Adds x old new (Err e) → AddsOptions (gathered_size (gathered old)) (x ∷ xs) (Err e)
refused_first x old new xs ShortBuf h = inl (h.0, refl)
refused_first x old new xs OutOfMemory h = inr (h.0, inl refl)

-- setting an RCODE leaves the options as they are
options_stay : (rcode : Option ℕ) (g : Gathered) → (with_any_rcode rcode g).options ≡ g.options
options_stay None g = refl
options_stay (Some rcode) g = refl

module _ (capacity : Option ℕ) (grows : Bool) (rule : Rule) (plan : OptPlan) (s : State) where
  -- what a plan gathers for the state's header
  abbrev pub asked : Gathered
  asked = planned_beside s.header plan

  -- the size in octets of the message with the OPT record of what is gathered
  abbrev pub size : Gathered → ℕ
  size g = size_after rule (with_record InAdditional (opt_record g)) s

  -- the result for what is gathered is the result for what was asked
  returns_asked : (g : Gathered) (a : Result (Unit {0}) AppendError) (r : Result (Unit {0}) PushError) → OnOk a (g ≡ asked)
      → OptReturns capacity grows s.limit (size g) (length s.additionals) a r → OptReturns capacity grows s.limit (size asked) (length s.additionals) a r
  returns_asked g (Ok u) r same h = subst (λ (x : Gathered). OptReturns capacity grows s.limit (size x) (length s.additionals) (Ok u) r) same h
  returns_asked g (Err e) r same h = h

  -- if the push succeeds, what was asked is gathered
  accepted_asked : (g : Gathered) (n : ℕ) (a : Result (Unit {0}) AppendError) (v : Unit {0}) → OnOk a (g ≡ asked) → OptReturns capacity grows s.limit n (length s.additionals) a (Ok v) → g ≡ asked
  accepted_asked g n (Ok u) v same h = same
  accepted_asked g n (Err e) v same h = absurd (cc)

  -- a call of `opt`, for the state, carries out the plan
  module _ (call : OptBuilder → Result (Unit {0}) AppendError → OptBuilder → Type 0)
      (carries : (b : OptBuilder) (a : Result (Unit {0}) AppendError) (b' : OptBuilder) → call b a b' → CarriesOut plan b b' a)
      (new : Built) (r : Result (Unit {0}) PushError) (p : PushesOpt capacity grows rule call s new r) where
    done_asked : (a : Result (Unit {0}) AppendError) → OnOk a (gathered p.gathers.after ≡ planned plan (gathered p.gathers.before)) → OnOk a (p.g ≡ asked)
    done_asked (Ok u) done = sym p.gathers.left ∙ done ∙ ap (planned plan) p.gathers.fresh
    done_asked (Err e) done = tt

    -- if the call succeeds, what it gathered is what was asked
    pub gathers_asked : OnOk p.outcome (p.g ≡ asked)
    gathers_asked = done_asked p.outcome (carries _ _ _ p.gathers.called).done

    -- the result of the call is that of adding the options that were asked, in order, onto none
    pub adds_asked : AddsOptions 0 asked.options p.outcome
    adds_asked =
        subst (λ (xs : List OptionItem). AddsOptions 0 (xs ++ planned_options plan) p.outcome) (sym (options_stay plan.rcode (nothing_gathered s.header)))
        (subst (λ (g : Gathered). AddsOptions (gathered_size g) (planned_options plan) p.outcome) p.gathers.fresh (carries _ _ _ p.gathers.called).adds)

module _ (capacity : Option ℕ) (grows : Bool) {Q R : Type 0} (question : Q → QuestionItem) (item : R → RecordItem) (rule : Rule) (plan : OptPlan) (old new : Built) where
  -- the push of an OPT record is a step that stays at the additional section
  pub opt_stays : (gathers : OptBuilder → Result (Unit {0}) AppendError → OptBuilder → Type 0) (call : Call Q R) (r : Result (Unit {0}) PushError) (reply : Reply)
      → call ≡ PushOpt plan → MatchResult r (λ _. reply ≡ Done) (λ error. reply ≡ Refused error)
      → ((b : OptBuilder) (a : Result (Unit {0}) AppendError) (b' : OptBuilder) → gathers b a b' → CarriesOut plan b b' a)
      → OnErr r (new ≡ old) → InEach InAdditional rule old (λ s. PushesOpt capacity grows rule gathers s new r)
      → Stays capacity grows question item rule InAdditional old call reply new
  opt_stays gathers call (Ok v) reply is m carries same pushes s h =
      let has : lacks {Q = Q} {R = R} s.stage (PushOpt plan) ≡ false = ap (λ here. lacks {Q = Q} {R = R} here (PushOpt plan)) h.here in
      let p = pushes s h in
      let done = gathers_asked capacity grows rule plan s gathers carries new (Ok v) p in
      let all = accepted_asked capacity grows rule plan s p.g _ p.outcome v done p.answers in
      rw (is, m, has) (
        record {
          gathering = p.outcome;
          adds = adds_asked capacity grows rule plan s gathers carries new (Ok v) p;
          answers = returns_asked capacity grows rule plan s p.g p.outcome (Ok v) done p.answers;
          is_gathered = λ _. subst IsGathered all p.is_gathered;
        },
        subst (λ (g : Gathered). Represents InAdditional rule (with_opt g s) new) all p.accepted,
      )
  opt_stays gathers call (Err e) reply is m carries same pushes s h =
      let has : lacks {Q = Q} {R = R} s.stage (PushOpt plan) ≡ false = ap (λ here. lacks {Q = Q} {R = R} here (PushOpt plan)) h.here in
      let p = pushes s h in
      let done = gathers_asked capacity grows rule plan s gathers carries new (Err e) p in
      rw (is, m, has) (
        record {
          gathering = p.outcome;
          adds = adds_asked capacity grows rule plan s gathers carries new (Err e) p;
          answers = returns_asked capacity grows rule plan s p.g p.outcome (Err e) done p.answers;
          is_gathered = λ reported. absurd (cc);
        },
        subst (λ b. Represents InAdditional rule s b) (sym same) h,
      )
