-- How a response is put together.
use Rattle.std.proofs.Common.{◌≡◌, ◌∙◌, ℕ, ◌+◌, ◌-◌, ◌≤◌, true, false, None, Some, List, [], ap, arith, length, refl, subst, sym}
use Rattle.std.specs.List.{flat_map}
use Rattle.std.specs.Prelude.{Err, IfErr, IfOk, Ok, Option, Result, is_some, option_map}
use Rattle.dns_message.specs.Builders.{Built, Gathered, InAdditional, InAnswer, InAuthority, IsMessageOf, MovesState, Represents, Reserving, State, fit_sets, fitting, header_to, move_to}
use Rattle.dns_message.specs.Builders.{opt_for as built, rcode_to, with_limit}
use Rattle.dns_message.specs.Data.{OptionItem, encode_options}
use Rattle.dns_message.specs.Messages.{opt_of}
use Rattle.dns_message.specs.Records.{OptItem}
use Rattle.dns_message.specs.Targets.{Tree}
use Rattle.dns_message.specs.declared.builder.PushError.{PushError}
use Rattle.example_response.specs.Answers.{StepItem, end_of, is_authoritative}
use Rattle.example_response.specs.Filling.{filled}
use Rattle.example_response.specs.Sets.{additional_sets, answer_sets, authority_sets}
use Rattle.example_response.specs.Zones.{CaseItem}
use Rattle.example_response.specs.Responses.{IsAnswered, IsEnded, IsEndedBy, IsReasonFor, opt_for, own_opt, reserved_for, size_of_opt, started, whole_limit, with_own_opt}
use Rattle.example_response.proofs.Fitting.{fits-limit}
use Rattle.example_response.specs.declared.zone.Zone.{Zone}

-- Filling the sections leaves the limit.
filled-limit : (reserved : ℕ) (zone : Zone) (steps : List StepItem) (s : State) → (filled reserved zone steps s).limit ≡ s.limit
filled-limit reserved zone steps s =
    let answers = fit_sets None Tree InAnswer reserved (flat_map answer_sets steps) s in
    let authorities = fit_sets None Tree InAuthority reserved (authority_sets zone (end_of steps)) (move_to InAuthority answers) in
    fits-limit InAdditional reserved (additional_sets zone (end_of steps)) (move_to InAdditional authorities)
    ∙ fits-limit InAuthority reserved (authority_sets zone (end_of steps)) (move_to InAuthority answers) ∙ fits-limit InAnswer reserved (flat_map answer_sets steps) s

sized : (f : OptItem → Gathered) (o : Option OptItem) → ((x : OptItem) → (f x).options ≡ []) → size_of_opt (option_map own_opt (option_map f o)) ≡ reserved_for (option_map own_opt (option_map f o))
sized f None none = refl
sized f (Some x) none = ap (λ (options : List OptionItem). 11 + length (encode_options options)) (none x)

-- The OPT record of a response takes the octets that are reserved for it.
pub size_of_own_opt : (rcode : ℕ) (b : List ℕ) → size_of_opt (opt_for rcode b) ≡ reserved_for (opt_for rcode b)
size_of_own_opt rcode b = sized (built (rcode_to rcode b) (header_to rcode b)) (opt_of b) (λ x. refl)

module _ (zone : Zone) (rcode : ℕ) (steps : List StepItem) (limit : ℕ) (b : List ℕ) (old : Built) (h : Represents InAnswer Tree (started rcode (is_authoritative steps) limit b) old)
    (opt : Option Gathered) (is : opt ≡ opt_for rcode b) (reserved : ℕ) (r : reserved ≡ reserved_for opt) (fit full : Reserving) (fit_reserved : fit.reserved ≡ reserved)
    (fits : MovesState InAnswer InAnswer Tree (fitting limit reserved) old fit.built) (room : length old.written.octets + reserved ≤ limit)
    (full_reserved : full.reserved ≡ fit.reserved) (fills : MovesState InAnswer InAdditional Tree (filled fit.reserved zone steps) fit.built full.built) where
  -- the state with all records but the OPT record
  abbrev state : State
  state = filled reserved zone steps (fitting limit reserved (started rcode (is_authoritative steps) limit b))

  -- The builder represents that state.
  pub represents : Represents InAdditional Tree state full.built
  represents = subst (λ n. Represents InAdditional Tree (filled n zone steps (fitting limit reserved (started rcode (is_authoritative steps) limit b))) full.built) fit_reserved
      (fills (fitting limit reserved (started rcode (is_authoritative steps) limit b)) (fits (started rcode (is_authoritative steps) limit b) h))

  whole : whole_limit full ≡ limit
  whole =
      let left : full.built.limit ≡ limit - reserved = represents.limit ∙ filled-limit reserved zone steps (fitting limit reserved (started rcode (is_authoritative steps) limit b)) in
      omega (arith, left, full_reserved, fit_reserved, room)

  own_reserved : reserved ≡ reserved_for (opt_for rcode b)
  own_reserved = r ∙ ap reserved_for is

  -- The response is the message that is ended.
  pub answered_by : (octets : List ℕ) → IsEnded full opt octets → IsAnswered zone rcode steps limit b octets
  answered_by octets ends =
      let e = ends state represents in
      record {
        short = subst (λ n. length octets ≤ n) whole e.1;
        message =
            subst (λ n. IsMessageOf Tree (with_own_opt (opt_for rcode b) (with_limit limit (filled n zone steps (fitting limit n (started rcode (is_authoritative steps) limit b))))) octets)
            own_reserved
            (subst (λ o. IsMessageOf Tree (with_own_opt o (with_limit limit state)) octets) is
            (subst (λ n. IsMessageOf Tree (with_own_opt opt (with_limit n state)) octets) whole e.0));
      }

  -- Else an allocation failed.
  pub refused_by : limit ≤ 65535 → (e : PushError) → IsEndedBy full opt e → IsReasonFor rcode (is_authoritative steps) limit b e
  refused_by small e ends =
      let size : size_of_opt opt ≡ reserved = ap size_of_opt is ∙ size_of_own_opt rcode b ∙ sym own_reserved in
      subst (IsReasonFor rcode (is_authoritative steps) limit b) (sym (ends state represents (omega (arith, size, full_reserved, fit_reserved)) (omega (arith, whole, small)))) tt

-- The sections are filled one after another.
pub filled_by : (zone : Zone) (steps : List StepItem) (end : CaseItem) → end ≡ end_of steps → (old answered moved authorized ended new : Reserving)
    → MovesState InAnswer InAnswer Tree (fit_sets None Tree InAnswer old.reserved (flat_map answer_sets steps)) old.built answered.built → answered.reserved ≡ old.reserved
    → MovesState InAnswer InAuthority Tree (move_to InAuthority) answered.built moved.built → moved.reserved ≡ answered.reserved
    → MovesState InAuthority InAuthority Tree (fit_sets None Tree InAuthority moved.reserved (authority_sets zone end)) moved.built authorized.built → authorized.reserved ≡ moved.reserved
    → MovesState InAuthority InAdditional Tree (move_to InAdditional) authorized.built ended.built → ended.reserved ≡ authorized.reserved
    → MovesState InAdditional InAdditional Tree (fit_sets None Tree InAdditional ended.reserved (additional_sets zone end)) ended.built new.built
    → MovesState InAnswer InAdditional Tree (filled old.reserved zone steps) old.built new.built
filled_by zone steps end is old answered moved authorized ended new answers r1 to_authority r2 authorities r3 to_additional r4 additionals = λ s h.
    let first = fit_sets None Tree InAnswer old.reserved (flat_map answer_sets steps) s in
    let second = fit_sets None Tree InAuthority moved.reserved (authority_sets zone end) (move_to InAuthority first) in
    let in_authority : moved.reserved ≡ old.reserved = r2 ∙ r1 in
    let in_additional : ended.reserved ≡ old.reserved = r4 ∙ r3 ∙ in_authority in
    subst (λ (t : State). Represents InAdditional Tree t new.built)
    (λ i. fit_sets None Tree InAdditional (in_additional i) (additional_sets zone (is i))
    (move_to InAdditional (fit_sets None Tree InAuthority (in_authority i) (authority_sets zone (is i)) (move_to InAuthority first))))
    (additionals (move_to InAdditional second) (to_additional second (authorities (move_to InAuthority first) (to_authority first (answers s h)))))

-- The octets that are reserved are those for the OPT record.
pub reserved_some : {X : Type 0} (f : X → Gathered) (o : Option X) → is_some o ≡ true → 11 ≡ reserved_for (option_map f o)
reserved_some f None is = absurd (let e = is in cc)
reserved_some f (Some x) is = refl

-- Without an OPT record none are.
pub reserved_none : {X : Type 0} (f : X → Gathered) (o : Option X) → is_some o ≡ false → 0 ≡ reserved_for (option_map f o)
reserved_none f None is = refl
reserved_none f (Some x) is = absurd (let e = is in cc)

-- What follows for the octets of a message follows for its result.
pub ok_by : {M E : Type 0} (octets : M → List ℕ) (P Q : List ℕ → Type 0) → ((o : List ℕ) → P o → Q o) → (r : Result M E) → IfOk r (λ m. P (octets m)) → IfOk r (λ m. Q (octets m))
ok_by octets P Q follows (Ok m) h = follows (octets m) h
ok_by octets P Q follows (Err e) h = tt

-- What follows for an error follows for its result.
pub err_by : {M E : Type 0} (P Q : E → Type 0) → ((e : E) → P e → Q e) → (r : Result M E) → IfErr r P → IfErr r Q
err_by P Q follows (Ok m) h = tt
err_by P Q follows (Err e) h = follows e h
