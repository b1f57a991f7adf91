-- Responses that fit a limit: a set of records goes in whole, or is left out, and TC says whether a required one is missing. RFC 2181 section 9.
use Rattle.std.specs.Prelude.{◌≡◌, ◌↔◌, ◌⊎◌, ℕ, ◌+◌, ◌-◌, Bool, true, false, not, ◌&&◌, ◌||◌, IsTrue, nat_le, if◌then◌else◌, List, [], ◌∷◌, ◌++◌, length}
use Rattle.std.specs.Prelude.{Option, None, Some, Result, OnOk, OnErr, IfOk}
use Rattle.dns_wire.specs.Encoders.{Rule}
use Rattle.dns_item.specs.Items.{RecordItem}
use Rattle.dns_build.specs.State.{InAnswer, InAuthority, InAdditional, most_entries, move_to, records_at, Stage, State, with_header, with_limit, with_records}
use Rattle.dns_build.specs.BuilderStates.{Built, InEach, MovesState, size_after}

-- sets or clears TC, and changes nothing else
abbrev pub with_truncation : Bool → State → State
with_truncation tc s = with_header (record s.header { tc = tc }) s

-- the state of a builder into which sets are fitted: TC is clear, and the limit lowered by the reserved octets
abbrev pub fitting : ℕ → ℕ → State → State
fitting limit reserved s = with_truncation false (with_limit (limit - reserved) s)

-- a set of records, and whether the response requires it
pub record RecordSet : Type 0 where
  pub required : Bool
  pub records : List RecordItem

-- whether n octets are within the capacity, if there is one
abbrev pub is_within : Option ℕ → ℕ → Bool
is_within None n = true
is_within (Some most) n = nat_le n most

-- TC is set if the set that is left out is required. RFC 2181 section 9.
abbrev pub left_out : Bool → State → State
left_out required s = with_truncation (required || s.header.tc) s

-- Fitting sets into the section of `stage`, over a target with capacity `capacity`, under the compression rule `rule`, while octets are reserved.
module _ (capacity : Option ℕ) (rule : Rule) (stage : Stage) (reserved : ℕ) where
  -- whether the message of a state is within the limit, and with the reserved octets within the capacity, and its section's records can be counted
  abbrev pub is_short : State → Bool
  is_short s = let n = size_after rule (λ t. t) s in is_within capacity (n + reserved) && (nat_le n s.limit && nat_le (length (records_at stage s)) most_entries)

  -- Whether a set goes in: the message with all of it is short. Once TC is set nothing goes in, as a response is truncated at its end (RFC 1035 section 6.2).
  abbrev pub goes_in : List RecordItem → State → Bool
  goes_in records s = not s.header.tc && is_short (with_records stage records s)

  -- a set goes in whole, or is left out
  abbrev pub fit_set : RecordSet → State → State
  fit_set x s = if goes_in x.records s then with_records stage x.records s else left_out x.required s

  -- sets in order
  abbrev pub fit_sets : List RecordSet → State → State
  fit_sets [] s = s
  fit_sets (x ∷ xs) s = fit_sets xs (fit_set x s)

  -- a required set of the list doesn't go in
  pub record MissesRequired (xs : List RecordSet) (s : State) : Type 0 where
    pub before : List RecordSet
    pub missing : RecordSet
    pub after : List RecordSet
    pub all : xs ≡ before ++ missing ∷ after
    pub required : IsTrue missing.required
    pub refused : goes_in missing.records (fit_sets before s) ≡ false

  -- What fitting a set returns: whether it went in, or that an allocation failed, and then it's left out too. The reservation stays.
  pub record FitsSet (grows : Bool) (x : RecordSet) (old new : Built) {E : Type 0} (result : Result Bool E) : Type 0 where
    pub fitted : OnOk result (MovesState stage stage rule (fit_set x) old new)
    pub pushed : IfOk result (λ pushed. InEach stage rule old (λ s. pushed ≡ goes_in x.records s))
    pub failed : OnErr result (MovesState stage stage rule (left_out x.required) old new)
    pub memory : OnErr result (IsTrue grows)

-- the sets of a response, by section
pub record ResponseSets : Type 0 where
  pub answers : List RecordSet
  pub authorities : List RecordSet
  pub additionals : List RecordSet

-- Fitting the sets of a response, section by section, onto the state `s` at the answer section.
module _ (capacity : Option ℕ) (rule : Rule) (reserved : ℕ) (x : ResponseSets) (s : State) where
  -- after the sets of the answer section, at the authority section
  abbrev pub answers_fitted : State
  answers_fitted = move_to InAuthority (fit_sets capacity rule InAnswer reserved x.answers s)

  -- after those of the authority section too, at the additional section
  abbrev pub authorities_fitted : State
  authorities_fitted = move_to InAdditional (fit_sets capacity rule InAuthority reserved x.authorities answers_fitted)

  -- after all sets
  abbrev pub response_fitted : State
  response_fitted = fit_sets capacity rule InAdditional reserved x.additionals authorities_fitted

  -- a required set of one of the sections doesn't go in
  abbrev pub MissesAnyRequired : Type 0
  MissesAnyRequired =
      MissesRequired capacity rule InAnswer reserved x.answers s
      ⊎ (MissesRequired capacity rule InAuthority reserved x.authorities answers_fitted ⊎ MissesRequired capacity rule InAdditional reserved x.additionals authorities_fitted)

-- A theorem over all lists of sets: TC is set exactly if a required one is missing, of one section or of a response, and once it is set no set goes in. A message that is short stays so.
pub record SetsAreFitted : Type 0 where
  pub truncated : (capacity : Option ℕ) (rule : Rule) (stage : Stage) (reserved : ℕ) (xs : List RecordSet) (s : State) → s.header.tc ≡ false
      → IsTrue (fit_sets capacity rule stage reserved xs s).header.tc ↔ MissesRequired capacity rule stage reserved xs s
  pub kept : (capacity : Option ℕ) (rule : Rule) (stage : Stage) (reserved : ℕ) (xs : List RecordSet) (s : State) → IsTrue s.header.tc
      → fit_sets capacity rule stage reserved xs s ≡ s
  pub response : (capacity : Option ℕ) (rule : Rule) (reserved : ℕ) (x : ResponseSets) (s : State) → s.header.tc ≡ false
      → IsTrue (response_fitted capacity rule reserved x s).header.tc ↔ MissesAnyRequired capacity rule reserved x s
  pub short : (capacity : Option ℕ) (rule : Rule) (stage : Stage) (reserved : ℕ) (xs : List RecordSet) (s : State) → IsTrue (is_short capacity rule stage reserved s)
      → IsTrue (is_short capacity rule stage reserved (fit_sets capacity rule stage reserved xs s))
