-- How the sets of records of a response go into its sections. RFC 1034 section 4.3.2, RFC 2181 section 9.
use Rattle.std.specs.Prelude.{ℕ, List, None, OnOk, Result}
use Rattle.std.specs.List.{flat_map}
use Rattle.dns_message.specs.Builders.{InAdditional, InAnswer, InAuthority, MovesState, RecordSet, Reserving, Stage, State, fit_sets, move_to}
use Rattle.dns_message.specs.Targets.{Tree}
use Rattle.example_response.specs.Answers.{StepItem, end_of}
use Rattle.example_response.specs.Sets.{additional_sets, answer_sets, authority_sets}
use Rattle.example_response.specs.declared.zone.Zone.{Zone}

-- Sets of records go into a section in order, as far as they fit, while octets are reserved.
abbrev pub Fits : {X E : Type 0} → Stage → List RecordSet → Reserving → Reserving → Result X E → Type 0
Fits stage sets old new result = OnOk result (MovesState stage stage Tree (fit_sets None Tree stage old.reserved sets) old.built new.built)

-- the sets of the steps go into the three sections
abbrev pub filled : ℕ → Zone → List StepItem → State → State
filled reserved zone steps s =
    let answers = fit_sets None Tree InAnswer reserved (flat_map answer_sets steps) s in
    let authorities = fit_sets None Tree InAuthority reserved (authority_sets zone (end_of steps)) (move_to InAuthority answers) in
    fit_sets None Tree InAdditional reserved (additional_sets zone (end_of steps)) (move_to InAdditional authorities)
