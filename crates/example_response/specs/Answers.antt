-- The names of an answer: the one that is asked for, and those that aliases lead to. RFC 1034 section 4.3.2, RFC 6672 section 2.2, RFC 6604 section 3.
use Rattle.std.specs.Prelude.{◌-◌, ◌==◌, ◌&&◌, nat_le, if◌then◌else◌, ℕ, zero, suc, Bool, true, false, List, [], ◌∷◌, ◌++◌, length, slice_get, Option, Some, None, option_and_then, option_map, is_some}
use Rattle.std.specs.List.{list_any}
use Rattle.dns_message.specs.Fields.{NamedPart, definitions_of, named_parts, owned_parts_of, owned_rtype_of}
use Rattle.dns_message.specs.Names.{Labels, max_size, name_labels, name_size, names_equal}
use Rattle.dns_message.specs.Records.{data_of}
use Rattle.dns_message.specs.Replies.{is_below, substituted, target_in}
use Rattle.dns_message.specs.declared.fields.OwnedFieldData.{OwnedFieldData}
use Rattle.dns_message.specs.declared.record.Record.{Record}
use Rattle.example_response.specs.Zones.{CaseItem, case_of, case_shown, owner_of_set}
use Rattle.example_response.specs.Zones.CaseItem.{Refused, Delegated, Redirected, Found, Alias, NoData, NoName}
use Rattle.example_response.specs.declared.answer.Step.{Step}
use Rattle.example_response.specs.declared.zone.Rrset.{Rrset}
use Rattle.example_response.specs.declared.zone.Zone.{Zone}

-- the name that is the first of these fields
abbrev pub first_name : List NamedPart → Option Labels
first_name [] = None
first_name (field ∷ fields) = target_in (field.part ∷ [])

-- the name that is the first field of RDATA
abbrev pub name_in : OwnedFieldData → Option Labels
name_in d = first_name (named_parts (definitions_of (owned_rtype_of d)) (owned_parts_of d))

abbrev pub name_in_first : {N : Type 0} → List (Record N OwnedFieldData) → Option Labels
name_in_first [] = None
name_in_first (r ∷ rs) = name_in (data_of r)

-- the name that a CNAME or DNAME record leads to
abbrev pub target_of : Rrset → Option Labels
target_of s = name_in_first s.records.items

-- the name with the target of a DNAME record in place of its owner, unless it is too long (RFC 6672 section 2.2)
abbrev pub redirected : Labels → Labels → Labels → Option Labels
redirected name owner target =
    if is_below name owner && nat_le (name_size (substituted name owner target)) max_size then Some (substituted name owner target) else None

-- the name that a name of this case leads to
abbrev pub next_of : Labels → CaseItem → Option Labels
next_of name (Alias s by) = target_of s
next_of name (Redirected s) = option_and_then (redirected name (owner_of_set s)) (target_of s)
next_of name Refused = None
next_of name (Delegated s) = None
next_of name (Found s by) = None
next_of name (NoData by) = None
next_of name NoName = None

-- a name, its case, the name that it leads to, and whether an earlier step has the records of the case
pub record StepItem : Type 0 where
  pub name : Labels
  pub case : CaseItem
  pub next : Option Labels
  pub repeats : Bool

abbrev pub step_shown : Step → StepItem
step_shown step = record { name = name_labels step.name; case = case_shown step.case; next = option_map name_labels step.next; repeats = step.repeats }

-- whether a name is that of a step, or of one of some steps
abbrev pub is_named : Labels → StepItem → Bool
is_named name step = names_equal step.name name

abbrev pub is_among : Labels → List StepItem → Bool
is_among name steps = list_any (is_named name) steps

-- whether a case is that the DNAME records of this owner redirect the name
abbrev pub redirects : Labels → CaseItem → Bool
redirects owner (Redirected s) = names_equal (owner_of_set s) owner
redirects owner Refused = false
redirects owner (Delegated s) = false
redirects owner (Found s by) = false
redirects owner (Alias s by) = false
redirects owner (NoData by) = false
redirects owner NoName = false

abbrev pub is_redirected_by : Labels → StepItem → Bool
is_redirected_by owner step = redirects owner step.case

-- whether the DNAME records of this owner redirect one of the names
abbrev pub are_redirected_by : Labels → List StepItem → Bool
are_redirected_by owner steps = list_any (is_redirected_by owner) steps

-- whether the records of a name's case are DNAME records (39) that redirect an earlier name: an answer has them once (RFC 2181 section 5)
abbrev pub repeats_dname : List StepItem → Labels → CaseItem → Bool
repeats_dname before name (Redirected s) = are_redirected_by (owner_of_set s) before
repeats_dname before name (Found s by) = (s.rtype == 39) && are_redirected_by name before
repeats_dname before name Refused = false
repeats_dname before name (Delegated s) = false
repeats_dname before name (Alias s by) = false
repeats_dname before name (NoData by) = false
repeats_dname before name NoName = false

-- the step of a name after these steps
abbrev pub step_of : Zone → ℕ → List StepItem → Labels → StepItem
step_of zone qtype before name =
    let case = case_of zone name qtype in record { name = name; case = case; next = next_of name case; repeats = repeats_dname before name case }

-- At most n steps from a name, after these steps: its own, and those from the name that it leads to. No name is there twice, as aliases may be loops (RFC 1034 section 5.3.3).
unfoldable pub steps_from : Zone → ℕ → ℕ → List StepItem → Option Labels → List StepItem
steps_from zone qtype zero before next = []
steps_from zone qtype (suc n) before None = []
steps_from zone qtype (suc n) before (Some name) =
    if is_among name before then []
    else (let step = step_of zone qtype before name in step ∷ steps_from zone qtype n (before ++ step ∷ []) step.next)

-- The most names of an answer: chains may be long (RFC 1034 section 5.3.3). If CNAME records (5) are asked for, the first one is the answer, even if a DNAME record makes it.
abbrev pub most_names : ℕ → ℕ
most_names qtype = if qtype == 5 then 1 else 20

-- whether the zone has authority over a name: it is in the zone, and not delegated
abbrev pub has_authority : CaseItem → Bool
has_authority Refused = false
has_authority (Delegated s) = false
has_authority (Redirected s) = true
has_authority (Found s by) = true
has_authority (Alias s by) = true
has_authority (NoData by) = true
has_authority NoName = true

-- AA: whether it has authority over the name that is asked for, that of the first step (RFC 1035 section 4.1.1)
abbrev pub is_authoritative : List StepItem → Bool
is_authoritative [] = false
is_authoritative (step ∷ steps) = has_authority step.case

-- The rcode of a name: NXDOMAIN (3) if it doesn't exist; YXDOMAIN (6) if a DNAME record leads to no name (RFC 6672 section 2.2); REFUSED (5) if it isn't in the zone, unless an alias leads to it;
-- else NOERROR (0).
abbrev pub case_rcode : (aa leads_on : Bool) → CaseItem → ℕ
case_rcode aa leads_on Refused = if aa then 0 else 5
case_rcode aa leads_on NoName = 3
case_rcode aa leads_on (Redirected s) = if leads_on then 0 else 6
case_rcode aa leads_on (Delegated s) = 0
case_rcode aa leads_on (Found s by) = 0
case_rcode aa leads_on (Alias s by) = 0
case_rcode aa leads_on (NoData by) = 0

abbrev pub rcode_of_step : Bool → Option StepItem → ℕ
rcode_of_step aa None = 0
rcode_of_step aa (Some step) = case_rcode aa (is_some step.next) step.case

-- the last step
abbrev pub last_of : List StepItem → Option StepItem
last_of steps = slice_get steps (length steps - 1)

-- the rcode of an answer: that of its last name (RFC 6604 section 3)
abbrev pub rcode_of : List StepItem → ℕ
rcode_of steps = rcode_of_step (is_authoritative steps) (last_of steps)

abbrev pub case_of_step : Option StepItem → CaseItem
case_of_step None = Refused
case_of_step (Some step) = step.case

-- the case of the last name
abbrev pub end_of : List StepItem → CaseItem
end_of steps = case_of_step (last_of steps)
