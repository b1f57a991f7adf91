-- Where the records of a response are from.
use Rattle.std.proofs.Common.{◌≡◌, ◌∙◌, ◌-◌, ℕ, inl, inr, Bool, true, false, cond, List, [], ◌∷◌, ◌++◌, Some, None, ap, sym, subst, refl, length}
use Rattle.std.proofs.lemmas.List.Elements.{Contains-append_cases}
use Rattle.std.proofs.lemmas.Option.{get_or_from_slice_get, slice_get_within}
use Rattle.std.specs.List.{flat_map}
use Rattle.std.specs.Prelude.{◌&&◌, Contains, Option, nat_le, option_and_then}
use Rattle.dns_message.specs.Builders.{RecordSet}
use Rattle.dns_message.specs.Names.{Labels, max_size, name_size}
use Rattle.dns_message.specs.Records.{RecordItem, data_of}
use Rattle.dns_message.specs.Replies.{WithinIsSuffix, is_below, is_within, substituted}
use Rattle.example_response.specs.Answers.{StepItem, case_of_step, end_of, last_of, most_names, name_in, next_of, redirected, step_of, steps_from, target_of}
use Rattle.example_response.specs.Laws.{IsCase, Redirects}
use Rattle.example_response.specs.Origins.{IsFrom, RecordsAreFromZone}
use Rattle.example_response.specs.Origins.IsFrom.{of_zone, of_answer, made_by, of_denial}
use Rattle.example_response.specs.Sets.{additional_sets, address_sets, answer_sets, authority_sets, case_answers, cname_record, cname_sets, host_sets, made_sets, named_set, record_glue}
use Rattle.example_response.specs.Sets.{record_shown, records_of, redirection_sets, required, unless}
use Rattle.example_response.specs.Zones.{CaseItem, case_of, is_asked, owner_of_set, set_at}
use Rattle.example_response.specs.Zones.CaseItem.{Refused, Delegated, Redirected, Found, Alias, NoData, NoName}
use Rattle.example_response.specs.declared.zone.Rrset.{Rrset}
use Rattle.example_response.specs.declared.zone.Zone.{Zone}
use Rattle.example_response.proofs.CaseLemmas.{cases_are_meant}
use Rattle.example_response.proofs.StepLemmas.{steps_are}
use Rattle.example_response.proofs.Tests.{found_one, in_none, is_first, is_later, is_one_of}

-- the only item
in_single : {X : Type 0} (y x : X) → Contains (y ∷ []) x → y ≡ x
in_single y x h = elim (is_one_of y x [] h) [ inl same ↦ same | inr none ↦ in_none x none ]

-- an item of lists that are concatenated is in one of them
in_flat_map : {X Y : Type 0} (f : X → List Y) (xs : List X) (y : Y) → Contains (flat_map f xs) y → (x : X) × Contains xs x × Contains (f x) y
in_flat_map f [] y h = in_none y h
in_flat_map f (x ∷ xs) y h =
    elim (Contains-append_cases (f x) (flat_map f xs) y h) [
      | inl here ↦ (x, is_first x x xs refl, here)
      | inr later ↦ let k = in_flat_map f xs y later in (k.0, is_later x k.0 xs k.1, k.2)
    ]

-- the set that isn't left out
in_unless : (repeats : Bool) (y x : RecordSet) → Contains (unless repeats y) x → y ≡ x
in_unless true y x h = in_none x h
in_unless false y x h = in_single y x h

module _ (zone : Zone) (qtype : ℕ) where
  case_is : (P : CaseItem → Type 0) → P Refused → (steps : List StepItem) → ((step : StepItem) → Contains steps step → P step.case)
      → (o : Option StepItem) → last_of steps ≡ o → P (case_of_step o)
  case_is P refused steps each None is = refused
  case_is P refused steps each (Some step) is =
      let i = length steps - 1 in
      each step (i, slice_get_within steps i step is, get_or_from_slice_get steps i step step is)

  -- what holds of the case of each name, and of none, holds of the last one
  end_is : (P : CaseItem → Type 0) → P Refused → ((name : Labels) → P (case_of zone name qtype)) → (n : ℕ) (next : Option Labels) → P (end_of (steps_from zone qtype n [] next))
  end_is P refused each n next =
      let steps = steps_from zone qtype n [] next in
      case_is P refused steps (λ step h. steps_are zone qtype (λ s. P s.case) (λ before name. each name) n [] next step h) (last_of steps) refl

  -- the records of a set are from the zone
  abbrev AreFrom : List RecordItem → Type 0
  AreFrom xs = (x : RecordItem) → Contains xs x → IsFrom zone x

  abbrev AllFrom : List RecordSet → Type 0
  AllFrom sets = (set : RecordSet) → Contains sets set → AreFrom set.records

  none_from : AllFrom []
  none_from set h = in_none set h

  single_from : (s : RecordSet) → AreFrom s.records → AllFrom (s ∷ [])
  single_from s from set h = subst (λ (r : RecordSet). AreFrom r.records) (in_single s set h) from

  unless_from : (repeats : Bool) (s : RecordSet) → AreFrom s.records → AllFrom (unless repeats s)
  unless_from repeats s from set h = subst (λ (r : RecordSet). AreFrom r.records) (in_unless repeats s set h) from

  both_from : (xs ys : List RecordSet) → AllFrom xs → AllFrom ys → AllFrom (xs ++ ys)
  both_from xs ys first second set h = elim (Contains-append_cases xs ys set h) [ inl here ↦ first set here | inr later ↦ second set later ]

  -- the CNAME record that a DNAME record makes
  made_if : (name : Labels) (s : Rrset) (next target : Labels) → Redirects zone name s → target_of s ≡ Some target → (fits : Bool)
      → Some next ≡ cond fits (Some (substituted name (owner_of_set s) target)) None → AllFrom (cname_sets name s.ttl (Some next))
  made_if name s next target h is false e = absurd (let f = e in cc)
  made_if name s next target h is true e =
      let same : next ≡ substituted name (owner_of_set s) target = cc in
      single_from (required (cname_record name s.ttl next ∷ []))
      (λ x here. made_by s name target h is (sym (in_single (cname_record name s.ttl next) x here) ∙ ap (cname_record name s.ttl) same))

  made_from : (name : Labels) (s : Rrset) (next t : Option Labels) → Redirects zone name s → target_of s ≡ t → next ≡ option_and_then (redirected name (owner_of_set s)) t
      → AllFrom (cname_sets name s.ttl next)
  made_from name s None t h is leads = none_from
  made_from name s (Some next) None h is leads = absurd (let e = leads in cc)
  made_from name s (Some next) (Some target) h is leads =
      made_if name s next target h is (is_below name (owner_of_set s) && nat_le (name_size (substituted name (owner_of_set s) target)) max_size) leads

  -- the answers of a name of this case
  answers_from : (step : StepItem) (c : CaseItem) → IsCase zone step.name qtype c → step.next ≡ next_of step.name c → AllFrom (case_answers step c)
  answers_from step Refused h leads = none_from
  answers_from step (Delegated s) h leads = none_from
  answers_from step (Redirected s) h leads =
      both_from (redirection_sets step s) (made_sets step s.ttl)
      (unless_from step.repeats (required (records_of s)) (λ x here. of_zone s h.1.among here))
      (made_from step.name s step.next (target_of s) h.1 refl leads)
  answers_from step (Found s by) h leads =
      unless_from step.repeats (named_set step.name s) (λ x here. of_answer s by step.name h.2.0 h.2.1 h.2.2 here)
  answers_from step (Alias s by) h leads = single_from (named_set step.name s) (λ x here. of_answer s by step.name h.2.0 h.2.1 h.2.3 here)
  answers_from step (NoData by) h leads = none_from
  answers_from step NoName h leads = none_from

  authorities_from : (name : Labels) (c : CaseItem) → IsCase zone name qtype c → AllFrom (authority_sets zone c)
  authorities_from name Refused h = none_from
  authorities_from name (Delegated s) h = single_from (required (records_of s)) (λ x here. of_zone s h.1.among here)
  authorities_from name (Redirected s) h = none_from
  authorities_from name (Found s by) h = none_from
  authorities_from name (Alias s by) h = none_from
  authorities_from name (NoData by) h = single_from (required (record_shown zone.denial ∷ [])) (λ x here. of_denial (sym (in_single (record_shown zone.denial) x here)))
  authorities_from name NoName h = single_from (required (record_shown zone.denial ∷ [])) (λ x here. of_denial (sym (in_single (record_shown zone.denial) x here)))

  -- the addresses of a host
  addresses_from : (host : Labels) (t : ℕ) (needed : Bool) (o : Option Rrset) → set_at zone host t ≡ o → AllFrom (address_sets o needed)
  addresses_from host t needed None is = none_from
  addresses_from host t needed (Some s) is =
      let h = found_one (is_asked host t) zone.sets.items s is in
      single_from (record { required = needed; records = records_of s }) (λ x here. of_zone s h.0 here)

  hosts_from : (cut : Labels) (o : Option Labels) → AllFrom (host_sets zone cut o)
  hosts_from cut None = none_from
  hosts_from cut (Some host) =
      both_from (address_sets (set_at zone host 1) (is_within host cut)) (address_sets (set_at zone host 28) (is_within host cut))
      (addresses_from host 1 (is_within host cut) (set_at zone host 1) refl) (addresses_from host 28 (is_within host cut) (set_at zone host 28) refl)

  additionals_from : (c : CaseItem) → AllFrom (additional_sets zone c)
  additionals_from (Delegated s) set h =
      let k = in_flat_map (record_glue zone s) s.records.items set h in
      hosts_from (owner_of_set s) (name_in (data_of k.0)) set k.2
  additionals_from Refused set h = in_none set h
  additionals_from (Redirected s) set h = in_none set h
  additionals_from (Found s by) set h = in_none set h
  additionals_from (Alias s by) set h = in_none set h
  additionals_from (NoData by) set h = in_none set h
  additionals_from NoName set h = in_none set h

  module _ (within : WithinIsSuffix) where
    steps_from_zone : (n : ℕ) (next : Option Labels) → AllFrom (flat_map answer_sets (steps_from zone qtype n [] next))
    steps_from_zone n next set h =
        let k = in_flat_map answer_sets (steps_from zone qtype n [] next) set h in
        steps_are zone qtype (λ step. AllFrom (answer_sets step))
        (λ before name. answers_from (step_of zone qtype before name) (case_of zone name qtype) (cases_are_meant within zone name qtype) refl) n [] next k.0 k.1 set k.2

    all_from : (n : ℕ) (next : Option Labels) → let steps = steps_from zone qtype n [] next in
        AllFrom (flat_map answer_sets steps ++ authority_sets zone (end_of steps) ++ additional_sets zone (end_of steps))
    all_from n next =
        let steps = steps_from zone qtype n [] next in
        both_from (flat_map answer_sets steps ++ authority_sets zone (end_of steps)) (additional_sets zone (end_of steps))
        (both_from (flat_map answer_sets steps) (authority_sets zone (end_of steps)) (steps_from_zone n next)
        (end_is (λ c. AllFrom (authority_sets zone c)) none_from (λ name. authorities_from name (case_of zone name qtype) (cases_are_meant within zone name qtype)) n next))
        (additionals_from (end_of steps))

-- Each record of the sets of a response is from the zone.
pub records_are_from_zone : WithinIsSuffix → RecordsAreFromZone
records_are_from_zone within zone question set x here among = all_from zone question.rtype within (most_names question.rtype) (Some question.name) set here x among
