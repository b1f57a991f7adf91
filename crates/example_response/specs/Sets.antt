-- Which sets of records a response has in its sections. RFC 1034 section 4.3.2, RFC 2181 sections 5 and 9, RFC 2308 section 3, RFC 6672 section 3.1.
use Rattle.std.specs.Prelude.{if◌then◌else◌, ℕ, Bool, true, List, [], ◌∷◌, ◌++◌, map, Option, Some, None}
use Rattle.std.specs.List.{flat_map}
use Rattle.dns_message.specs.Builders.{RecordSet}
use Rattle.dns_message.specs.Data.{CompressibleName}
use Rattle.dns_message.specs.Fields.{owned_parts_of, owned_rtype_of}
use Rattle.dns_message.specs.Names.{Labels, name_labels}
use Rattle.dns_message.specs.Records.{RecordItem, data_of, record_item}
use Rattle.dns_message.specs.Replies.{is_within}
use Rattle.dns_message.specs.declared.fields.OwnedFieldData.{OwnedFieldData}
use Rattle.dns_message.specs.declared.name.Name.{Name}
use Rattle.dns_message.specs.declared.record.Record.{Record}
use Rattle.dns_message.specs.declared.wire.Octets.{Ghosts}
use Rattle.example_response.specs.Answers.{StepItem, name_in}
use Rattle.example_response.specs.Zones.{CaseItem, owner_of_set, set_at}
use Rattle.example_response.specs.Zones.CaseItem.{Refused, Delegated, Redirected, Found, Alias, NoData, NoName}
use Rattle.example_response.specs.declared.zone.Rrset.{Rrset}
use Rattle.example_response.specs.declared.zone.Zone.{Zone}

-- a set without which the response is truncated
abbrev pub required : List RecordItem → RecordSet
required xs = record { required = true; records = xs }

abbrev pub record_shown : {X : Type 0} {octets : Ghosts X} → Record (Name X octets) OwnedFieldData → RecordItem
record_shown = record_item name_labels owned_rtype_of owned_parts_of

abbrev pub renamed : {X : Type 0} {octets : Ghosts X} → Labels → Record (Name X octets) OwnedFieldData → RecordItem
renamed name r = record (record_shown r) { owner = name }

-- the records of a set
abbrev pub records_of : Rrset → List RecordItem
records_of s = map record_shown s.records.items

-- the same with a name as their owner, as those of a wildcard have (RFC 4592 section 3.3.1)
abbrev pub named_set : Labels → Rrset → RecordSet
named_set name s = required (map (renamed name) s.records.items)

-- the CNAME record (5) of a name
abbrev pub cname_record : Labels → ℕ → Labels → RecordItem
cname_record name ttl next = record { owner = name; rtype = 5; class = 1; ttl = ttl; parts = CompressibleName next ∷ [] }

-- the CNAME record that a DNAME record makes, if it leads to a name (RFC 6672 section 3.1)
abbrev pub cname_sets : Labels → ℕ → Option Labels → List RecordSet
cname_sets name ttl None = []
cname_sets name ttl (Some next) = required (cname_record name ttl next ∷ []) ∷ []

abbrev pub made_sets : StepItem → ℕ → List RecordSet
made_sets step ttl = cname_sets step.name ttl step.next

-- a set, unless an earlier step has it (RFC 2181 section 5)
abbrev pub unless : Bool → RecordSet → List RecordSet
unless repeats set = if repeats then [] else set ∷ []

abbrev pub found_sets : StepItem → Rrset → List RecordSet
found_sets step s = unless step.repeats (named_set step.name s)

abbrev pub redirection_sets : StepItem → Rrset → List RecordSet
redirection_sets step s = unless step.repeats (required (records_of s))

-- the answers of a name of this case
abbrev pub case_answers : StepItem → CaseItem → List RecordSet
case_answers step (Found s by) = found_sets step s
case_answers step (Alias s by) = named_set step.name s ∷ []
case_answers step (Redirected s) = redirection_sets step s ++ made_sets step s.ttl
case_answers step Refused = []
case_answers step (Delegated s) = []
case_answers step (NoData by) = []
case_answers step NoName = []

abbrev pub answer_sets : StepItem → List RecordSet
answer_sets step = case_answers step step.case

-- the authority section, by the case of the last name: the NS records of a delegation, or the SOA record of a denial (RFC 2308 section 3)
abbrev pub authority_sets : Zone → CaseItem → List RecordSet
authority_sets zone (Delegated s) = required (records_of s) ∷ []
authority_sets zone (NoData by) = required (record_shown zone.denial ∷ []) ∷ []
authority_sets zone NoName = required (record_shown zone.denial ∷ []) ∷ []
authority_sets zone Refused = []
authority_sets zone (Redirected s) = []
authority_sets zone (Found s by) = []
authority_sets zone (Alias s by) = []

-- a set, if there is one
abbrev pub address_sets : Option Rrset → Bool → List RecordSet
address_sets None needed = []
address_sets (Some s) needed = record { required = needed; records = records_of s } ∷ []

-- The addresses of a name server of a delegation, of types A (1) and AAAA (28). They are required if it is in the zone that is delegated (RFC 9471 section 3.1).
abbrev pub host_sets : Zone → Labels → Option Labels → List RecordSet
host_sets zone cut None = []
host_sets zone cut (Some host) = address_sets (set_at zone host 1) (is_within host cut) ++ address_sets (set_at zone host 28) (is_within host cut)

abbrev pub glue_sets : Zone → Rrset → OwnedFieldData → List RecordSet
glue_sets zone s d = host_sets zone (owner_of_set s) (name_in d)

-- those of all name servers of a delegation (RFC 1034 section 4.2.1)
abbrev pub record_glue : {N : Type 0} → Zone → Rrset → Record N OwnedFieldData → List RecordSet
record_glue zone s r = glue_sets zone s (data_of r)

-- the additional section, by the case of the last name
abbrev pub additional_sets : Zone → CaseItem → List RecordSet
additional_sets zone (Delegated s) = flat_map (record_glue zone s) s.records.items
additional_sets zone Refused = []
additional_sets zone (Redirected s) = []
additional_sets zone (Found s by) = []
additional_sets zone (Alias s by) = []
additional_sets zone (NoData by) = []
additional_sets zone NoName = []
