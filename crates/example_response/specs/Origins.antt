-- Where the records of a response are from. RFC 1034 section 4.3.2, RFC 2308 section 3, RFC 4592 section 3.3.1, RFC 6672 section 3.1.
use Rattle.std.specs.Prelude.{◌≡◌, [], ◌++◌, List, Contains, Some, map}
use Rattle.std.specs.List.{flat_map}
use Rattle.dns_message.specs.Builders.{RecordSet}
use Rattle.dns_message.specs.Names.{Labels}
use Rattle.dns_message.specs.Questions.{QuestionItem}
use Rattle.dns_message.specs.Records.{RecordItem}
use Rattle.dns_message.specs.Replies.{substituted}
use Rattle.example_response.specs.Answers.{StepItem, end_of, most_names, steps_from, target_of}
use Rattle.example_response.specs.Laws.{AnswersFor, IsSetOf, Owns, Redirects}
use Rattle.example_response.specs.Sets.{additional_sets, answer_sets, authority_sets, cname_record, record_shown, records_of, renamed}
use Rattle.example_response.specs.Zones.{owner_of_set}
use Rattle.example_response.specs.declared.zone.Match.{Match}
use Rattle.example_response.specs.declared.zone.Rrset.{Rrset}
use Rattle.example_response.specs.declared.zone.Zone.{Zone}

-- where a record is from
pub data IsFrom (zone : Zone) (x : RecordItem) : Type 0 where
  -- it is one of the zone
  of_zone : (s : Rrset) → IsSetOf zone s → Contains (records_of s) x → IsFrom zone x
  -- it is one that answers for a name, by the name itself or by a wildcard; only its owner is that name
  of_answer : (s : Rrset) (by : Match) (name owner : Labels) → AnswersFor zone name by owner → Owns zone owner s → Contains (map (renamed name) s.records.items) x → IsFrom zone x
  -- it is the CNAME record that a DNAME record makes of a name
  made_by : (s : Rrset) (name target : Labels) → Redirects zone name s → target_of s ≡ Some target → x ≡ cname_record name s.ttl (substituted name (owner_of_set s) target) → IsFrom zone x
  -- it is the SOA record of denials
  of_denial : x ≡ record_shown zone.denial → IsFrom zone x

-- the sets of all sections
abbrev pub response_sets : Zone → List StepItem → List RecordSet
response_sets zone steps = flat_map answer_sets steps ++ authority_sets zone (end_of steps) ++ additional_sets zone (end_of steps)

-- Each record of the sets of a response is from the zone.
abbrev pub RecordsAreFromZone : Type 0
RecordsAreFromZone = (zone : Zone) (question : QuestionItem) (set : RecordSet) (x : RecordItem)
    → Contains (response_sets zone (steps_from zone question.rtype (most_names question.rtype) [] (Some question.name))) set → Contains set.records x → IsFrom zone x
