use Rattle.dns_json.proofs.Found.{members_read_back, octets_read_back, question_members_read_back, record_members_read_back}
use Rattle.dns_json.proofs.laws.members_read_back.Goals as goal

pub returns-clause-message : goal.returns-clause-message
returns-clause-message c = members_read_back

pub returns-clause-questions : goal.returns-clause-questions
returns-clause-questions c = question_members_read_back

pub returns-clause-records : goal.returns-clause-records
returns-clause-records c = record_members_read_back

pub returns-clause-octets : goal.returns-clause-octets
returns-clause-octets c = octets_read_back
