use Rattle.std.proofs.Common.{rules}
use Rattle.dns_message.specs.Questions.{parsed_question}
use Rattle.dns_message.specs.Records.{record_item}
use Rattle.example_answer.proofs.Asking.{same_test}
use Rattle.example_answer.proofs.answering.is_asked.Goals as goal

pub returns-then-eq : goal.returns-then-eq
returns-then-eq g c = same_test _ (parsed_question c.args.question.now) (record_item g.N.ToName.name g.D.RecordData.rtype_of g.D.RecordData.parts c.args.found.now) (search rules)

pub returns-else-eq : goal.returns-else-eq
returns-else-eq g c = same_test _ (parsed_question c.args.question.now) (record_item g.N.ToName.name g.D.RecordData.rtype_of g.D.RecordData.parts c.args.found.now) (search rules)
