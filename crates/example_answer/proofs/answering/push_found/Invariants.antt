use Rattle.dns_message.specs.Targets.{Plain}
use Rattle.dns_message.specs.Questions.{parsed_question}
use Rattle.dns_message.specs.Records.{record_item}
use Rattle.dns_message.specs.Builders.{InAnswer, InEach}
use Rattle.example_answer.specs.Pushing.{MoreAnswers}
use Rattle.example_answer.proofs.Pushing.{first}
use Rattle.example_answer.proofs.answering.push_found.Given as goal

abbrev pub invariant-loop-found : goal.invariant-loop-found
invariant-loop-found g l = record {
  pushes : InEach InAnswer Plain l.initial.builder (λ s. MoreAnswers s l.builder
      (first (record_item g.N.ToName.name g.D.RecordData.rtype_of g.D.RecordData.parts) (parsed_question l.question) l.table l.found-index));
}
