use Rattle.std.proofs.Common.{length}
use Rattle.std.specs.List.{filter_map}
use Rattle.std.specs.Result.{result_ok}
use Rattle.dns_read.specs.Message.{message_octets}
use Rattle.dns_read.specs.QuestionSection.{questions_left}
use Rattle.dns_build.specs.Answers.{readable_questions}
use Rattle.dns_build.specs.BuilderStates.{InEach}
use Rattle.dns_build.specs.State.{InQuestion}
use Rattle.dns_build.proofs.AnswerLemmas.{Pushing}
use Rattle.dns_build.proofs.answer.push_questions.Given as goal

abbrev pub invariant-loop-question : goal.invariant-loop-question
invariant-loop-question g l = record {
  pushing : InEach InQuestion g.T.Composer.rule l.initial.builder (λ s.
      Pushing g.T.Composer.capacity g.T.Composer.grows g.T.Composer.rule s (readable_questions (message_octets l.msg)) (filter_map result_ok (questions_left l.asked)) l.builder);
}

abbrev pub decreases-loop-question : goal.decreases-loop-question
decreases-loop-question g l = length (questions_left l.asked)
