use Rattle.std.proofs.Common.{◌+◌, ◌-◌, ◌≤◌, take, length, vec_len}
use Rattle.std.specs.Prelude.{vec_capacity}
use Rattle.dns_script.proofs.Histories.{GoesOn}
use Rattle.dns_script.proofs.script.run.Given as goal

abbrev pub invariant-loop-call : goal.invariant-loop-call
invariant-loop-call g l = record {
  goes_on : GoesOn g.T.Composer.capacity g.T.Composer.grows g.Q.ComposeQuestion.question g.R.ComposeRecord.item g.T.Composer.rule l.fn.stage
      (take l.call-index l.calls) l.fn.replies.items l.replies.items l.stage;
  capacity : vec_len l.replies + (length l.calls - l.call-index) ≤ vec_capacity l.replies;
}
