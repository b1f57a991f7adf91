use Rattle.std.proofs.Common.{List, drop, take}
use Rattle.dns_build.specs.State.{State, InQuestion}
use Rattle.dns_build.specs.BuilderStates.{Represents}
use Rattle.dnsm_make.specs.Built.{NewEntry, AllMean, AreQuestions}
use Rattle.dnsm_make.proofs.theory.BuildLemmas.{Asking}
use Rattle.dnsm_make.proofs.build.push_questions.Given as goal

abbrev pub invariant-loop-item : goal.invariant-loop-item
invariant-loop-item g l =
    AreQuestions (take l.item-index l.items)
    × ((xs : List NewEntry) → AllMean l.items xs → (s : State) → Represents InQuestion g.T.Composer.rule s l.fn.builder
    → Asking g.T.Composer.rule (drop l.item-index l.items) xs s l.builder)
