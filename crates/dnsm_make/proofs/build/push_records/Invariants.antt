use Rattle.std.proofs.Common.{List, drop, take}
use Rattle.dns_build.specs.State.{State}
use Rattle.dns_build.specs.BuilderStates.{Represents}
use Rattle.dnsm_make.specs.Built.{NewEntry, AllMean, AreRecords}
use Rattle.dnsm_make.proofs.theory.BuildLemmas.{Stating}
use Rattle.dnsm_make.proofs.build.push_records.Given as goal

abbrev pub invariant-loop-item : goal.invariant-loop-item
invariant-loop-item g l =
    AreRecords g.S.RecordStage.section (take l.item-index l.items)
    × ((xs : List NewEntry) → AllMean l.items xs → (s : State) → Represents g.S.BuilderStage.stage g.T.Composer.rule s l.fn.builder
    → Stating g.T.Composer.rule g.S.BuilderStage.stage g.S.RecordStage.section (drop l.item-index l.items) xs s l.builder)
