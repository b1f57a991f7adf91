use Rattle.std.proofs.Common.{◌∙◌}
use Rattle.dns_build.proofs.SetLemmas.{marked}
use Rattle.dns_build.proofs.Steps.{depth-at, offset-at}
use Rattle.dns_build.proofs.builder.Builder.mark.Goals as goal

pub count_offset-requires : goal.count_offset-requires
count_offset-requires g c =
    let depth = depth-at _ _ g.met.S.RecordStage.at _ (c.DEPTH.ensures ∙ g.S.BuilderStage.depth) in
    record { first = depth.0; last = depth.1 }

pub returns : goal.returns
returns g c =
    let offset = offset-at _ _ g.met.S.RecordStage.at g.T.Composer.rule _ _ (c.DEPTH.ensures ∙ g.S.BuilderStage.depth) c.count_offset.ensures.value in
    rw (← c.self.view_is) (marked _ _ g.met.S.RecordStage.at g.T.Composer.rule _ offset _ _ c.count.ensures)
