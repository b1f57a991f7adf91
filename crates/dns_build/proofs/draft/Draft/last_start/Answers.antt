use Rattle.std.proofs.Common.{◌∙◌}
use Rattle.dns_build.proofs.StartLemmas.{last-of}
use Rattle.dns_build.proofs.draft.Draft.last_start.Goals as goal

pub returns-clause-value : goal.returns-clause-value
returns-clause-value g c = rw (← c.self.view_is) (c.of.ensures.value ∙ last-of _ _ _ (c.DEPTH.ensures ∙ g.S.BuilderStage.depth))

pub returns-clause-after : goal.returns-clause-after
returns-clause-after g c = c.of.ensures.after c.self.invariant.1
