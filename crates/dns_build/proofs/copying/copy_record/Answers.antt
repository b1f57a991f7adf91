use Rattle.std.proofs.Common.{refl}
use Rattle.dns_build.proofs.CopyLemmas.{pushes_record}
use Rattle.dns_build.proofs.copying.copy_record.Goals as goal

pub returns-in-Some-clause-copies : goal.returns-in-Some-clause-copies
returns-in-Some-clause-copies g c = λ s represents.
    let e = c.push.ensures in
    let made = pushes_record g.T.Composer.capacity g.T.Composer.grows g.T.Composer.rule g.S.BuilderStage.stage (g.R.ComposeRecord.item c.in-Some.kept) s
    c.args.target.now _ c.push.result represents e.accepted e.refused e.outcome in
    (made.0, record { shown = c.args.shown; represents = refl; kept = _; called = c.in-Some.ensures; pushed = made.1 }, made.2)
