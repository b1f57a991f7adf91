use Rattle.dns_code.specs.Header.{fields}
use Rattle.dns_build.proofs.ReservedLemmas.{headed-reserved}
use Rattle.dns_build.proofs.reserved_builder.ReservedBuilder.set_header.Goals as goal

pub invariant_of-self : goal.invariant_of-self
invariant_of-self g c =
    headed-reserved _ g.S.BuilderStage.stage g.T.Composer.rule (fields c.args.header) c.self.inside.builder _ _ c.as_slice-so_far.ensures.state c.set_header.ensures c.self.invariant

pub returns-clause-moves : goal.returns-clause-moves
returns-clause-moves g c = rw (← c.self.view_is) c.set_header.ensures
