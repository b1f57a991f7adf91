use Rattle.dns_build.proofs.builder.Builder.as_slice.Goals as goal

pub returns-clause-state : goal.returns-clause-state
returns-clause-state g c = rw (← c.self.view_is) c.self.invariant
