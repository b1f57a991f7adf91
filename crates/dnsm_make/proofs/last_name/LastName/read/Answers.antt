use Rattle.std.proofs.Common.{List, ℕ, subst}
use Rattle.dns_name.specs.NameReading.{name_labels}
use Rattle.dns_name.specs.NameTexts.{SpellsName}
use Rattle.dnsm_make.proofs.last_name.LastName.read.Goals as goal

pub returns-then-same-clause-name : goal.returns-then-same-clause-name
returns-then-same-clause-name c =
    rw (← c.self.view_is) (subst (λ (text : List ℕ). SpellsName text (name_labels c.self.inside.name)) (c.same.ensures.0 c.if-same.true) c.self.invariant)
