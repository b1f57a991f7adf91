use Rattle.std.proofs.Common.{◌∙◌, length, sym, arith}
use Rattle.std.proofs.lemmas.Bool.{eqb-false}
use Rattle.fields_forms.proofs.NameSteps.{name_step, name_missing}
use Rattle.fields_forms.proofs.plain_names.are_plain_names.Goals as goal

pub returns-in_default : goal.returns-in_default
returns-in_default c = sym (c.names.invariant ∙ name_missing c.names.left.now (let some = eqb-false (length c.names.left.now) 0 (sym c.names-test.ensures) in omega arith) c.in_default.ensures.size)

pub names-preserved : goal.names-preserved
names-preserved c = c.names.invariant ∙ name_step c.names.left.now _
    (let some = eqb-false (length c.names.left.now) 0 (sym c.names-test.ensures) in omega arith) c.in-Some.ensures.size c.in-Some.ensures.some c.in-Some.ensures.within
