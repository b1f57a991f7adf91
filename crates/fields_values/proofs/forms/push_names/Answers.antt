use Rattle.std.proofs.Common.{◌++◌, ◌∙◌, ap, arith}
use Rattle.fields_values.specs.NewForms.{names_octets}
use Rattle.fields_values.proofs.FormSteps.{names_end, names_step}
use Rattle.fields_values.proofs.forms.push_names.Goals as goal

pub names-preserved : goal.names-preserved
names-preserved c =
    names_step c.names.left.now c.name-item.result c.names.octets.items c.push.new.octets.items (c.args.octets.now.items ++ names_octets c.args.names.now) c.in-len1-up.len_at_least c.name-item.is
    (c.in_default-push.ensures.ok ∙ ap (λ xs. c.names.octets.items ++ xs) (c.as_slice.ensures.value ∙ c.uncompressed.ensures)) c.names.invariant

pub returns-clause-ok : goal.returns-clause-ok
returns-clause-ok c = names_end c.names.left.now c.names.octets.items (c.args.octets.now.items ++ names_octets c.args.names.now) (omega arith) c.names.invariant
