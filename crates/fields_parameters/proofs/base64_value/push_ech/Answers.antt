use Rattle.std.proofs.Common.{◌∙◌, ap, length}
use Rattle.fields_parameters.proofs.Base64Lemmas.{no_ech}
use Rattle.fields_parameters.proofs.base64_value.push_ech.Goals as goal

pub returns-in_default : goal.returns-in_default
returns-in_default g c =
    no_ech g.row.N c.args.text.now c.args.value.now.items c.args.value.now.items c.as_mut_slice.result.now c.min.result c.requires
    c.min.ensures (ap length c.as_mut_slice.ensures.value ∙ c.fill.ensures) c.in_default.ensures
