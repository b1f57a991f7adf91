use Rattle.std.proofs.Common.{◌+◌, length, arith, inl, inr, length-append}
use Rattle.std.proofs.lemmas.Bool.{cases_lt, false≢true}
use Rattle.fields_parameters.proofs.value_octets.push_octets.Goals as goal

pub returns-in-Err : goal.returns-in-Err
returns-in-Err g c =
    elim (cases_lt g.row.N (length c.args.value.now.items + length c.args.octets.now)) [
      | inl more ↦ omega (arith, length-append c.args.value.now.items c.args.octets.now)
      | inr few ↦ absurd (false≢true (c.in-Err.ensures.variant.1 few))
    ]
