use Rattle.std.proofs.Common.{refl, inl}
use Rattle.fields_values.proofs.push.push_address.Goals as goal

pub returns-in-Err : goal.returns-in-Err
returns-in-Err c = inl (c.in-Err.ensures.err, (c.args.address.now, (c.if-address-size.false, refl)))
