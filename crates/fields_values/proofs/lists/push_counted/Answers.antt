use Rattle.std.proofs.Common.{refl, inl}
use Rattle.fields_text.specs.LengthOctets.{counted}
use Rattle.fields_values.proofs.lists.push_counted.Goals as goal

pub returns-then-is_err : goal.returns-then-is_err
returns-then-is_err c = inl (refl, (counted c.args.string.now, (c.if-size-gt-MOST_COUNTED.false, refl)))

pub returns-in-Err : goal.returns-in-Err
returns-in-Err c = inl (c.in-Err.ensures.err, (counted c.args.string.now, (c.if-size-gt-MOST_COUNTED.false, refl)))
