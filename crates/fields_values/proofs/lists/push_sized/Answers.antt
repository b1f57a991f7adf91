use Rattle.std.proofs.Common.{refl, inl}
use Rattle.fields_text.specs.LengthOctets.{sized}
use Rattle.fields_values.proofs.lists.push_sized.Goals as goal

pub returns-in-Err : goal.returns-in-Err
returns-in-Err c = inl (c.in-Err.ensures.err, (sized c.args.more.now, (c.if-more-gt-MOST_SIZED.false, refl)))

pub returns-in-Err-push : goal.returns-in-Err-push
returns-in-Err-push c = inl (c.in-Err-push.ensures.err, (sized c.args.more.now, (c.if-more-gt-MOST_SIZED.false, refl)))
