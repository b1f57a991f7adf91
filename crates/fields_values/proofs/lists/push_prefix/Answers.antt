use Rattle.std.proofs.Common.{refl, inl, inr}
use Rattle.fields_values.proofs.lists.push_prefix.Goals as goal

pub returns-then-not-is_prefix : goal.returns-then-not-is_prefix
returns-then-not-is_prefix c = inr (refl, λ octets is. let is_true = c.is_prefix.ensures.1 (octets, is) in cc (is_true, c.if-not-is_prefix.true))

pub returns-in-Err : goal.returns-in-Err
returns-in-Err c = inl (c.in-Err.ensures.err, c.is_prefix.ensures.0 c.if-not-is_prefix.false)

pub returns-in-Err-push : goal.returns-in-Err-push
returns-in-Err-push c = inl (c.in-Err-push.ensures.err, c.is_prefix.ensures.0 c.if-not-is_prefix.false)

pub returns-in-Err-push-2 : goal.returns-in-Err-push-2
returns-in-Err-push-2 c = inl (c.in-Err-push-2.ensures.err, c.is_prefix.ensures.0 c.if-not-is_prefix.false)
