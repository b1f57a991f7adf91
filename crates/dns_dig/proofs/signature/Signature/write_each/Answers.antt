use Rattle.std.proofs.Common.{arith, refl, rules}
use Rattle.dns_lines.proofs.theory.ShownRecords.{given_read, given_short}
use Rattle.dns_dig.proofs.Pieces.{none_printed, next_printed, all_printed}
use Rattle.dns_dig.proofs.signature.Signature.write_each.Goals as goal

pub loop-parsed-init : goal.loop-parsed-init
loop-parsed-init g c = none_printed _ _ _ _ _ refl

pub write_item-requires-clause-read : goal.write_item-requires-clause-read
write_item-requires-clause-read g c = given_read c.loop-parsed.records c.next.new.self c.in-Some.parsed c.in-Some.ensures.moves

pub write_item-requires-clause-short : goal.write_item-requires-clause-short
write_item-requires-clause-short g c = given_short c.in-Some.parsed (λ p e. let t = rw (c.in-Some.is, e) at c.next.type_inv in omega (arith, t))

pub loop-parsed-preserved : goal.loop-parsed-preserved
loop-parsed-preserved g c = next_printed _ _ _ _ _ _ _ _ _ c.loop-parsed.invariant c.in-Some.ensures.steps (c.write_item.ensures.text (search rules))

pub returns-clause-text : goal.returns-clause-text
returns-clause-text g c = λ ok. all_printed _ _ _ _ _ _ c.loop-parsed.invariant c.in_default.ensures.steps.0
