use Rattle.std.proofs.Common.{◌∙◌, sym, ap, length, arith}
use Rattle.dns_json.proofs.Readings.{end_kept, end_reached}
use Rattle.dns_json.proofs.readable.end_of.Goals as goal

pub loop-parsed-smaller : goal.loop-parsed-smaller
loop-parsed-smaller c = let shorter = ap length c.in-Some.ensures.steps in omega (arith, shorter)

pub loop-parsed-preserved : goal.loop-parsed-preserved
loop-parsed-preserved c = c.loop-parsed.invariant ∙ end_kept c.loop-parsed.records c.next.new.self c.in-Some._parsed c.in-Some.ensures.steps c.in-Some.ensures.moves

pub returns : goal.returns
returns c = c.pos.ensures ∙ sym (c.loop-parsed.invariant ∙ end_reached c.loop-parsed.records c.next.new.self c.in_default.ensures.steps.0 c.in_default.ensures.moves)
