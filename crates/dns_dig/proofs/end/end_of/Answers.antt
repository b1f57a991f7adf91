use Rattle.std.proofs.Common.{◌≡◌, ◌∙◌, Some, ap, true, false, rules, sym}
use Rattle.dns_dig.proofs.Ends.{next_end, no_end, end_here}
use Rattle.dns_dig.proofs.end.end_of.Goals as goal

pub loop-parsed-preserved : goal.loop-parsed-preserved
loop-parsed-preserved c =
    let yes : c.is_ok.result ≡ true = search rules in
    sym (next_end c.loop-parsed.records c.next.new.self c.in-Some.parsed _ c.in-Some.ensures.steps c.in-Some.ensures.moves (sym c.is_ok.ensures.value ∙ yes)) ∙ c.loop-parsed.invariant

pub returns-then-not-is_ok : goal.returns-then-not-is_ok
returns-then-not-is_ok c =
    let no : c.is_ok.result ≡ false = search rules in
    sym (no_end c.loop-parsed.records c.in-Some.parsed _ c.in-Some.ensures.steps (sym c.is_ok.ensures.value ∙ no)) ∙ c.loop-parsed.invariant

pub returns : goal.returns
returns c = ap Some (c.pos.ensures ∙ c.in_default.ensures.moves) ∙ (sym (end_here c.loop-parsed.records c.in_default.ensures.steps.0) ∙ c.loop-parsed.invariant)
