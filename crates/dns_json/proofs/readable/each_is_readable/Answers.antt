use Rattle.std.proofs.Common.{◌≡◌, ◌∙◌, true, false, rules, sym}
use Rattle.dns_json.proofs.EntryTexts.{first_readable, first_unreadable, none_unreadable}
use Rattle.dns_json.proofs.Readings.{record_ok}
use Rattle.dns_json.proofs.readable.each_is_readable.Goals as goal

pub loop-parsed-preserved : goal.loop-parsed-preserved
loop-parsed-preserved c =
    let yes : c.is_ok.result ≡ true = search rules in
    c.loop-parsed.invariant ∙ first_readable _ _ _ c.in-Some.ensures.steps (record_ok c.in-Some.parsed ∙ (sym c.is_ok.ensures.value ∙ yes))

pub returns-then-not-is_ok : goal.returns-then-not-is_ok
returns-then-not-is_ok c =
    let no : c.is_ok.result ≡ false = search rules in
    sym (c.loop-parsed.invariant ∙ first_unreadable _ _ _ c.in-Some.ensures.steps (record_ok c.in-Some.parsed ∙ (sym c.is_ok.ensures.value ∙ no)))

pub returns : goal.returns
returns c = sym (c.loop-parsed.invariant ∙ none_unreadable _ c.in_default.ensures.steps.0)
