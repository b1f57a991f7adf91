use Rattle.std.proofs.Common.{◌≡◌, ◌∙◌, ◌++◌, Some, true, false, ap, sym, refl, rules}
use Rattle.std.proofs.lemmas.Iterator.Splits.{YieldsList-from_lines}
use Rattle.std.specs.Str.Lines.{lines}
use Rattle.cases_files.specs.Block.{all_lines, is_content, is_kept}
use Rattle.cases_files.specs.Line.{texts}
use Rattle.cases_files.proofs.ReadLines.{starts, skips, keeps, ends, all_lines-push, texts-push}
use Rattle.cases_files.proofs.block.blocks.Goals as goal

pub loop-line-init : goal.loop-line-init
loop-line-init c =
    let from_start = starts (lines c.args.text.now) c.into_iter-line-iterator.result (YieldsList-from_lines c.args.text.now (cc)) in
    rw (c.new-ended.ensures.items, c.new-block.ensures.items) from_start

pub loop-line-preserved-in-None-mark_of : goal.loop-line-preserved-in-None-mark_of
loop-line-preserved-in-None-mark_of c =
    let same : all_lines c.loop-line.ended.items ++ texts c.loop-line.block.items ≡ all_lines c.push.new.self.items ++ texts c.new-block-in-None-mark_of.result.items =
    rw (c.in_ok-push-in-None-mark_of.ensures.items, all_lines-push, c.new-block-in-None-mark_of.ensures.items) (search rules) in
    skips c.in-Some.line c.next.new.self c.loop-line.invariant c.in-Some.ensures.steps (ap is_content (sym c.mark_of.ensures ∙ c.in-None-mark_of.is)) same

pub loop-line-preserved-in-Some-eq35 : goal.loop-line-preserved-in-Some-eq35
loop-line-preserved-in-Some-eq35 c =
    let comment : is_kept c.in-Some.line.now ≡ false = ap is_content (sym c.mark_of.ensures ∙ c.in-Some-eq35.is ∙ ap Some c.in-Some-eq35.field-0-test) in
    skips c.in-Some.line c.next.new.self c.loop-line.invariant c.in-Some.ensures.steps comment refl

pub loop-line-preserved : goal.loop-line-preserved
loop-line-preserved c =
    let kept : is_kept c.in-Some.line.now ≡ true = ap is_content (sym c.mark_of.ensures ∙ c.in-Some-mark_of.is) ∙ search (rules, c.in-Some-mark_of.field-0-test) in
    keeps c.in-Some.line c.next.new.self c.loop-line.invariant c.in-Some.ensures.steps kept
    (texts-push _ _ c.in-Some.line ∙ ap (λ block. all_lines c.loop-line.ended.items ++ texts block) (sym c.in_ok-push-in-Some-mark_of.ensures.items))

pub returns : goal.returns
returns c = rw (c.in_ok-push.ensures.items, all_lines-push) (ends c.loop-line.invariant c.in-None.ensures.steps)
