use Rattle.std.proofs.Common.{◌∙◌, Bool, subst, sym}
use Rattle.std.proofs.lemmas.Bool.{true≢false}
use Rattle.std.proofs.lemmas.Result.{err_from_is_err_and}
use Rattle.std.specs.Prelude.{Ok}
use Rattle.dnsm_read.specs.Steps.{Steps}
use Rattle.dnsm_read.proofs.OptSearchLemmas.{error_next, fewer_left, found_next, none_next, none_passed, one_passed}
use Rattle.dnsm_read.proofs.find_opt.next_opt.Goals as goal

pub items-init : goal.items-init
items-init c = none_passed _ _ c.requires

pub returns-in_err-next : goal.returns-in_err-next
returns-in_err-next c =
    let p = err_from_is_err_and c.from_residual.result c.from_residual.ensures.1 in
    let passed = c.items.invariant in
    rw (p.1, p.2) (error_next _ _ _ passed c.next.new.cursor c.next.new.item c.in_err-next.field-0.0 (c.in_err-next.ensures.steps passed.is_open))

pub returns-then-is_opt : goal.returns-then-is_opt
returns-then-is_opt c =
    let passed = c.items.invariant in
    let steps = subst (λ (given : Bool). Steps c.args.octets.now c.items.cursor c.next.new.cursor c.next.new.item (Ok given)) c.if-branch.true (c.in_ok-next.ensures.steps passed.is_open) in
    found_next _ _ _ passed c.next.new.cursor c.next.new.item steps (c.is_opt.ensures.yes c.if-is_opt.true)

pub items-smaller : goal.items-smaller
items-smaller c =
    let passed = c.items.invariant in
    let steps = subst (λ (given : Bool). Steps c.args.octets.now c.items.cursor c.next.new.cursor c.next.new.item (Ok given)) c.if-branch.true (c.in_ok-next.ensures.steps passed.is_open) in
    fewer_left _ _ _ passed c.next.new.cursor c.next.new.item steps

pub items-preserved : goal.items-preserved
items-preserved c =
    let passed = c.items.invariant in
    let steps = subst (λ (given : Bool). Steps c.args.octets.now c.items.cursor c.next.new.cursor c.next.new.item (Ok given)) c.if-branch.true (c.in_ok-next.ensures.steps passed.is_open) in
    one_passed _ _ _ passed c.next.new.cursor c.next.new.item steps (λ is. true≢false (sym (c.is_opt.ensures.no is) ∙ c.if-is_opt.false))

pub returns : goal.returns
returns c =
    let passed = c.items.invariant in
    let steps = subst (λ (given : Bool). Steps c.args.octets.now c.items.cursor c.next.new.cursor c.next.new.item (Ok given)) c.if-branch.false (c.in_ok-next.ensures.steps passed.is_open) in
    none_next _ _ _ passed c.next.new.cursor c.next.new.item steps
