use Rattle.std.proofs.Common.{◌≡◌, ◌<◌, arith, subst}
use Rattle.std.proofs.lemmas.Result.{err_from_is_err_and}
use Rattle.dns_read.specs.Reading.{Skipped}
use Rattle.dns_read.specs.Reading.Skipped.{none}
use Rattle.dns_edit.specs.Opt.{OtherAt}
use Rattle.dns_edit.proofs.EntryLemmas.{stopped}
use Rattle.dns_edit.proofs.OptLemmas.{other_next}
use Rattle.dns_edit.proofs.opt.first_opt_of.Goals as goal

pub loop-before-init : goal.loop-before-init
loop-before-init c = (c.requires, none)

pub loop-before-preserved : goal.loop-before-preserved
loop-before-preserved c =
    let s = c.in_ok-span.ensures in
    (s.within, other_next _ _ _ _ c.in_ok-span.span c.loop-before.invariant.1 s c.if-span-eq41.false)

pub returns-in_err-span : goal.returns-in_err-span
returns-in_err-span c =
    let p = err_from_is_err_and c.from_residual.result c.from_residual.ensures.1 in
    let less : c.loop-before.before < c.args.count = omega arith in
    rw (p.1, p.2) (stopped c.args.count c.loop-before.invariant.1 c.in_err-span.ensures less)

pub returns-then-span-eq41 : goal.returns-then-span-eq41
returns-then-span-eq41 c =
    let s = c.in_ok-span.ensures in
    (c.loop-before.pos, omega arith, c.loop-before.invariant.1, s, c.if-span-eq41.true)

pub returns : goal.returns
returns c =
    let n : c.loop-before.before ≡ c.args.count = omega arith in
    (c.loop-before.pos, subst (λ n. Skipped (OtherAt c.args.octets.now) n c.args.start c.loop-before.pos) n c.loop-before.invariant.1)
