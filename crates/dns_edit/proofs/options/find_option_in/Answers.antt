use Rattle.std.proofs.Common.{◌≡◌, arith, refl, subst, suc}
use Rattle.dns_read.specs.Reading.{Skipped}
use Rattle.dns_read.specs.Reading.Skipped.{none}
use Rattle.dns_edit.specs.Options.{OtherOption}
use Rattle.dns_edit.proofs.OptionLemmas.{option_found, option_next}
use Rattle.dns_edit.proofs.options.find_option_in.Goals as goal

pub loop-pos-init : goal.loop-pos-init
loop-pos-init c = (c.requires.ordered, 0, none)

pub returns-in-None : goal.returns-in-None
returns-in-None c = ((c.loop-pos.invariant.1, c.loop-pos.pos, c.loop-pos.invariant.2, c.in-None.ensures c.loop-pos-test.true), refl)

pub returns-then-each-code : goal.returns-then-each-code
returns-then-each-code c = option_found c.loop-pos.invariant.2 c.in-Some.ensures.0 c.in-Some.ensures.1 c.if-each-code.true

pub loop-pos-preserved : goal.loop-pos-preserved
loop-pos-preserved c =
    let s = c.in-Some.ensures.0 in
    (s.within, suc c.loop-pos.invariant.1, option_next c.loop-pos.invariant.2 s c.in-Some.ensures.1 c.if-each-code.false)

pub returns : goal.returns
returns c =
    let e : c.loop-pos.pos ≡ c.args.end = omega arith in
    (c.loop-pos.invariant.1, subst (λ p. Skipped (OtherOption c.args.code c.args.octets.now c.args.end) c.loop-pos.invariant.1 c.args.start p) e c.loop-pos.invariant.2)
