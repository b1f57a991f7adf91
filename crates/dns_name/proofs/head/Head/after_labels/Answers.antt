use Rattle.std.proofs.Common.{◌≡◌, arith}
use Rattle.std.specs.Prelude.{Ok}
use Rattle.std.proofs.lemmas.Result.{err_from_is_err_and}
use Rattle.dns_name.specs.Names.{head_at, Faulty}
use Rattle.dns_name.specs.declared.head.Head.TheVariants.{Root, Label, Pointer}
use Rattle.dns_name.proofs.theory.CachedNames.{skipping_none, skipping_label, skipping_long, skipping_row}
use Rattle.dns_name.proofs.head.Head.after_labels.Goals as goal

pub walk-init : goal.walk-init
walk-init c = skipping_none _ _ _ _ c.requires.short (omega arith)

pub returns-in_err-at : goal.returns-in_err-at
returns-in_err-at c =
    let p = err_from_is_err_and c.from_residual.result c.from_residual.ensures.1 in
    rw (p.1, p.2) (c.walk.invariant.faults _ (Faulty.head c.in_err-at.ensures.head))

pub returns-in-Root : goal.returns-in-Root
returns-in-Root c =
    let h : head_at c.args.octets.now c.walk.pos ≡ Ok Root = cc c.in_ok-at.ensures.head in
    let row = skipping_row _ _ _ _ _ _ c.walk.invariant c.in_ok-at.ensures.within in
    record {
      from = c.walk.invariant.from;
      within = c.in_ok-at.ensures.within;
      short = c.walk.invariant.short;
      few = omega (arith, c.walk.invariant.few);
      row = row.0;
      counted = row.1;
      there = h;
      in_reach = tt;
    }

pub returns-in-Pointer : goal.returns-in-Pointer
returns-in-Pointer c =
    let h : head_at c.args.octets.now c.walk.pos ≡ Ok (Pointer c.in-Pointer.target) = cc c.in_ok-at.ensures.head in
    let row = skipping_row _ _ _ _ _ _ c.walk.invariant c.in_ok-at.ensures.within in
    record {
      from = c.walk.invariant.from;
      within = c.in_ok-at.ensures.within;
      short = c.walk.invariant.short;
      few = omega (arith, c.walk.invariant.few);
      row = row.0;
      counted = row.1;
      there = h;
      in_reach = rw c.in-Pointer.is at c.in_ok-at.ensures.in_reach;
    }

pub returns-then-pos-longest : goal.returns-then-pos-longest
returns-then-pos-longest c =
    let h : head_at c.args.octets.now c.walk.pos ≡ Ok (Label c.in-Label.len) = cc c.in_ok-at.ensures.head in
    skipping_long _ _ _ _ _ _ _ c.walk.invariant h (omega arith)

pub walk-preserved : goal.walk-preserved
walk-preserved c =
    let h : head_at c.args.octets.now c.walk.pos ≡ Ok (Label c.in-Label.len) = cc c.in_ok-at.ensures.head in
    skipping_label _ _ _ _ _ _ _ _ _ c.walk.invariant h (omega arith) (omega arith) (omega arith)
