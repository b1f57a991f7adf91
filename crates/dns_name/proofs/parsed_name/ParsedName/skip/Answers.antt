use Rattle.std.proofs.Common.{◌≤◌, arith, refl, length}
use Rattle.std.proofs.lemmas.Result.{err_from_is_err_and}
use Rattle.dns_name.specs.Names.{Begins}
use Rattle.dns_name.specs.Parsers.{seen}
use Rattle.dns_name.specs.declared.head.Head.TheVariants.{Label}
use Rattle.dns_name.proofs.theory.HeadLemmas.{skips_label, skips_root, skips_pointer}
use Rattle.dns_name.proofs.ParserLemmas.{length-seen}
use Rattle.dns_name.proofs.parsed_name.ParsedName.skip.Goals as goal
use Rattle.dns_name.proofs.parsed_name.ParsedName.skip.Goals.{in-Root, in-Pointer}

pub returns-in_err-after : goal.returns-in_err-after
returns-in_err-after c =
    let p = err_from_is_err_and c.from_residual.result c.from_residual.ensures.1 in
    rw (p.1, p.2) (c.walk.invariant.faults _ c.in_err-after.ensures.begins, refl)

pub walk-preserved : goal.walk-preserved
walk-preserved c =
    let h : Begins (seen c.args.parser.now) c.walk.pos c.walk.size (Label c.in-Label.len) = rw c.in-Label.is at c.in_ok-after.ensures.begins in
    skips_label _ _ _ _ _ _ _ c.walk.invariant h (omega arith) (omega arith)

pub invariant_of-parser : goal.invariant_of-parser
invariant_of-parser c =
    let end : c.match-branch-2.end ≤ length (seen c.args.parser.now) = elim c.match-branch-2.branch [
      | in-Root w ↦ (skips_root _ _ _ _ _ c.walk.invariant (cc (c.in_ok-after.ensures.begins.there, w.in-Root.is)) w.end-is).1
      | in-Pointer w ↦ (skips_pointer _ _ _ _ w.in-Pointer._target _ c.walk.invariant (cc (c.in_ok-after.ensures.begins.there, w.in-Pointer.is)) w.end-is).1
    ] in
    record { before_end = omega (arith, length-seen c.args.parser.now); within = omega arith }

pub returns : goal.returns
returns c = (
  elim c.match-branch-2.branch [
    | in-Root w ↦ (skips_root _ _ _ _ _ c.walk.invariant (cc (c.in_ok-after.ensures.begins.there, w.in-Root.is)) w.end-is).0
    | in-Pointer w ↦ (skips_pointer _ _ _ _ w.in-Pointer._target _ c.walk.invariant (cc (c.in_ok-after.ensures.begins.there, w.in-Pointer.is)) w.end-is).0
  ],
  record { input = refl; seen = refl; offset = refl },
)
