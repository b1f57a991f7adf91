use Rattle.std.proofs.Common.{arith}
use Rattle.fields_text.proofs.theory.LineLemmas.{skips_more}
use Rattle.fields_text.proofs.line_words.skip_blanks.Goals as goal

pub blanks-preserved : goal.blanks-preserved
blanks-preserved c = record {
  same = skips_more c.args.start c.blanks.left c.in-Some.after c.blanks.invariant.same c.in-Some.ensures;
  shorter = (let shorter = c.in-Some.ensures.shorter in let before = c.blanks.invariant.shorter in omega arith);
  fits = (let fits = c.in-Some.ensures.fits in let before = c.blanks.invariant.fits in omega arith);
}

pub returns : goal.returns
returns c = record { same = c.blanks.invariant.same; begins = c.in_default.ensures; shorter = c.blanks.invariant.shorter; fits = c.blanks.invariant.fits }
