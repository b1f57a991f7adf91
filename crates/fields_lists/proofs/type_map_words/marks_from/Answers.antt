use Rattle.std.proofs.Common.{◌+◌, false, subst, sym, arith}
use Rattle.std.proofs.lemmas.List.{get_or-replicate, length-replicate}
use Rattle.fields_lists.proofs.MarkLemmas.{AreMarks, above, below, marked}
use Rattle.fields_lists.proofs.type_map_words.marks_from.Goals.{in-Some+then-index-lt256, in-Some+else-index-lt256, in_default}
use Rattle.fields_lists.proofs.type_map_words.marks_from.Goals as goal

pub loop-rtype-init : goal.loop-rtype-init
loop-rtype-init c = record { whole = length-replicate 256 false; each = λ index small. get_or-replicate 256 index false false small }

pub loop-rtype-preserved : goal.loop-rtype-preserved
loop-rtype-preserved c =
    let types = c.args.types.now in
    let i = c.loop-rtype.rtype-index in
    let is = c.from.ensures in
    elim c.match-checked_sub.branch [
      | in-Some+then-index-lt256 w ↦
          let there = w.in-Some.ensures {u = tt} in
          marked types i c.args.first c.loop-rtype.marks c.loop-rtype-test.true c.loop-rtype.invariant c.match-checked_sub.marks w.in-Some.index (omega arith)
          (omega (arith, there.0, there.1, is)) w.marks-is
      | in-Some+else-index-lt256 w ↦
          let there = w.in-Some.ensures {u = tt} in
          subst (AreMarks types (i + 1) c.args.first) (sym w.marks-is)
          (above types i c.args.first c.loop-rtype.marks c.loop-rtype-test.true c.loop-rtype.invariant (let far = w.if-index-lt256.false in omega (arith, there.0, there.1, is, far)))
      | in_default w ↦
          subst (AreMarks types (i + 1) c.args.first) (sym w.marks-is)
          (below types i c.args.first c.loop-rtype.marks c.loop-rtype-test.true c.loop-rtype.invariant (let not = w.in_default.ensures {u = tt} in omega (arith, not, is)))
    ]
