use Rattle.std.proofs.Common.{[]}
use Rattle.fields_lists.proofs.SmallMarks.{all_marked, next_marked, none_marked, none_small}
use Rattle.fields_lists.proofs.small_type_map_words.small_marks.Goals as goal

pub loop-word-init : goal.loop-word-init
loop-word-init c = none_marked c.args.words.now

pub loop-word-preserved : goal.loop-word-preserved
loop-word-preserved c =
    next_marked c.args.words.now c.loop-word.word-index (record { ref_ptr = (0, 0); now = [] }) c.loop-word.marks c.loop-word-test.true c.loop-word.invariant c.in-Some.rtype c.from.result
    c.in-Some.ensures c.from.ensures

pub returns-in_default : goal.returns-in_default
returns-in_default c =
    none_small c.args.words.now c.loop-word.word-index (record { ref_ptr = (0, 0); now = [] }) c.loop-word.marks c.loop-word-test.true c.loop-word.invariant c.in_default.ensures

pub returns : goal.returns
returns c = all_marked c.args.words.now c.loop-word.word-index c.loop-word.marks c.loop-word-test.false c.loop-word.invariant
