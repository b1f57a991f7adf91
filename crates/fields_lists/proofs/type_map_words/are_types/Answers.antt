use Rattle.std.proofs.Common.{[]}
use Rattle.fields_lists.proofs.TypeMapLemmas.{types_all, types_left, types_none}
use Rattle.fields_lists.proofs.type_map_words.are_types.Goals as goal

pub loop-word-init : goal.loop-word-init
loop-word-init c = (λ all. all, λ all. all)

pub loop-word-preserved : goal.loop-word-preserved
loop-word-preserved c = types_left c.args.words.now c.loop-word.word-index (record { ref_ptr = (0, 0); now = [] }) c.loop-word-test.true c.in-Some._rtype c.in-Some.ensures c.loop-word.invariant

pub returns-in_default : goal.returns-in_default
returns-in_default c = types_none c.args.words.now c.loop-word.word-index (record { ref_ptr = (0, 0); now = [] }) c.loop-word-test.true c.in_default.ensures c.loop-word.invariant

pub returns : goal.returns
returns c = types_all c.args.words.now c.loop-word.word-index c.loop-word-test.false c.loop-word.invariant
