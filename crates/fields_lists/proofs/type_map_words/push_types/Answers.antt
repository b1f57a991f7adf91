use Rattle.std.proofs.Common.{◌≡◌, ◌++◌, ◌∷◌, [], arith}
use Rattle.std.specs.Prelude.{Ok, Err}
use Rattle.std.proofs.lemmas.Grind.{common_steps}
use Rattle.fields_text.specs.declared.text_error.TextError.TheVariants.{BadWord}
use Rattle.fields_lists.proofs.TypeMapLemmas.{type_at, type_wrong, types_end, why_types}
use Rattle.fields_lists.proofs.type_map_words.push_types.Goals as goal

pub loop-word-init : goal.loop-word-init
loop-word-init c = λ new result all. all

pub loop-word-preserved : goal.loop-word-preserved
loop-word-preserved c = λ new result after.
    let pushed : c.push.new.self.items ≡ c.loop-word.types.items ++ c.in-Some.rtype ∷ [] = grind (arith, common_steps) in
    c.loop-word.invariant new result
    (type_at c.args.words.now c.loop-word.word-index (record { ref_ptr = (0, 0); now = [] }) c.loop-word-test.true c.loop-word.types.items c.push.new.self.items
    new c.in-Some.rtype result c.in-Some.ensures pushed after)

pub returns-in_default : goal.returns-in_default
returns-in_default c =
    c.loop-word.invariant c.loop-word.types.items (Err BadWord)
    (type_wrong c.args.words.now c.loop-word.word-index (record { ref_ptr = (0, 0); now = [] }) c.loop-word-test.true c.loop-word.types.items c.loop-word.types.items c.in_default.ensures)

pub returns-then-is_err : goal.returns-then-is_err
returns-then-is_err c = why_types c.args.words.now c.are_types.result c.failure.result c.failure.ensures c.are_types.ensures

pub returns : goal.returns
returns c = c.loop-word.invariant c.loop-word.types.items (Ok tt) (types_end c.args.words.now c.loop-word.word-index c.loop-word.types.items tt c.loop-word-test.false)
