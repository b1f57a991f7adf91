use Rattle.std.proofs.Common.{◌∙◌, [], refl, sym}
use Rattle.fields_lines.proofs.ProblemLemmas.{own_done, own_next, own_relative}
use Rattle.fields_lines.specs.Lines.{text_of_name}
use Rattle.fields_lines.proofs.problem.relative_in_own.Goals as goal

pub loop-index-init : goal.loop-index-init
loop-index-init c = λ done. (done, refl)

pub returns-then-is_relative : goal.returns-then-is_relative
returns-then-is_relative c = λ done.
    let so_far = c.loop-index.invariant done in
    so_far.1
    ∙ own_relative (text_of_name c.args.origin) c.args.at c.args.way c.args.own.now c.loop-index.index (record { ref_ptr = (0, 0); now = [] }) c.word_way.result so_far.0 c.word_way.ensures
    c.loop-index-test.true (sym c.is_relative.ensures ∙ c.if-is_relative.true)

pub loop-index-preserved : goal.loop-index-preserved
loop-index-preserved c = λ done.
    let so_far = c.loop-index.invariant done in
    let next =
    own_next (text_of_name c.args.origin) c.args.at c.args.way c.args.own.now c.loop-index.index (record { ref_ptr = (0, 0); now = [] }) c.word_way.result so_far.0 c.word_way.ensures
    c.loop-index-test.true (sym c.is_relative.ensures ∙ c.if-is_relative.false) in
    (next.0, so_far.1 ∙ next.1)

pub returns : goal.returns
returns c = λ done.
    let so_far = c.loop-index.invariant done in (
      so_far.0,
      so_far.1
          ∙ own_done (text_of_name c.args.origin) c.args.at c.args.way c.args.own.now c.loop-index.index (record { ref_ptr = (0, 0); now = [] }) so_far.0 c.loop-index-test.false,
    )
