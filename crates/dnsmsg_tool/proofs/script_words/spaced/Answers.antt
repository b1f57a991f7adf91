use Rattle.std.proofs.Common.{ℕ, List, [], ◌∷◌, ◌++◌, ◌∙◌, ap, sym, get_or}
use Rattle.dnsmsg_tool.proofs.ScriptLemmas.{spaced_more}
use Rattle.dnsmsg_tool.proofs.script_words.spaced.Goals as goal

pub loop-word-preserved : goal.loop-word-preserved
loop-word-preserved c =
    c.in_ok-push_str-2.ensures.bytes
    ∙ ap (λ (t : List ℕ). t ++ 32 ∷ [])
    (c.in_ok-push_str.ensures.bytes ∙ ap (λ (t : List ℕ). t ++ (get_or c.args.words.now c.loop-word.word-index (record { ref_ptr = (0, 0); now = [] })).now) c.loop-word.invariant)
    ∙ sym (spaced_more c.args.words.now c.loop-word.word-index (record { ref_ptr = (0, 0); now = [] }) c.loop-word-test.true)
