use Rattle.std.proofs.Common.{refl, rules}
use Rattle.fields_text.proofs.theory.Printing.{none_printed, word_printed}
use Rattle.fields_lists.proofs.TypeTexts.{block_step}
use Rattle.fields_lists.proofs.theory.BlockLemmas.{block_shrinks}
use Rattle.fields_lists.proofs.type_map.write_type_map.Goals as goal

pub windows-init : goal.windows-init
windows-init g c = none_printed _ _ _ _ refl

pub windows-preserved : goal.windows-preserved
windows-preserved g c =
    let word = c.write_octets.ensures.text (search rules) in
    word_printed _ _ _ _ _ _ _ _ c.windows.invariant word (block_step c.windows.left.now c.in-Some.first c.in-Some.block.now c.in-Some.after.now c.in-Some.ensures.0)

pub windows-smaller : goal.windows-smaller
windows-smaller g c = block_shrinks c.windows.left.now c.in-Some.after.now _ c.in-Some.ensures.0
