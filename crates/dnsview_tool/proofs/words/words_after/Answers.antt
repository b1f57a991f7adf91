use Rattle.std.proofs.Common.{codes, refl}
use Rattle.dnsview_tool.proofs.Printables.{printable_both, printable_same}
use Rattle.dnsview_tool.proofs.words.words_after.Goals as goal

pub loop-row-preserved : goal.loop-row-preserved
loop-row-preserved c =
    let comma = printable_same _ _ c.in_ok-extend_from_slice.ensures.items (printable_both c.loop-row.words.items (codes ", ") c.loop-row.invariant refl) in
    let meaning = printable_same _ _ c.as_slice.ensures.value c.in_ok-meaning.ensures in
    printable_same _ _ c.in_ok-extend_from_slice-2.ensures.items (printable_both c.extend_from_slice.new.self.items c.as_slice.result.now comma meaning)
