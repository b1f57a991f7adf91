use Rattle.dnsview_tool.proofs.Printables.{printable_both, printable_same}
use Rattle.dnsview_tool.proofs.words.line_words.Goals as goal

pub brief-requires : goal.brief-requires
brief-requires c = printable_same _ _ c.as_slice-meaning.ensures.value c.in_ok-meaning.ensures

pub returns : goal.returns
returns c =
    let after = printable_same _ _ c.as_slice-after.ensures.value c.in_ok-after.ensures in
    printable_same _ _ c.in_ok-extend_from_slice.ensures.items (printable_both c.in_ok-words.words.items c.as_slice-after.result.now c.in_ok-words.ensures after)
