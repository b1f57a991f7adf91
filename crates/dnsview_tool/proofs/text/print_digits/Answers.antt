use Rattle.std.proofs.Common.{◌∷◌, []}
use Rattle.dnsview_tool.specs.Digits.{octet_text}
use Rattle.dns_lines.proofs.theory.AppendedTexts.{appends_both}
use Rattle.dnsview_tool.proofs.Appended.{appended_more}
use Rattle.dnsview_tool.proofs.text.print_digits.Goals as goal

pub loop-octet-preserved : goal.loop-octet-preserved
loop-octet-preserved g c =
    appended_more (λ octet. 32 ∷ octet_text octet) c.args.octets.now c.loop-octet.octet-index 0 _ _ _ c.loop-octet-test.true c.loop-octet.invariant
    (appends_both _ _ _ (32 ∷ []) _ c.in_ok-write_all.ensures.bytes c.in_ok-print_octet.ensures)
