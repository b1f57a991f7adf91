use Rattle.std.proofs.Common.{◌++◌, ◌∷◌, [], codes, refl}
use Rattle.dns_lines.proofs.theory.AppendedTexts.{appends_both}
use Rattle.dns_lines.proofs.theory.PrintedLines.{on_ok}
use Rattle.dnsview_tool.proofs.Appended.{appends_same}
use Rattle.dnsview_tool.proofs.failure.print_line.Goals as goal

pub returns : goal.returns
returns g c =
    let reason = c.args.reason.now in
    on_ok c.write_all-5.result
    (λ ends. (
      codes "dnsview: " ++ c.args.what.now ++ codes ": " ++ reason ++ 10 ∷ [],
      (reason, c.requires, refl),
      appends_both _ _ _ _ _
          (appends_both _ _ _ _ _
          (appends_both _ _ _ _ _
          (appends_both _ _ _ _ _ c.in_ok-write_all.ensures.bytes (appends_same _ _ _ _ c.as_bytes.ensures.value c.in_ok-write_all-2.ensures.bytes)) c.in_ok-write_all-3.ensures.bytes)
          c.in_ok-write_all-4.ensures.bytes)
          ends,
    )) c.write_all-5.ensures.bytes
