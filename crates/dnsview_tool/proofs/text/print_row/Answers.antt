use Rattle.std.proofs.Common.{◌∙◌, ◌++◌, ◌∷◌, [], Bool, MatchBool, refl, subst, sym}
use Rattle.dnsview_rows.specs.Rows.{row_octets}
use Rattle.dnsview_tool.specs.Texts.{IsLines, IsWords}
use Rattle.dns_lines.proofs.theory.AppendedTexts.{appends_both}
use Rattle.dns_lines.proofs.theory.PrintedLines.{on_ok}
use Rattle.dnsview_tool.proofs.Printables.{printable_same}
use Rattle.dnsview_tool.proofs.text.print_row.Goals as goal

pub print_lines-requires : goal.print_lines-requires
print_lines-requires g c = printable_same _ _ c.as_slice-words.ensures.value c.in_ok-words.ensures

pub returns-then-is_item : goal.returns-then-is_item
returns-then-is_item g c =
    let row = c.args.row.now in
    let words = c.as_slice-words.result.now in
    let text = words ++ 10 ∷ [] in
    let item = sym c.is_item.ensures ∙ c.if-is_item.true in
    let shown : IsWords text = (words, printable_same _ _ c.as_slice-words.ensures.value c.in_ok-words.ensures, refl) in
    on_ok c.write_all-then-is_item.result
    (λ ends. (
      text,
      subst (λ (b : Bool). MatchBool b (IsWords text) (IsLines row.start (row_octets c.args.message.now row) text)) (sym item) shown,
      appends_both _ _ _ _ _ c.in_ok-write_all.ensures.bytes ends,
    )) c.write_all-then-is_item.ensures.bytes
