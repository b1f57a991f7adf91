use Rattle.std.proofs.Common.{◌≡◌, ◌∙◌, [], ◌∷◌, ◌++◌, List, ℕ, ap, arith}
use Rattle.std.specs.Fmt.{styled_decimal}
use Rattle.std.proofs.lemmas.Bool.Decides.{nat_tests}
use Rattle.std.proofs.lemmas.List.{nil_from_length}
use Rattle.dnsview_tool.proofs.Appended.{appends_same}
use Rattle.dnsview_tool.proofs.TextLines.{none_done, one_done, last_done, parts_of, offset_padded}
use Rattle.dnsview_tool.proofs.text.print_lines.Goals as goal

pub loop-octets_left-init : goal.loop-octets_left-init
loop-octets_left-init g c = (
  none_done _ _ _ _ (appends_same _ _ _ _
      (ap (λ s. styled_decimal s c.args.start ++ 32 ∷ []) c.laid_out.ensures ∙ ap (λ (l : List ℕ). l ++ 32 ∷ []) (offset_padded c.args.start)) c.in_ok-write.ensures.bytes),
  c.requires,
)

pub returns-then-is_empty-2 : goal.returns-then-is_empty-2
returns-then-is_empty-2 g c =
    let none : c.split_at.result.1.now ≡ [] = nil_from_length _ (grind (arith, nat_tests, c.is_empty.ensures, c.if-is_empty.true)) in
    last_done _ _ c.loop-octets_left.octets_left.now c.split_at.result.0.now c.split_at.result.1.now _ _ _ _ c.loop-octets_left.invariant.0
    (parts_of _ _ _ _ c.split_at.ensures.front c.split_at.ensures.back) none (omega (arith, c.split_at.ensures.front_len, c.min.ensures))
    c.split_line.ensures.fits (c.split_line.ensures.printable c.loop-octets_left.invariant.1).0 c.in_ok-print_line.ensures

pub loop-octets_left-preserved : goal.loop-octets_left-preserved
loop-octets_left-preserved g c = (
  one_done _ _ c.loop-octets_left.octets_left.now c.split_at.result.0.now c.split_at.result.1.now _ _ _ _ _ c.loop-octets_left.invariant.0
      (parts_of _ _ _ _ c.split_at.ensures.front c.split_at.ensures.back) (omega (arith, c.split_at.ensures.front_len, c.min.ensures)) c.split_line.ensures.fits
      (c.split_line.ensures.printable c.loop-octets_left.invariant.1).0 c.in_ok-print_line.ensures c.in_ok-write-2.ensures.bytes,
  (c.split_line.ensures.printable c.loop-octets_left.invariant.1).1,
)
