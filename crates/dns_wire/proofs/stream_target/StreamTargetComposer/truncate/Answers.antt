use Rattle.std.proofs.Common.{◌≡◌, ◌-◌, ℕ, List, ap, arith, length, length-drop, sym, ◌∙◌}
use Rattle.dns_wire.proofs.theory.CompressionTables.{clear_plain, nothing_is_kept}
use Rattle.dns_wire.proofs.Streams.{shortened, kept_whole}
use Rattle.dns_wire.proofs.stream_target.StreamTargetComposer.truncate.Goals as goal

pub write_at-requires-clause-clear : goal.write_at-requires-clause-clear
write_at-requires-clause-clear g c = clear_plain _ _ _ (g.met.T.Composer.plain_forgets c.self.invariant.plain _)

pub returns-then-len-as_slice-clause-cut : goal.returns-then-len-as_slice-clause-cut
returns-then-len-as_slice-clause-cut g c = shortened _ _ _ _ _ _ (ap length c.to_be_bytes.ensures) c.truncate.ensures.cut c.write_at.ensures c.self.view_is

pub returns-else-len-as_slice-clause-cut : goal.returns-else-len-as_slice-clause-cut
returns-else-len-as_slice-clause-cut g c =
    let e : length c.args.self.now ≡ length c.as_slice.result.now - 2 = ap length (sym c.self.view_is) ∙ length-drop 2 _ ∙ ap (λ (xs : List ℕ). length xs - 2) (sym c.as_slice.ensures.octets) in
    kept_whole _ _ (omega arith)

pub returns-then-len-as_slice-clause-is_target : goal.returns-then-len-as_slice-clause-is_target
returns-then-len-as_slice-clause-is_target g c = nothing_is_kept _

pub returns-else-len-as_slice-clause-is_target : goal.returns-else-len-as_slice-clause-is_target
returns-else-len-as_slice-clause-is_target g c = nothing_is_kept _
