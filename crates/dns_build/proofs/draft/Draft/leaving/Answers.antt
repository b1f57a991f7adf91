use Rattle.std.proofs.Common.{◌+◌, ◌*◌, ◌-◌, ◌≤◌, ◌∙◌, [], ◌∷◌, ap, arith, length, subst, sym, take}
use Rattle.dns_wire.specs.Targets.{Written, overwrite}
use Rattle.dns_build.specs.BuilderStates.{IsMessage}
use Rattle.dns_build.specs.SectionStarts.{start_of}
use Rattle.dns_build.proofs.Messages.{header_clear, message-cut_to, message-overwrite}
use Rattle.dns_build.proofs.StartLemmas.{leaves-nothing, leaves-one, leaves-there}
use Rattle.dns_build.proofs.Steps.{depth_small}
use Rattle.dns_build.proofs.draft.Draft.leaving.Goals as goal

pub loop-left-init : goal.loop-left-init
loop-left-init g c = record {
  message = c.self.invariant.0;
  gone = rw (← c.self.view_is) (leaves-nothing _ _ _ _ _ _ (omega (arith, g.S.BuilderStage.depth)));
}

pub overflow_sub-section : goal.overflow_sub-section
overflow_sub-section g c = omega (arith, c.DEPTH-in-loop-left.ensures, c.loop-left-test.true, c.DEPTH.ensures)

pub count_offset-requires-clause-first : goal.count_offset-requires-clause-first
count_offset-requires-clause-first g c = omega (arith, c.DEPTH-in-loop-left.ensures, c.loop-left-test.true, c.DEPTH.ensures)

pub count_offset-requires-clause-last : goal.count_offset-requires-clause-last
count_offset-requires-clause-last g c = omega (arith, c.DEPTH-in-loop-left.ensures, g.S.BuilderStage.depth, depth_small g.S.BuilderStage.stage)

pub write_at-requires-clause-within : goal.write_at-requires-clause-within
write_at-requires-clause-within g c =
    let cut = message-cut_to _ c.of.result (c.of.ensures.after c.self.invariant.1) c.loop-left.invariant.message in
    let long = cut.long in
    let capacity : c.count_offset.result + 2 ≤ length (take c.of.result (g.T.Composer.written c.loop-left.target).octets) = omega (arith, c.count_offset.ensures.in_header) in
    subst (λ (w : Written). c.count_offset.result + 2 ≤ length w.octets) (sym c.truncate.ensures.cut) capacity

pub write_at-requires-clause-clear : goal.write_at-requires-clause-clear
write_at-requires-clause-clear g c =
    header_clear _ c.count_offset.result 2 c.count_offset.ensures.in_header
    (subst IsMessage (sym c.truncate.ensures.cut) (message-cut_to _ c.of.result (c.of.ensures.after c.self.invariant.1) c.loop-left.invariant.message))

pub loop-left-preserved : goal.loop-left-preserved
loop-left-preserved g c =
    let cut = message-cut_to _ c.of.result (c.of.ensures.after c.self.invariant.1) c.loop-left.invariant.message in
    let long = cut.long in
    let capacity : c.count_offset.result + 2 ≤ length (take c.of.result (g.T.Composer.written c.loop-left.target).octets) = omega (arith, c.count_offset.ensures.in_header) in
    let is = c.write_at.ensures ∙ ap (overwrite c.count_offset.result (0 ∷ 0 ∷ [])) c.truncate.ensures.cut in
    record {
      message = subst IsMessage (sym is) (message-overwrite c.count_offset.result (0 ∷ 0 ∷ []) _ capacity cut);
      gone = leaves-one _ _ _ (g.S.BuilderStage.DEPTH - c.loop-left.left) _ _ _ _ _ _ _
          (omega (arith, c.loop-left-test.true, c.DEPTH.ensures))
          (omega (arith, c.loop-left-test.true, c.DEPTH.ensures, g.S.BuilderStage.depth, depth_small g.S.BuilderStage.stage))
          (c.count_offset.ensures.value ∙ (λ i. 2 + 2 * (c.DEPTH-in-loop-left.ensures i - c.loop-left.left)))
          (c.of.ensures.value ∙ (λ i. start_of (c.DEPTH-in-loop-left.ensures i - c.loop-left.left) c.self.inside.starts))
          is c.loop-left.invariant.gone;
    }

pub invariant_of-result : goal.invariant_of-result
invariant_of-result g c = (c.loop-left.invariant.message, c.self.invariant.1)

pub returns : goal.returns
returns g c =
    leaves-there _ _ _ (g.S.BuilderStage.DEPTH - c.loop-left.left) _ _ _ _
    (omega (arith, c.loop-left-test.false, c.loop-left.auto.left-end, c.DEPTH.ensures, c.DEPTH-2.ensures, c.requires, g.B.BuilderStage.depth))
    c.loop-left.invariant.gone
