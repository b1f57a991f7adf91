use Rattle.std.proofs.Common.{◌∙◌, ap, arith, length, sym}
use Rattle.std.specs.Prelude.{Result, Err}
use Rattle.dns_build.specs.declared.push_error.PushError.{PushError}
use Rattle.dns_transfer_writer.proofs.FillLemmas.{filling-begins, filling-ends, filling-goes, filling-stops, not-full}
use Rattle.dns_transfer_writer.proofs.fill.fill.Goals as goal

pub records-init : goal.records-init
records-init g c = record { filling = λ s h. filling-begins _ g.T.Composer.grows _ s _ _ h }

pub records-smaller : goal.records-smaller
records-smaller g c = let fewer = ap length c.in-Some.ensures in omega (arith, fewer)

pub records-preserved : goal.records-preserved
records-preserved g c = record {
  filling = λ s h.
      let push = c.in_default-push_ref.ensures in
      filling-goes _ g.T.Composer.grows _ s _ _ _ _ _ _ c.in-Some.ensures push.outcome.each push.accepted (c.records.invariant.filling s h);
}

pub returns-then-is_full-clause-filled : goal.returns-then-is_full-clause-filled
returns-then-is_full-clause-filled g c = λ s h.
    let push = c.in-Err.ensures in
    filling-stops _ g.T.Composer.grows _ s _ _ _ _ c.in-Err.error _ _ c.in-Some.ensures (sym c.is_full.ensures ∙ c.if-is_full.true) push.outcome.each push.refused (c.records.invariant.filling s h)

pub returns-in-Err-clause-memory : goal.returns-in-Err-clause-memory
returns-in-Err-clause-memory g c =
    let out = not-full c.in-Err.error (sym c.is_full.ensures ∙ c.if-is_full.false) in
    (out, c.in-Err.ensures.outcome.memory (ap (λ (e : PushError). let result : Result (Unit {0}) PushError = Err e in result) out))

pub returns-clause-filled : goal.returns-clause-filled
returns-clause-filled g c = λ s h. filling-ends _ g.T.Composer.grows _ s _ _ _ c.in_default.ensures (c.records.invariant.filling s h)
