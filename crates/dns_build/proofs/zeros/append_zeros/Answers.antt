use Rattle.std.proofs.Common.{◌∙◌, ℕ, ◌-◌, Err, List, ap, arith, length, replicate, subst, sym}
use Rattle.std.proofs.lemmas.List.{take-replicate}
use Rattle.dns_wire.specs.Encoders.{encode_octets}
use Rattle.dns_wire.specs.Targets.{Appends, Fits, Written, append}
use Rattle.dns_build.proofs.ReservedLemmas.{zeros-appended, zeros-more, zeros-none, zeros-refused}
use Rattle.dns_build.proofs.zeros.append_zeros.Goals as goal

pub loop-left-init : goal.loop-left-init
loop-left-init g c = record {
  few = omega (arith, c.from-left.ensures);
  zeros = zeros-none (c.args.count - c.from-left.result) _ (omega (arith, c.from-left.ensures));
  fits = c.as_slice-so_far.ensures.fits;
}

pub loop-left-preserved : goal.loop-left-preserved
loop-left-preserved g c =
    let l = c.loop-left in
    let a = c.in_default.ensures in
    record {
      few = omega (arith, l.invariant.few);
      zeros = a.ok ∙ ap (λ (xs : List ℕ). append (encode_octets xs) (g.T.Composer.written l.target)) (take-replicate c.min-more.result 64 0 (omega (arith, c.min-more.ensures)))
          ∙ ap (append (encode_octets (replicate c.min-more.result 0))) l.invariant.zeros
          ∙ zeros-more (c.args.count - l.left) c.min-more.result (c.args.count - (l.left - c.min-more.result)) _ (omega (arith, l.invariant.few, c.min-more.ensures));
      fits = subst (λ (w : Written). Fits g.T.Composer.capacity (length w.octets)) (sym a.ok) a.outcome;
    }

pub returns-in-Err : goal.returns-in-Err
returns-in-Err g c =
    let l = c.loop-left in
    zeros-refused _ _ _ _ _ c.args.count (c.args.count - l.left) c.min-more.result c.in-Err.error l.invariant.zeros (omega (arith, l.invariant.few, c.min-more.ensures))
    (subst (λ (xs : List ℕ). Appends g.T.Composer.capacity g.T.Composer.grows (encode_octets xs) (g.T.Composer.written l.target) (g.T.Composer.written c.append_slice.new.self)
    {X = Unit {0}} (Err c.in-Err.error)) (take-replicate c.min-more.result 64 0 (omega (arith, c.min-more.ensures))) c.in-Err.ensures)

pub returns : goal.returns
returns g c =
    let l = c.loop-left in
    zeros-appended _ _ _ _ c.args.count (c.args.count - l.left) (omega arith) l.invariant.zeros l.invariant.fits
