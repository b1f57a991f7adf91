use Rattle.std.proofs.Common.{◌+◌, ◌*◌, get_or, arith, refl}
use Rattle.dnsm_put.proofs.Steps.{reached_none, reached_pointer, reached_label, reached_root, reached_at, same_range}
use Rattle.dnsm_put.proofs.names.leads_to.Goals as goal
use Rattle.dnsm_put.proofs.names.leads_to.Goals.{then-n-ge192+else-octets-at-lt2+else-to-at, else-n-ge192+else-n-name+else-n-eq0+else-size-octets+else-size-name+else-not-same}

pub loop-step-init : goal.loop-step-init
loop-step-init c = λ n is e. reached_none _ _ _ n is e

pub returns-then-n-eq0 : goal.returns-then-n-eq0
returns-then-n-eq0 c = λ t n is e.
    reached_root c.args.octets.now c.args.offset c.args.name.now n c.loop-step.at c.loop-step.i (c.loop-step.invariant n is e) (omega arith) (omega arith) (omega arith) (omega arith)

pub loop-step-preserved : goal.loop-step-preserved
loop-step-preserved c = λ n is e. elim c.if-n-ge192.branch [
  | then-n-ge192+else-octets-at-lt2+else-to-at w ↦
      let b = c.args.octets.now in
      let at = c.loop-step.at in
      let i = c.loop-step.i in
      let to = w.from.result * 256 + w.from-then-n-ge192.result in
      reached_at b c.args.offset c.args.name.now n to i _ _
      (reached_pointer b c.args.offset c.args.name.now n at i (get_or b at 0) (get_or b (at + 1) 0) to (c.loop-step.invariant n is e)
      (omega arith) (omega arith) refl refl (omega arith) (omega (arith, c.type_inv.octets at)) (omega (arith, c.type_inv.octets (at + 1))) (omega arith) (omega arith))
      w.at-is w.i-is
  | else-n-ge192+else-n-name+else-n-eq0+else-size-octets+else-size-name+else-not-same w ↦
      let b = c.args.octets.now in
      let at = c.loop-step.at in
      let i = c.loop-step.i in
      let k = get_or b at 0 in
      reached_at b c.args.offset c.args.name.now n (at + 1 + k) (i + 1 + k) _ _
      (reached_label b c.args.offset c.args.name.now n at i k (c.loop-step.invariant n is e) (omega arith) (omega arith) (omega arith) (omega arith)
      (same_range b c.args.name.now at i w.from-size.result k (omega arith) (w.same.ensures.0 w.if-not-same.false))) (omega arith) (omega arith)
]
