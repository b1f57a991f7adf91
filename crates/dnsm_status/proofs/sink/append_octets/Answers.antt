use Rattle.std.proofs.Common.{◌∙◌, ◌+◌, ◌++◌, ℕ, List, ap, arith, refl, take, length}
use Rattle.std.proofs.lemmas.List.{places}
use Rattle.std.proofs.lemmas.Slice.{take-put_mid}
use Rattle.dnsm_status.proofs.theory.PieceLemmas.{too_long, written}
use Rattle.dnsm_status.proofs.sink.append_octets.Goals as goal

pub returns-then-end-out : goal.returns-then-end-out
returns-then-end-out c = λ text h. too_long c.args.out.now text c.args.octets.now c.args.end _ (omega arith) c.saturating_add.ensures h

pub returns : goal.returns
returns c =
    λ text h.
    written c.args.out.now _ text c.args.octets.now c.args.end _ (omega arith) (grind (arith, places)) refl (grind (arith, places))
    (take-put_mid c.args.end _ c.args.out.now c.copy_from_slice.new.self (c.args.end + length c.args.octets.now)
    (omega (arith, ap length c.copy_from_slice.ensures.after)) (omega arith) ∙ ap (λ (t : List ℕ). take c.args.end c.args.out.now ++ t) c.copy_from_slice.ensures.after)
    h
