use Rattle.std.proofs.Common.{◌+◌, ◌-◌, ℕ, List, length, arith, ap, sym, ◌∙◌, refl}
use Rattle.std.specs.Prelude.{slice_range}
use Rattle.std.specs.Int.{to_le_bytes, w64}
use Rattle.std.proofs.lemmas.Bool.Decides.{Decides-eqb}
use Rattle.dnsm_read.proofs.SameOctets.{eight_there, same_more, same_numbers, same_whole}
use Rattle.dnsm_read.proofs.octets.same.Goals as goal

pub loop-i-init : goal.loop-i-init
loop-i-init c = (refl, omega arith)

pub loop-i-preserved : goal.loop-i-preserved
loop-i-preserved c =
    let a = c.args.a.now in
    let b = c.args.b.now in
    let i = c.loop-i.i in
    let x = c.number_in-x.ensures (eight_there a i (i + 8) refl (omega arith)) in
    let y = c.number_in-y.ensures (eight_there b i (i + 8) refl (omega arith)) in
    (same_more a b i c.loop-i.invariant.0 (sym x ∙ ap (to_le_bytes w64) c.if-x-y.false ∙ y), omega arith)

pub returns : goal.returns
returns c =
    let a = c.args.a.now in
    let b = c.args.b.now in
    let len = length a in
    let start = len - 8 in
    let x = c.number_in-last_a.ensures (eight_there a start len (omega arith) (omega arith)) in
    let y = c.number_in-last_b.ensures (eight_there b start len (omega arith) (omega arith)) in
    let decides = Decides-eqb c.number_in-last_a.result c.number_in-last_b.result in (
      λ yes. same_whole a b c.loop-i.i len refl (omega arith) (omega arith) (omega arith) c.loop-i.invariant.0 (sym x ∙ ap (to_le_bytes w64) (decides.0 yes) ∙ y),
      λ equal. decides.1 (same_numbers c.number_in-last_a.result c.number_in-last_b.result c.number_in-last_a.type_inv c.number_in-last_b.type_inv
          (x ∙ ap (λ (xs : List ℕ). slice_range xs start len) equal ∙ sym y)),
    )
