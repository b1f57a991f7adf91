use Rattle.std.proofs.Common.{◌≡◌, ◌+◌, ◌-◌, length, length-drop, ℕ, List, take, drop, get_or, arith, ap, sym, ◌∙◌, refl, subst}
use Rattle.std.proofs.lemmas.List.{length-take-le}
use Rattle.std.proofs.lemmas.Option.{IfSome_then}
use Rattle.dnsm_put.specs.Writing.{LeadsTo, IsPut}
use Rattle.dns_name.specs.Names.{uncompressed}
use Rattle.dnsm_put.proofs.Hints.{hints_later}
use Rattle.dnsm_put.proofs.Steps.{Progress, next_label, no_progress}
use Rattle.dnsm_put.proofs.Buffers.{all_left, kept_put, length_put}
use Rattle.dnsm_put.proofs.NamesWritten.{name_some, written_by_pointer, written_whole}
use Rattle.dnsm_put.proofs.names.put_name.Goals as goal

pub returns-in-Some-clause-named : goal.returns-in-Some-clause-named
returns-in-Some-clause-named c = IfSome_then c.put_octets-in-Some.result c.put_octets-in-Some.ensures.put (λ q put n is e.
    let i = c.loop-i.i in
    let offset = c.in-Some.offset in
    let octets = c.args.name.now in
    let l : length c.loop-i.out ≡ length c.args.out.now = ap length c.loop-i.invariant.0 in
    let P : List ℕ → Type 0 = λ xs. LeadsTo (take c.args.top c.loop-i.out) offset xs in
    let leads : LeadsTo (take c.args.top c.loop-i.out) offset (drop i octets) = subst P (all_left octets i) c.in-Some.ensures.leads in
    let Q : List ℕ → Type 0 = λ xs. IsPut c.put_octets.new.out c.put_octets-in-Some.new.out c.in_ok-end.end c.args.most xs q in
    written_by_pointer c.loop-i.out c.put_octets.new.out c.put_octets-in-Some.new.out c.args.top c.args.at c.args.most c.in_ok-end.end q i offset octets n
    (c.loop-i.invariant.1 n is e) c.if-name-i-ne0.true is e (omega arith) (omega arith) (omega arith) c.in_ok-end.ensures.put (subst Q c.pointer_to.ensures put) leads)

pub loop-i-preserved : goal.loop-i-preserved
loop-i-preserved c = (
  c.loop-i.invariant.0,
  λ n is e.
      let i = c.loop-i.i in
      let k = get_or c.args.name.now i 0 in
      let j : i + 1 + k ≡ i + (1 + c.from.result) = omega arith in
      subst (λ m. Progress c.args.name.now n m) j (next_label c.args.name.now n i k (c.loop-i.invariant.1 n is e) refl c.if-name-i-ne0.true).next,
  λ h.
      let own = c.args.at + c.loop-i.i in
      let end = c.args.at + (c.loop-i.i + (1 + c.from.result)) in
      c.find.ensures.hints end (omega arith) (omega arith) (hints_later c.loop-i.hints own end (omega arith) (c.loop-i.invariant.2 h)),
)

pub loop-i-init : goal.loop-i-init
loop-i-init c = (
  refl,
  λ n is e. no_progress c.args.name.now n is e,
  λ h. hints_later c.args.hints.now c.args.at (c.args.at + 0) (omega arith) h,
)

pub returns-in-Some-clause-hints : goal.returns-in-Some-clause-hints
returns-in-Some-clause-hints c = IfSome_then c.put_octets-in-Some.result c.put_octets-in-Some.ensures.put (λ q put h.
    let ends = put.ends in
    let first = c.in_ok-end.ensures.put.ends in
    let labels = length-take-le c.loop-i.i c.args.name.now (omega arith) in
    c.find.ensures.hints q (omega arith) (omega arith) (hints_later c.loop-i.hints (c.args.at + c.loop-i.i) q (omega arith) (c.loop-i.invariant.2 h)))

pub returns-clause-hints : goal.returns-clause-hints
returns-clause-hints c = IfSome_then c.put_octets-2.result c.put_octets-2.ensures.put (λ q put h.
    let ends = put.ends in
    let name = c.args.name.now in
    let u = c.requires.name in
    let p = c.loop-i.invariant.1 u.0 u.1 (sym u.2) in
    let some = name_some p.left in
    let left : length (uncompressed p.left) ≡ length name - c.loop-i.i = ap length p.rest ∙ length-drop c.loop-i.i name in
    hints_later c.loop-i.hints (c.args.at + c.loop-i.i) q (omega arith) (c.loop-i.invariant.2 h))

pub returns-clause-named : goal.returns-clause-named
returns-clause-named c = IfSome_then c.put_octets-2.result c.put_octets-2.ensures.put (λ q put n is e.
    let l : length c.loop-i.out ≡ length c.args.out.now = ap length c.loop-i.invariant.0 in
    written_whole c.loop-i.out c.put_octets-2.new.out c.args.top c.args.at c.args.most q c.args.name.now n is e (omega arith) (omega arith) put)

pub returns-clause-kept : goal.returns-clause-kept
returns-clause-kept c =
    let l : length c.loop-i.out ≡ length c.args.out.now = ap length c.loop-i.invariant.0 in
    kept_put c.put_octets-2.result c.loop-i.out c.put_octets-2.new.out c.args.at c.args.at c.args.most c.args.name.now (omega arith)
    (omega arith) c.put_octets-2.ensures.put c.put_octets-2.ensures.same ∙ ap (take c.args.at) c.loop-i.invariant.0

pub returns-in-Some-clause-kept : goal.returns-in-Some-clause-kept
returns-in-Some-clause-kept c =
    let l : length c.loop-i.out ≡ length c.args.out.now = ap length c.loop-i.invariant.0 in
    let put = c.in_ok-end.ensures.put in
    let e = put.ends in
    let m = length_put c.loop-i.out c.put_octets.new.out c.args.at c.args.most c.in_ok-end.end _ (omega arith) put in
    kept_put c.put_octets-in-Some.result c.put_octets.new.out c.put_octets-in-Some.new.out c.in_ok-end.end c.args.at c.args.most c.pointer_to.result
    (omega arith) (omega arith) c.put_octets-in-Some.ensures.put c.put_octets-in-Some.ensures.same
    ∙ kept_put c.put_octets.result c.loop-i.out c.put_octets.new.out c.args.at c.args.at c.args.most _ (omega arith) (omega arith) c.put_octets.ensures.put c.put_octets.ensures.same
    ∙ ap (take c.args.at) c.loop-i.invariant.0
