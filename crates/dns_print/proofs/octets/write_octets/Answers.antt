use Rattle.std.proofs.Common.{◌≡◌, ◌∙◌, ◌≤◌, ◌+◌, ◌-◌, ◌++◌, ℕ, IsAscii, List, refl, ap, subst, sym, take, drop, length}
use native.Mathlib.Omega.{arith}
use Rattle.std.proofs.Math.Nat.{add-sub_cancel_left}
use Rattle.std.proofs.Math.Numerals.{add-one-le}
use Rattle.std.proofs.lemmas.List.{length-drop}
use Rattle.std.specs.List.{flat_map}
use Rattle.dns_print.specs.Octets.{AllPlain}
use Rattle.dns_print.proofs.octets.write_octets.Goals as goal
use Rattle.dns_print.proofs.theory.PlainRuns.{plain_are_ascii, rest_of, text_with_one, text_with_run}
use Rattle.dns_print.proofs.theory.Prints.{print_two}

pub loop-start-preserved-then-plain-eq0 : goal.loop-start-preserved-then-plain-eq0
loop-start-preserved-then-plain-eq0 g c =
    let text = g.O.OctetText.text_of in
    let whole = text_with_one text c.args.octets.now c.loop-start.start 0 c.loop-start-test.true in
    (add-one-le c.loop-start-test.true, print_two g.T.TextWriter.takes _ _ _ _ _ _ c.loop-start.invariant.1 (c.in_ok-write_octet.ensures.text refl) whole)

-- The octets of a run, as it is passed.
run : (octets : List ℕ) (i k : ℕ) → take k (drop i octets) ≡ take (i + k - i) (drop i octets)
run octets i k = ap (λ (n : ℕ). take n (drop i octets)) (sym (add-sub_cancel_left i k))

-- They are plain.
plain_run : (text : ℕ → List ℕ) (octets : List ℕ) (i k : ℕ) → AllPlain text (take k (take (length octets - i) (drop i octets))) → AllPlain text (take k (drop i octets))
plain_run text octets i k plain = subst (λ (rest : List ℕ). AllPlain text (take k rest)) (rest_of octets i) plain

pub write_ascii-requires : goal.write_ascii-requires
write_ascii-requires g c =
    let text = g.O.OctetText.text_of in
    let octets : List ℕ = c.args.octets.now in
    let i = c.loop-start.start in
    let k = c.plain_len-plain.result in
    subst IsAscii (run octets i k) (plain_are_ascii text (take k (drop i octets)) (plain_run text octets i k c.plain_len-plain.ensures.plain))

-- The run ends within the octets.
run_end : (octets : List ℕ) (i k : ℕ) → i ≤ length octets → k ≤ length (take (length octets - i) (drop i octets)) → i + k ≤ length octets
run_end octets i k within bound =
    let left : k ≤ length octets - i = subst (λ (n : ℕ). k ≤ n) (ap length (rest_of octets i) ∙ length-drop i octets) bound in
    omega (arith, left, within)

pub loop-start-preserved : goal.loop-start-preserved
loop-start-preserved g c =
    let text = g.O.OctetText.text_of in
    let octets : List ℕ = c.args.octets.now in
    let i = c.loop-start.start in
    let k = c.plain_len-plain.result in
    let plain = plain_run text octets i k c.plain_len-plain.ensures.plain in
    let whole = ap (λ (l : List ℕ). flat_map text (take i octets) ++ l) (sym (run octets i k)) ∙ text_with_run text octets i k plain in (
      run_end octets i k c.loop-start.invariant.0 c.plain_len-plain.ensures.bound,
      print_two g.T.TextWriter.takes _ _ _ _ _ _ c.loop-start.invariant.1 (c.in_ok-write_ascii.ensures.text refl) whole,
    )
