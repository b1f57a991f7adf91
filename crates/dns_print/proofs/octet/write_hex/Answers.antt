use Rattle.std.proofs.Common.{◌∙◌, ◌≤◌, ◌-◌, ◌++◌, ℕ, List, refl, ap, subst, sym, take, length}
use native.Mathlib.Omega.{arith}
use Rattle.std.proofs.Math.Nat.{min-le_left}
use Rattle.std.specs.List.{flat_map}
use Rattle.dns_print.specs.Digits.{hex_digits}
use Rattle.dns_print.proofs.octet.write_hex.Goals as goal
use Rattle.dns_print.proofs.theory.PlainRuns.{text_of_parts}
use Rattle.dns_print.proofs.theory.Prints.{print_two}

pub loop-start-preserved : goal.loop-start-preserved
loop-start-preserved g c =
    let octets : List ℕ = c.args.octets.now in
    let i = c.loop-start.start in
    let k = c.min-len.result in
    let less : k ≤ length octets - i = subst (λ (n : ℕ). n ≤ length octets - i) (sym c.min-len.ensures) (min-le_left (length octets - i) 32) in
    let digits = c.deref.ensures.0 ∙ c.hex_block.ensures.digits in
    let whole = ap (λ (l : List ℕ). flat_map (hex_digits c.args.upper) (take i octets) ++ l) digits ∙ text_of_parts (hex_digits c.args.upper) octets i k in
    (omega (arith, less, c.loop-start.invariant.0), print_two g.T.TextWriter.takes _ _ _ _ _ _ c.loop-start.invariant.1 (c.in_ok-write_ascii.ensures.text refl) whole)
