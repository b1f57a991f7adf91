use Rattle.std.proofs.Common.{◌≡◌, false, List, ℕ, [], ◌∷◌, ◌++◌, take, bytes_eq, ap, refl, subst, codes, arith, rules}
use Rattle.std.proofs.lemmas.Slice.Eq.{bytes_eq-Decides}
use Rattle.std.specs.Fmt.{WritesInCalls}
use Rattle.std.specs.Net.Text.{hex_groups_text, ipv4_text, ipv6_text}
use Rattle.dns_print.proofs.theory.Prints.{print_two}
use Rattle.fields_plain.proofs.address.write_ipv6.Goals as goal

pub returns-in_ok-write_text-in-Some-clause-text : goal.returns-in_ok-write_text-in-Some-clause-text
unfolding ipv6_text
returns-in_ok-write_text-in-Some-clause-text g c = λ ok.
    let mapped = (bytes_eq-Decides _ _).1 (c.in-Some.ensures.found.0 refl) in
    let first = c.write_text.ensures.text (search rules) in
    let second = c.write_ipv4.ensures.text ok in
    rw (mapped, ← c.in-Some.ensures.value) (print_two _ _ _ _ _ _ _ first second (ap (λ (o : List ℕ). codes "::ffff:" ++ ipv4_text o) c.octets.ensures))

pub returns-in-None-clause-text : goal.returns-in-None-clause-text
unfolding ipv6_text
returns-in-None-clause-text g c = λ ok.
    let other : bytes_eq (take 6 c.args.address.segments) (0 ∷ 0 ∷ 0 ∷ 0 ∷ 0 ∷ 0xffff ∷ []) ≡ false =
    grind (arith, bytes_eq-Decides (take 6 c.args.address.segments) (0 ∷ 0 ∷ 0 ∷ 0 ∷ 0 ∷ 0xffff ∷ []), c.in-None.ensures.found) in
    rw other (subst (λ (s : List ℕ). WritesInCalls g.W.TextWriter.takes c.args.f.now (hex_groups_text s) c.write_segments.new.f) c.segments.ensures (c.write_segments.ensures.text ok))
