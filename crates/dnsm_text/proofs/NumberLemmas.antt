-- Numbers without a name.
use Rattle.std.proofs.Common.{◌≡◌, ℕ, ◌==◌, ◌≤◌, true, false, [], ◌∷◌, refl, ap, ◌∙◌, arith}
use Rattle.std.specs.Prelude.{None, nat_lt, option_map, find, Some}
use Rattle.std.specs.List.{list_all}
use Rattle.std.proofs.lemmas.Bool.{and_parts, cond-false, ltb-true}
use Rattle.std.proofs.lemmas.Bool.Decides.{nat_tests}
use Rattle.dns_iana.specs.Mnemonics.{Mnemonics, mnemonic}
use Rattle.dns_iana.specs.Registry.{registered_opt_rcodes}

-- a number that isn't below the numbers of a table isn't among them
not_found : (names : Mnemonics) (limit n : ℕ) → list_all (λ entry. nat_lt entry.0 limit) names ≡ true → limit ≤ n → find (λ entry. entry.0 == n) names ≡ None
not_found [] limit n all above = refl
not_found (entry ∷ names) limit n all above =
    let parts = and_parts (nat_lt entry.0 limit) (list_all (λ other. nat_lt other.0 limit) names) all in
    let low = ltb-true entry.0 limit parts.0 in
    let other : (entry.0 == n) ≡ false = grind (arith, nat_tests) in
    cond-false (entry.0 == n) (Some entry) (find (λ other. other.0 == n) names) other ∙ not_found names limit n parts.1 above

-- No number from 4,096 on is an extended rcode with a name.
pub no_rcode : (n : ℕ) → 4096 ≤ n → mnemonic registered_opt_rcodes n ≡ None
unfolding registered_opt_rcodes
no_rcode n above = ap (option_map (λ entry. entry.1)) (not_found registered_opt_rcodes 4096 n refl above)
