-- Binary search in a table of registered numbers, which rise.
use Rattle.std.proofs.Common.{◌≡◌, ℕ, zero, suc, ◌==◌, ◌<◌, ◌≤◌, true, List, [], ◌∷◌, length, get_or, refl, sym, ap, ◌∙◌, arith, add-one, false}
use Rattle.std.specs.Prelude.{Some, None, Ok, Err, nat_lt}
use Rattle.std.specs.Borrow.{Bor}
use Rattle.std.specs.List.Sorted.{IsBinarySearchResult, IsNonDecreasingBy}
use Rattle.std.specs.Ordering.{nat_cmp, ordering_index}
use Rattle.std.proofs.lemmas.Bool.{and_parts}
use Rattle.std.proofs.lemmas.Bool.Decides.{nat_tests}
use Rattle.std.proofs.lemmas.Cmp.{ranked}
use Rattle.dns_iana.specs.Mnemonics.{mnemonic}
use Rattle.dns_iana.specs.Registry.{is_rising, rises_from}
use Rattle.dns_iana.specs.Tables.{table}
use Rattle.dns_iana.proofs.TableLemmas.{NumberFrom, number_here, number_nowhere}
use Rattle.dns_iana.proofs.theory.MnemonicLemmas.{find_later}

-- an entry of a table as the code stores it
abbrev Entry : Type 0
Entry = ℕ × Bor (List ℕ)

-- all numbers of a table that rises from a number are greater
above : (n : ℕ) (names : List Entry) → rises_from n (table names) ≡ true → (j : ℕ) (d : Entry) → j < length names → n < (get_or names j d).0
above n [] h j d within = absurd (omega arith)
above n (name ∷ names) h zero d within =
    let parts = and_parts (nat_lt n name.0) (rises_from name.0 (table names)) h in
    grind (arith, nat_tests, parts.0)
above n (name ∷ names) h (suc j) d within =
    let parts = and_parts (nat_lt n name.0) (rises_from name.0 (table names)) h in
    let first : n < name.0 = grind (arith, nat_tests, parts.0) in
    omega (arith, above name.0 names parts.1 j d (omega arith))

-- a later number is greater
later_is_greater : (names : List Entry) → is_rising (table names) ≡ true → (i j : ℕ) (d : Entry) → i < j → j < length names → (get_or names i d).0 < (get_or names j d).0
later_is_greater [] h i j d less within = absurd (omega arith)
later_is_greater (name ∷ names) h i zero d less within = absurd (omega arith)
later_is_greater (name ∷ names) h zero (suc j) d less within = above name.0 names h j d (omega arith)
later_is_greater (name ∷ []) h (suc i) (suc j) d less within = absurd (omega arith)
later_is_greater (name ∷ next ∷ names) h (suc i) (suc j) d less within =
    let parts = and_parts (nat_lt name.0 next.0) (rises_from next.0 (table names)) h in
    later_is_greater (next ∷ names) parts.1 i j d (omega arith) (omega arith)

-- a number that no earlier entry has
no_earlier : (names : List Entry) (n i : ℕ) (d : Entry) → ((k : ℕ) → k < i → (get_or names k d).0 ≡ n → ⊥) → i ≤ length names → NumberFrom names i n
no_earlier names n zero d none within = refl
no_earlier names n (suc i) d none within =
    let other : ((get_or names i d).0 == n) ≡ false = grind (arith, nat_tests, none i (omega arith)) in
    let later = find_later (λ name. name.0 == n) names i d (omega arith) other in
    rw add-one at later ∙ no_earlier names n i d (λ k below. none k (omega arith)) (omega arith)

module _ (names : List Entry) (rising : is_rising (table names) ≡ true) (n : ℕ) where
  -- the comparisons with the number rise, as a binary search asks
  comparisons_rise : IsNonDecreasingBy (λ name. ordering_index (nat_cmp name.0 n)) names
  comparisons_rise i j d le within =
      let greater = later_is_greater names rising i j d in
      let up : (get_or names i d).0 ≤ (get_or names j d).0 = grind (arith, greater, λ (same : i ≡ j). ap (λ k. (get_or names k d).0) same) in
      grind (arith, nat_tests)

  -- the entry that a binary search finds has the name
  pub found : (i : ℕ) (d : Entry) → i < length names → IsBinarySearchResult (λ name. nat_cmp name.0 n) names (Ok i) → Some (get_or names i d).1.now ≡ mnemonic (table names) n
  found i d within equal =
      let same : (get_or names i d).0 ≡ n = ranked _ n _ (sym (equal d)) in
      number_here names i n d (no_earlier names n i d (λ k below e. omega (arith, later_is_greater names rising k i d below within)) (omega arith)) within same

  -- where it finds none, the number has no name
  pub absent : (i : ℕ) (d : Entry) → i ≤ length names → IsBinarySearchResult (λ name. nat_cmp name.0 n) names (Err i) → None ≡ mnemonic (table names) n
  absent i d within parted =
      let smaller : (k : ℕ) → k < i → (get_or names k d).0 < n = λ k below. ranked _ n _ (sym ((parted comparisons_rise).0 k d (omega arith) below)) in
      let greater : (k : ℕ) → i ≤ k → k < length names → n < (get_or names k d).0 = λ k from below. ranked _ n _ (sym ((parted comparisons_rise).1 k d from below)) in
      number_nowhere names (length names) n (no_earlier names n (length names) d (λ k below e. grind (arith, smaller k, greater k)) (omega arith)) (omega arith)
