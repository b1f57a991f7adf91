-- Record types with names in RDATA are of `fields_table`.
use Rattle.std.proofs.Common.{◌≡◌, ◌≢◌, ℕ, Bool, true, false, cond, List, [], ◌∷◌, refl, sym, subst}
use Rattle.std.specs.Prelude.{◌==◌, nat_eq}
use Rattle.std.specs.List.{list_all, list_any}
use Rattle.std.proofs.lemmas.Bool.{and_parts, eqb-true}
use Rattle.fields_table.specs.RecordTypes.{record_types}
use Rattle.dns_edit.specs.Rdata.{is_among, name_count, one_name_types, two_name_types}

-- of a number among those that pass a test
by_first : (test : ℕ → Bool) (n m : ℕ) (ms : List ℕ) (b : Bool) → nat_eq n m ≡ b → test m ≡ true → (is_among n ms ≡ true → test n ≡ true) → cond b true (is_among n ms) ≡ true
    → test n ≡ true
by_first test n m ms true e first later among = subst (λ (k : ℕ). test k ≡ true) (sym (eqb-true n m e)) first
by_first test n m ms false e first later among = later among

-- A number among those that pass a test passes it.
pub among_passes : (test : ℕ → Bool) (n : ℕ) (ms : List ℕ) → list_all test ms ≡ true → is_among n ms ≡ true → test n ≡ true
among_passes test n [] all among = absurd (cc among)
among_passes test n (m ∷ ms) all among =
    let both = and_parts (test m) (list_all test ms) all in
    by_first test n m ms (nat_eq n m) refl both.0 (among_passes test n ms both.1) among

-- whether the number is that of a type of the table
abbrev in_table : ℕ → Bool
in_table n = list_any (λ type. type.number == n) record_types

-- how many names there are by the two lists
abbrev names_by : Bool → Bool → ℕ
names_by a b = cond a 1 (cond b 2 0)

by_lists : (n : ℕ) (ones twos : List ℕ) → list_all in_table ones ≡ true → list_all in_table twos ≡ true → (a b : Bool) → is_among n ones ≡ a → is_among n twos ≡ b
    → names_by a b ≢ 0 → in_table n ≡ true
by_lists n ones twos first second true b ea eb some = among_passes in_table n ones first ea
by_lists n ones twos first second false true ea eb some = among_passes in_table n twos second eb
by_lists n ones twos first second false false ea eb some = absurd (some refl)

ones_in_table : list_all in_table one_name_types ≡ true
unfolding record_types
ones_in_table = refl

twos_in_table : list_all in_table two_name_types ≡ true
unfolding record_types
twos_in_table = refl

-- A record type with names in RDATA is one of `fields_table`.
pub named_in_table : (n : ℕ) → name_count n ≢ 0 → in_table n ≡ true
named_in_table n some =
    by_lists n one_name_types two_name_types ones_in_table twos_in_table (is_among n one_name_types) (is_among n two_name_types) refl refl some
