-- The items of octets: the first one, and those in the octets after it.
use Rattle.std.proofs.Common.{◌≡◌, ◌∙◌, ℕ, zero, suc, ◌<◌, ◌≤◌, List, [], ◌∷◌, length, Option, Some, None, refl, sym, ap, arith}
use Rattle.std.specs.Option.{option_map_or}
use Rattle.fields_lists.specs.Items.{items_in, items_of}

-- the octets after an item are fewer
abbrev pub IsShrinking : {A : Type 0} → (List ℕ → Option (A × List ℕ)) → Type 0
IsShrinking {A} item_at = (octets after : List ℕ) (item : A) → item_at octets ≡ Some (item, after) → length after < length octets

-- the items by what the first octets are
abbrev by_first : {A : Type 0} → (List ℕ → Option (A × List ℕ)) → ℕ → Option (A × List ℕ) → List A
by_first item_at n o = option_map_or (λ first. first.0 ∷ items_in item_at n first.1) o []

same_first : {A : Type 0} (item_at : List ℕ → Option (A × List ℕ)) (n m : ℕ) (octets : List ℕ) (o : Option (A × List ℕ)) → item_at octets ≡ o
    → ((item : A) (after : List ℕ) → item_at octets ≡ Some (item, after) → items_in item_at n after ≡ items_in item_at m after)
    → by_first item_at n o ≡ by_first item_at m o
same_first item_at n m octets None e later = refl
same_first item_at n m octets (Some (item, after)) e later = ap (λ items. item ∷ items) (later item after e)

none_first : {A : Type 0} (item_at : List ℕ → Option (A × List ℕ)) (n : ℕ) (octets : List ℕ) (o : Option (A × List ℕ)) → item_at octets ≡ o
    → ((item : A) (after : List ℕ) → item_at octets ≡ Some (item, after) → ⊥)
    → by_first item_at n o ≡ []
none_first item_at n octets None e never = refl
none_first item_at n octets (Some (item, after)) e never = absurd (never item after e)

more_count : {A : Type 0} (item_at : List ℕ → Option (A × List ℕ)) → IsShrinking item_at → (n m : ℕ) (octets : List ℕ) → length octets ≤ n → length octets ≤ m
    → items_in item_at n octets ≡ items_in item_at m octets
more_count item_at shrinks zero zero octets h k = refl
more_count item_at shrinks zero (suc m) octets h k =
    sym (none_first item_at m octets (item_at octets) refl (λ item after e. let s = shrinks octets after item e in omega arith))
more_count item_at shrinks (suc n) zero octets h k =
    none_first item_at n octets (item_at octets) refl (λ item after e. let s = shrinks octets after item e in omega arith)
more_count item_at shrinks (suc n) (suc m) octets h k =
    same_first item_at n m octets (item_at octets) refl
    (λ item after e. let s = shrinks octets after item e in more_count item_at shrinks n m after (omega arith) (omega arith))

-- octets that begin with an item: that one, and then the items in the octets after it
pub items_of_first : {A : Type 0} (item_at : List ℕ → Option (A × List ℕ)) → IsShrinking item_at → (octets after : List ℕ) (item : A)
    → item_at octets ≡ Some (item, after) → items_of item_at octets ≡ item ∷ items_of item_at after
items_of_first item_at shrinks [] after item e = let s = shrinks [] after item e in absurd (omega arith)
items_of_first item_at shrinks (x ∷ xs) after item e =
    let s = shrinks (x ∷ xs) after item e in
    ap (by_first item_at (length xs)) e
    ∙ ap (λ items. item ∷ items) (more_count item_at shrinks (length xs) (length after) after (omega arith) (omega arith))

-- octets that begin with no item have none
pub items_of_none : {A : Type 0} (item_at : List ℕ → Option (A × List ℕ)) (octets : List ℕ) → item_at octets ≡ None → items_of item_at octets ≡ []
items_of_none item_at [] e = refl
items_of_none item_at (x ∷ xs) e = ap (by_first item_at (length xs)) e
