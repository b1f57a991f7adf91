-- How the names of flags are printed one by one.
use Rattle.std.proofs.Common.{◌≡◌, ◌∙◌, ℕ, ◌+◌, ◌<◌, Bool, List, [], ◌∷◌, ◌++◌, length, take, get_or, ap, sym, refl, append_assoc, append-nil, Bor, true, false}
use Rattle.std.proofs.lemmas.List.{take_more}
use Rattle.std.proofs.lemmas.List.Concat.{flat_map-append}
use Rattle.dns_code.specs.Flags.{space, joined, name_if_set, names_shown}

-- the separator that is printed after some names and before the next
abbrev pub separator_after : List (List ℕ) → List ℕ
separator_after [] = []
separator_after (x ∷ xs) = space ∷ []

-- joining one more name
joined-push : (xs : List (List ℕ)) (x : List ℕ) → joined (xs ++ x ∷ []) ≡ joined xs ++ (separator_after xs ++ x)
joined-push [] x = refl
joined-push (y ∷ []) x = refl
joined-push (y ∷ z ∷ xs) x = ap (λ (t : List ℕ). y ++ (space ∷ t)) (joined-push (z ∷ xs) x) ∙ sym (append_assoc y (space ∷ joined (z ∷ xs)) (space ∷ x))

-- the names with a separator and one more name printed after them
pub joined_more : (xs : List (List ℕ)) (separator x : List ℕ) → separator ≡ separator_after xs → joined xs ++ (separator ++ x) ≡ joined (xs ++ x ∷ [])
joined_more xs separator x e = ap (λ (s : List ℕ). joined xs ++ (s ++ x)) e ∙ sym (joined-push xs x)

-- after a name the separator is a space
pub separator_after-push : (xs : List (List ℕ)) (x : List ℕ) → separator_after (xs ++ x ∷ []) ≡ space ∷ []
separator_after-push [] x = refl
separator_after-push (y ∷ xs) x = refl

-- one more flag, which is set
pub names_shown-set : (names : List (Bool × Bor (List ℕ))) (i : ℕ) (d : Bool × Bor (List ℕ)) → i < length names → (get_or names i d).0 ≡ true
    → names_shown (take (i + 1) names) ≡ names_shown (take i names) ++ (get_or names i d).1.now ∷ []
names_shown-set names i d within set =
    rw (take_more names i d within) (simp flat_map-append (ap (λ (b : Bool). names_shown (take i names) ++ (name_if_set b (get_or names i d).1.now ++ [])) set))

-- one more flag, which is not set
pub names_shown-unset : (names : List (Bool × Bor (List ℕ))) (i : ℕ) (d : Bool × Bor (List ℕ)) → i < length names → (get_or names i d).0 ≡ false
    → names_shown (take (i + 1) names) ≡ names_shown (take i names)
names_shown-unset names i d within unset =
    rw (take_more names i d within) (simp flat_map-append
    (ap (λ (b : Bool). names_shown (take i names) ++ (name_if_set b (get_or names i d).1.now ++ [])) unset
    ∙ append-nil (names_shown (take i names))))
