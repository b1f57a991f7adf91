-- Words that are printable ASCII.
use Rattle.std.proofs.Common.{◌≡◌, ◌∙◌, ℕ, ◌+◌, ◌-◌, ◌≤◌, ◌&&◌, Bool, true, false, List, [], ◌∷◌, ◌++◌, length, take, drop, ap, ap₂, refl, sym, arith, nat_lt, le-leb}
use Rattle.std.specs.Prelude.{if◌then◌else◌}
use Rattle.std.proofs.lemmas.Bool.{and_parts}
use Rattle.std.proofs.lemmas.List.{take-append-drop}
use Rattle.std.proofs.lemmas.List.Folds.{list_all-append}
use Rattle.dnsview_tool.specs.Pages.{escaped_octet, front_within}
use Rattle.dnsview_tool.specs.Printable.{are_printable, is_printable}

-- A conjunction of truths is true.
pub both_true : (a b : Bool) → a ≡ true → b ≡ true → (a && b) ≡ true
both_true a b p q = ap₂ (λ x y. x && y) p q

-- words after other words
pub printable_both : (xs ys : List ℕ) → are_printable xs ≡ true → are_printable ys ≡ true → are_printable (xs ++ ys) ≡ true
printable_both xs ys h k = list_all-append is_printable xs ys ∙ both_true (are_printable xs) (are_printable ys) h k

parts_printable : (n : ℕ) (xs : List ℕ) → are_printable xs ≡ true → (are_printable (take n xs) ≡ true) × (are_printable (drop n xs) ≡ true)
parts_printable n xs h =
    and_parts (are_printable (take n xs)) (are_printable (drop n xs)) (sym (list_all-append is_printable (take n xs) (drop n xs)) ∙ ap are_printable (take-append-drop n xs) ∙ h)

-- the front and the back of words
pub printable_take : (n : ℕ) (xs : List ℕ) → are_printable xs ≡ true → are_printable (take n xs) ≡ true
printable_take n xs h = (parts_printable n xs h).0

-- What is left of printable characters is printable.
pub printable_drop : (n : ℕ) (xs : List ℕ) → are_printable xs ≡ true → are_printable (drop n xs) ≡ true
printable_drop n xs h = (parts_printable n xs h).1

-- the same words
pub printable_same : (xs ys : List ℕ) → xs ≡ ys → are_printable ys ≡ true → are_printable xs ≡ true
printable_same xs ys e h = ap are_printable e ∙ h

-- as much of words as fits
pub printable_front : (limit : ℕ) (words : List ℕ) → are_printable words ≡ true → are_printable (front_within limit words) ≡ true
printable_front limit [] h = refl
printable_front limit (octet ∷ words) h =
    let parts = and_parts (is_printable octet) (are_printable words) h in
    let rest = front_within (limit - length (escaped_octet octet)) words in
    elim (nat_lt limit (length (escaped_octet octet) + 3)) as (λ (b : Bool). are_printable (if b then [] else octet ∷ rest) ≡ true) [
      | true ↦ refl
      | false ↦ both_true (is_printable octet) (are_printable rest) parts.0 (printable_front (limit - length (escaped_octet octet)) words parts.1)
    ]

-- a number within the range
pub printable_number : (n : ℕ) → 32 ≤ n → n ≤ 126 → is_printable n ≡ true
printable_number n low high = both_true _ _ (le-leb 32 n low) (le-leb n 126 high)

-- three digits of an octet after a backslash
pub printable_digits : (a b c : ℕ) → a ≤ 9 → b ≤ 9 → c ≤ 9 → are_printable (0x5c ∷ (48 + a) ∷ (48 + b) ∷ (48 + c) ∷ []) ≡ true
printable_digits a b c p q r =
    both_true _ _ (printable_number 0x5c (omega arith) (omega arith))
    (both_true _ _ (printable_number (48 + a) (omega arith) (omega (arith, p)))
    (both_true _ _ (printable_number (48 + b) (omega arith) (omega (arith, q))) (both_true _ _ (printable_number (48 + c) (omega arith) (omega (arith, r))) refl)))
