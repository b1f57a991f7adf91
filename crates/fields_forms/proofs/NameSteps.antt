-- The first label of a name, and the first of consecutive names.
use Rattle.std.proofs.Common.{◌≡◌, ℕ, zero, suc, ◌+◌, ◌-◌, ◌<◌, ◌≤◌, Bool, true, false, cond, Option, Some, None, List, [], ◌∷◌, length, drop, get_or, ap, sym, ◌∙◌, refl, arith}
use Rattle.std.specs.Prelude.{nat_le, if◌then◌else◌}
use Rattle.std.proofs.lemmas.Bool.{le-leb, lt-leb, and_left, and_right, and_from, ne_eqb}
use Rattle.fields_forms.specs.PlainNames.{can_follow, name_size_after, plain_name_size, left_of_name, names_after}
use Rattle.fields_text.proofs.theory.OctetsAfter.{after, after_is, after_both}

skip_label : (size left : ℕ) (xs : List ℕ) → left ≤ length xs → name_size_after size left xs ≡ name_size_after size 0 (drop left xs)
skip_label size zero xs l = refl
skip_label size (suc left) [] l = absurd (omega arith)
skip_label size (suc left) (x ∷ xs) l = skip_label size left xs (omega arith)

short_label : (size left : ℕ) (xs : List ℕ) → length xs < left → name_size_after size left xs ≡ None
short_label size zero xs l = absurd (omega arith)
short_label size (suc left) [] l = refl
short_label size (suc left) (x ∷ xs) l = short_label size left xs (omega arith)

-- a label is at the start of the octets
pub record Label (xs : List ℕ) (n : ℕ) : Type 0 where
  pub some : 1 ≤ length xs
  pub is : n ≡ get_or xs 0 0
  pub not_root : n ≡ 0 → ⊥

label_is : (size n : ℕ) (xs : List ℕ) → Label xs n → name_size_after size 0 xs ≡ (if can_follow size n then name_size_after (size + 1 + n) n (drop 1 xs) else None)
label_is size n [] h = let l = h.some in absurd (omega arith)
label_is size n (x ∷ xs) h =
    ap (λ k. name_size_after size 0 (k ∷ xs)) (sym h.is) ∙ rw (ne_eqb n 0 h.not_root) refl

-- After a whole label the rest decides the size of the name.
pub label_step : (size n : ℕ) (xs : List ℕ) → Label xs n → n ≤ 63 → size + 1 + n ≤ 254 → n ≤ length (after 1 xs) → name_size_after size 0 xs ≡ name_size_after (size + 1 + n) 0 (after n (after 1 xs))
label_step size n xs h short fits few =
    label_is size n xs h ∙ rw (and_from (nat_le n 63) (nat_le (size + 1 + n) 254) (le-leb n 63 short) (le-leb (size + 1 + n) 254 fits))
    (skip_label (size + 1 + n) n (drop 1 xs) (omega (arith, ap length (after_is 1 xs))) ∙ ap (name_size_after (size + 1 + n) 0) (sym (after_both 1 n xs (drop 1 xs) refl)))

-- A label of more than 63 octets begins no name.
pub label_long : (size n : ℕ) (xs : List ℕ) → Label xs n → 63 < n → name_size_after size 0 xs ≡ None
label_long size n xs h long = label_is size n xs h ∙ rw (and_left (nat_le n 63) (nat_le (size + 1 + n) 254) (lt-leb n 63 long)) refl

-- A label that makes the name too long is in no name.
pub label_full : (size n : ℕ) (xs : List ℕ) → Label xs n → 254 < size + 1 + n → name_size_after size 0 xs ≡ None
label_full size n xs h full = label_is size n xs h ∙ rw (and_right (nat_le n 63) (nat_le (size + 1 + n) 254) (lt-leb (size + 1 + n) 254 full)) refl

either : (t : Bool) (x : Option ℕ) → x ≡ None → cond t x None ≡ None
either true x e = e
either false x e = refl

-- A label that is cut off is in no name.
pub label_short : (size n : ℕ) (xs : List ℕ) → Label xs n → length (after 1 xs) < n → name_size_after size 0 xs ≡ None
label_short size n xs h few =
    label_is size n xs h ∙ either (can_follow size n) _ (short_label (size + 1 + n) n (drop 1 xs) (omega (arith, ap length (after_is 1 xs))))

skip_name : (left : ℕ) (xs : List ℕ) → left ≤ length xs → names_after left xs ≡ names_after 0 (drop left xs)
skip_name zero xs l = refl
skip_name (suc left) [] l = absurd (omega arith)
skip_name (suc left) (x ∷ xs) l = skip_name left xs (omega arith)

short_name : (left : ℕ) (xs : List ℕ) → length xs < left → names_after left xs ≡ false
short_name zero xs l = absurd (omega arith)
short_name (suc left) [] l = refl
short_name (suc left) (x ∷ xs) l = short_name left xs (omega arith)

-- After a whole name the next one decides.
pub name_step : (xs : List ℕ) (size : ℕ) → 0 < length xs → Some size ≡ plain_name_size xs → 1 ≤ size → size ≤ length xs → names_after 0 xs ≡ names_after 0 (after size xs)
name_step [] size l e some few = absurd (omega arith)
name_step (x ∷ xs) zero l e some few = absurd (omega arith)
name_step (x ∷ xs) (suc k) l e some few =
    let less : suc k - 1 ≡ k = omega arith in
    ap (λ o. names_after (left_of_name xs o) xs) (sym e) ∙ ap (λ n. names_after n xs) less ∙ skip_name k xs (omega arith) ∙ ap (names_after 0) (sym (after_is (suc k) (x ∷ xs)))

-- Octets that begin with no name are no names.
pub name_missing : (xs : List ℕ) → 0 < length xs → None ≡ plain_name_size xs → names_after 0 xs ≡ false
name_missing [] l e = absurd (omega arith)
name_missing (x ∷ xs) l e = ap (λ o. names_after (left_of_name xs o) xs) (sym e) ∙ short_name (length xs + 1) xs (omega arith)
