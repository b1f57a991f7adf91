-- The orders of names, label by label.
use Rattle.std.proofs.Common.{◌≡◌, ℕ, List, [], ◌∷◌, ◌++◌, length, arith, ap, ◌∙◌, refl}
use Rattle.std.specs.Prelude.{map, reverse}
use Rattle.std.specs.Char.{to_ascii_lowercase}
use Rattle.std.specs.Cmp.Lexicographic.{slice_cmp}
use Rattle.std.specs.List.{flat_map}
use Rattle.std.specs.Ordering.{nat_cmp, ordering_then}
use Rattle.std.specs.declared.cmp.Ordering.{Ordering}
use Rattle.std.specs.declared.cmp.Ordering.TheVariants.{Less, Equal, Greater}
use Rattle.std.proofs.lemmas.Cmp.{ranked}
use Rattle.std.proofs.lemmas.List.{reverse-append, map-append, length-map}
use Rattle.dns_name.specs.Names.{Labels, with_root, lowered, framed, name_size, uncompressed}
use Rattle.dns_name.specs.NameOrders.{framed_order, label_order, name_order, composed_order}
use Rattle.dns_name.proofs.theory.LabelsLemmas.{length-uncompressed}

-- Lowercasing keeps the size of a name.
name_size-lowered : (name : Labels) → name_size (lowered name) ≡ name_size name
name_size-lowered [] = refl
name_size-lowered (label ∷ name) = rw (length-map label to_ascii_lowercase, name_size-lowered name) refl

-- Names with the same lowercased labels have equally long uncompressed octets.
pub same_size : (m n : Labels) → lowered m ≡ lowered n → length (uncompressed m) ≡ length (uncompressed n)
same_size m n e =
    omega (arith, length-uncompressed m, length-uncompressed n, name_size-lowered m, name_size-lowered n, ap name_size e)

-- Appending the root label to both names keeps their order.
pub name_order-with_root : (m n : Labels) → slice_cmp label_order (reverse (with_root m)) (reverse (with_root n)) ≡ name_order m n
name_order-with_root m n = rw (reverse-append m ([] ∷ []), reverse-append n ([] ∷ [])) refl

-- `ordering_then` is associative.
pub then_assoc : (p q r : Ordering) → ordering_then p (ordering_then q r) ≡ ordering_then (ordering_then p q) r
then_assoc Less q r = refl
then_assoc Equal q r = refl
then_assoc Greater q r = refl

-- If lists begin with prefixes of equal length, the prefixes decide unless they are equal.
pub slice_cmp-append : {A : Type 0} (R : A → A → Ordering) (xs ys us vs : List A) → length xs ≡ length ys
    → slice_cmp R (xs ++ us) (ys ++ vs) ≡ ordering_then (slice_cmp R xs ys) (slice_cmp R us vs)
slice_cmp-append R [] [] us vs e = refl
slice_cmp-append R [] (y ∷ ys) us vs e = absurd (omega arith)
slice_cmp-append R (x ∷ xs) [] us vs e = absurd (omega arith)
slice_cmp-append R (x ∷ xs) (y ∷ ys) us vs e =
    ap (λ o. ordering_then (R x y) o) (slice_cmp-append R xs ys us vs (omega arith))
    ∙ then_assoc (R x y) (slice_cmp R xs ys) (slice_cmp R us vs)

-- The same after a comparison of length octets, with result o.
framed_by : (x y us vs : List ℕ) (o : Ordering) → o ≡ nat_cmp (length x) (length y)
    → ordering_then o (slice_cmp nat_cmp (x ++ us) (y ++ vs)) ≡ ordering_then (ordering_then o (slice_cmp nat_cmp x y)) (slice_cmp nat_cmp us vs)
framed_by x y us vs Less e = refl
framed_by x y us vs Equal e = slice_cmp-append nat_cmp x y us vs (ranked (length x) (length y) Equal e)
framed_by x y us vs Greater e = refl

-- If lists begin with labels after their length octets, the labels decide unless they are equal.
pub slice_cmp-framed : (x y us vs : List ℕ)
    → slice_cmp nat_cmp (framed x ++ us) (framed y ++ vs) ≡ ordering_then (slice_cmp nat_cmp (framed x) (framed y)) (slice_cmp nat_cmp us vs)
slice_cmp-framed x y us vs = framed_by x y us vs (nat_cmp (length x) (length y)) refl

-- How the octets of consecutive labels compare.
unfoldable pub row_order : Labels → Labels → Ordering
row_order xs ys = slice_cmp nat_cmp (flat_map framed (lowered xs)) (flat_map framed (lowered ys))

-- With the root labels, this is the order of the uncompressed names.
pub row_order-with_root : (m n : Labels) → row_order (with_root m) (with_root n) ≡ composed_order m n
unfolding row_order
row_order-with_root m n = simp map-append

-- No labels on either side are equal.
pub row_order-none : row_order [] [] ≡ Equal
unfolding row_order
row_order-none = refl

-- If the first labels end earlier, the result is `Less`.
pub row_order-first : (y : List ℕ) (ys : Labels) → row_order [] (y ∷ ys) ≡ Less
unfolding row_order
row_order-first y ys = refl

-- If the second labels end earlier, the result is `Greater`.
pub row_order-second : (x : List ℕ) (xs : Labels) → row_order (x ∷ xs) [] ≡ Greater
unfolding row_order
row_order-second x xs = refl

-- One more label on each side: it decides unless they are equal.
pub row_order-cons : (x y : List ℕ) (xs ys : Labels)
    → row_order (x ∷ xs) (y ∷ ys) ≡ ordering_then (framed_order x y) (row_order xs ys)
unfolding row_order
row_order-cons x y xs ys =
    slice_cmp-framed (map to_ascii_lowercase x) (map to_ascii_lowercase y) (flat_map framed (lowered xs)) (flat_map framed (lowered ys))

-- The steps of a loop over the labels of two names.
pub ruleset row_steps = (row_order-with_root, row_order-none, row_order-first, row_order-second, row_order-cons)
