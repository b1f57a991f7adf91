-- The order of names from the root, computed by walks from the first label.
use Rattle.std.proofs.Common.{◌≡◌, ℕ, ◌+◌, ◌-◌, List, [], ◌∷◌, ◌++◌, length, take, drop, arith, ap, sym, ◌∙◌, refl, length-drop, length-take, take-append-drop, drop-drop}
use Rattle.std.specs.Prelude.{reverse}
use Rattle.std.specs.Cmp.{nat_cmp_is}
use Rattle.std.specs.Cmp.Lexicographic.{slice_cmp}
use Rattle.std.specs.Ordering.{nat_cmp, ordering_then}
use Rattle.std.specs.declared.cmp.Ordering.{Ordering}
use Rattle.std.specs.declared.cmp.Ordering.TheVariants.{Less, Equal, Greater}
use Rattle.std.proofs.lemmas.List.{reverse-append, length-reverse}
use Rattle.dns_name.specs.Names.{Labels, with_root}
use Rattle.dns_name.specs.NameOrders.{label_order, name_order}
use Rattle.dns_name.proofs.Orders.{name_order-with_root, slice_cmp-append, then_assoc}

-- If names end with equally many labels, these labels decide unless they are equal.
name_order-append : (us vs m n : Labels) → length m ≡ length n
    → name_order (us ++ m) (vs ++ n) ≡ ordering_then (name_order m n) (name_order us vs)
name_order-append us vs m n e =
    rw (reverse-append us m, reverse-append vs n)
    (slice_cmp-append label_order (reverse m) (reverse n) (reverse us) (reverse vs)
    (length-reverse m ∙ e ∙ sym (length-reverse n)))

-- `Equal` after a comparison changes nothing.
then_equal : (o : Ordering) → ordering_then o Equal ≡ o
then_equal Less = refl
then_equal Equal = refl
then_equal Greater = refl

-- How equally many remaining labels compare, given the result for the labels before them.
unfoldable pub rest_order : Labels → Labels → Ordering → Ordering
rest_order m n earlier = ordering_then (name_order m n) earlier

-- If no labels remain, the result for the labels before them stays.
pub rest_order-none : (m n : Labels) (earlier result : Ordering) → m ≡ [] → length m ≡ length n
    → rest_order m n earlier ≡ result → earlier ≡ result
unfolding rest_order
rest_order-none [] [] earlier result d e h = h
rest_order-none [] (y ∷ n) earlier result d e h = absurd (omega arith)
rest_order-none (x ∷ m) n earlier result d e h =
    let none : length (x ∷ m) ≡ length {A = List ℕ} [] = ap length d in
    absurd (omega arith)

-- Before the first label this is the order of the names.
pub rest_order-all : (m n : Labels) → rest_order m n Equal ≡ name_order m n
unfolding rest_order
rest_order-all m n = then_equal (name_order m n)

-- One more label on each side is compared.
pub rest_order-cons : (x y : List ℕ) (m n : Labels) (earlier : Ordering) → length m ≡ length n
    → rest_order (x ∷ m) (y ∷ n) earlier ≡ rest_order m n (ordering_then (label_order x y) earlier)
unfolding rest_order
rest_order-cons x y m n earlier e =
    ap (λ o. ordering_then o earlier) (name_order-append (x ∷ []) (y ∷ []) m n e
    ∙ ap (ordering_then (name_order m n)) (then_equal (label_order x y)))
    ∙ sym (then_assoc (name_order m n) (label_order x y) earlier)

-- The steps of a loop over equally many labels.
pub ruleset rest_steps = (rest_order-all, rest_order-cons)

-- How two names compare by the labels that only one of them has: as their numbers of labels do.
surplus_order : (i j : ℕ) (us vs : Labels) → length us ≡ i - j → length vs ≡ j - i
    → slice_cmp label_order us vs ≡ nat_cmp i j
surplus_order i j [] [] a b = nat_cmp_is i j Equal (omega arith)
surplus_order i j [] (y ∷ ys) a b = nat_cmp_is i j Less (omega arith)
surplus_order i j (x ∷ xs) [] a b = nat_cmp_is i j Greater (omega arith)
surplus_order i j (x ∷ xs) (y ∷ ys) a b = absurd (omega arith)

-- The last labels of m, at most as many as n has.
abbrev pub last_labels : Labels → Labels → Labels
last_labels m n = drop (length m - length n) m

-- Both names have equally many of these.
same_length : (m n : Labels) → length (last_labels m n) ≡ length (last_labels n m)
same_length m n = omega (arith, length-drop (length m - length n) m, length-drop (length n - length m) n)

-- The last labels decide unless they are equal. Then the name with fewer labels is less.
name_order-split : (m n : Labels)
    → name_order m n ≡ ordering_then (name_order (last_labels m n) (last_labels n m)) (nat_cmp (length m) (length n))
name_order-split m n =
    let i : ℕ = length m - length n in
    let j : ℕ = length n - length m in
    let us : Labels = take i m in
    let vs : Labels = take j n in
    let a : length us ≡ i = omega (arith, length-take i m) in
    let b : length vs ≡ j = omega (arith, length-take j n) in
    ap (λ k. name_order k n) (sym (take-append-drop i m)) ∙ ap (name_order (us ++ drop i m)) (sym (take-append-drop j n))
    ∙ name_order-append us vs (drop i m) (drop j n) (same_length m n)
    ∙ ap (ordering_then (name_order (drop i m) (drop j n)))
    (surplus_order (length m) (length n) (reverse us) (reverse vs) (length-reverse us ∙ a) (length-reverse vs ∙ b))

-- The same with the root labels.
pub name_order_from_ends : (m n : Labels)
    → name_order m n
    ≡ ordering_then (name_order (last_labels (with_root m) (with_root n)) (last_labels (with_root n) (with_root m)))
    (nat_cmp (length (with_root m)) (length (with_root n)))
name_order_from_ends m n = sym (name_order-with_root m n) ∙ name_order-split (with_root m) (with_root n)

-- Dropping one more label.
pub drop-first : (i : ℕ) (m n : Labels) (label : List ℕ) → drop i m ≡ label ∷ n → drop (i + 1) m ≡ n
drop-first i m n label e = sym (drop-drop 1 i m) ∙ ap (drop 1) e

-- Dropping past the last label.
pub drop-none : (i : ℕ) (m : Labels) → drop i m ≡ [] → drop (i + 1) m ≡ []
drop-none i m e = sym (drop-drop 1 i m) ∙ ap (drop 1) e

-- The steps of a loop that skips labels.
pub ruleset drop_steps = (drop-first, drop-none)
