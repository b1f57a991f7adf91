-- Entries that are stored with the newest last and read with the newest first; and what is left if the newest are cut off.
use Rattle.std.proofs.Common.{◌≡◌, ℕ, ◌+◌, ◌-◌, ◌<◌, nat_le, Bool, true, false, cond, Some, List, [], ◌∷◌, ◌++◌, map, reverse, length, length-append, take, get_or, ap, sym, ◌∙◌, refl, subst, arith}
use Rattle.std.specs.Prelude.{slice_get}
use Rattle.std.proofs.lemmas.Bool.Decides.{nat_tests}
use Rattle.std.proofs.lemmas.List.{reverse-append, map_push, take_more, get_or_push}
use Rattle.std.proofs.lemmas.Option.{get_or_from_slice_get}
use Rattle.dns_target.specs.TableEntries.{cut_by}

-- the entry that was added last comes first
pub pushed : {A B : Type 0} (f : A → B) (xs : List A) (x : A) → reverse (map f (xs ++ x ∷ [])) ≡ f x ∷ reverse (map f xs)
pushed f xs x = ap reverse (map_push f xs x) ∙ reverse-append (map f xs) (f x ∷ [])

-- so does the last of the first k + 1 entries
pub taken : {A B : Type 0} (f : A → B) (xs : List A) (k : ℕ) (d : A) → k < length xs → reverse (map f (take (k + 1) xs)) ≡ f (get_or xs k d) ∷ reverse (map f (take k xs))
taken f xs k d l = ap (λ ys. reverse (map f ys)) (take_more xs k d l) ∙ pushed f (take k xs) (get_or xs k d)

-- what holds without the first entry whenever it holds with it, holds of what a cut leaves
pub cut_keeps : {A : Type 0} (end : A → ℕ) (len : ℕ) (P : List A → Type 0) → ((x : A) (xs : List A) → P (x ∷ xs) → P xs) → (xs : List A) → P xs → P (cut_by end len xs)
cut_keeps end len P tail [] h = h
cut_keeps end len P tail (x ∷ xs) h = keep_by (nat_le (end x) len) (cut_keeps end len P tail xs (tail x xs h))
  where
    keep_by : (b : Bool) → P (cut_by end len xs) → P (cond b (x ∷ xs) (cut_by end len xs))
    keep_by true k = h
    keep_by false k = k

-- cutting entries and cutting what they are mapped to is the same
pub map-cut : {A B : Type 0} (f : A → B) (end : B → ℕ) (len : ℕ) (xs : List A) → map f (cut_by (λ x. end (f x)) len xs) ≡ cut_by end len (map f xs)
map-cut f end len [] = refl
map-cut f end len (x ∷ xs) = map_by (nat_le (end (f x)) len) (map-cut f end len xs)
  where
    map_by : (b : Bool) → map f (cut_by (λ x. end (f x)) len xs) ≡ cut_by end len (map f xs)
        → map f (cond b (x ∷ xs) (cut_by (λ x. end (f x)) len xs)) ≡ cond b (f x ∷ map f xs) (cut_by end len (map f xs))
    map_by true h = refl
    map_by false h = h

-- an entry that ends past the cut is cut off
pub past : {A : Type 0} (end : A → ℕ) (len : ℕ) (x : A) (xs : List A) → len < end x → cut_by end len (x ∷ xs) ≡ cut_by end len xs
past end len x xs l = let b : nat_le (end x) len ≡ false = grind (arith, nat_tests) in ap (λ c. cond c (x ∷ xs) (cut_by end len xs)) b

-- the last entry, as it is read and then removed
popped : {A : Type 0} (all list parent : List A) (x last : A) → all ≡ parent ++ x ∷ [] → list ≡ all → Some last ≡ slice_get list (length list - 1) → last ≡ x
popped all list parent x last e same is =
    let whole : list ≡ parent ++ x ∷ [] = same ∙ e in
    let size : length list ≡ length parent + 1 = ap length whole ∙ length-append parent (x ∷ []) in
    sym (get_or_from_slice_get list (length list - 1) last last (sym is)) ∙ ap (λ ys. get_or ys (length list - 1) last) whole ∙ get_or_push parent x last (length list - 1) (omega arith)

-- so the others are cut as all are
pub cut-popped : {A B : Type 0} (f : A → B) (end : B → ℕ) (len : ℕ) (all list parent : List A) (x last : A) → all ≡ parent ++ x ∷ [] → list ≡ all
    → Some last ≡ slice_get list (length list - 1) → len < end (f last) → cut_by end len (reverse (map f parent)) ≡ cut_by end len (reverse (map f all))
cut-popped f end len all list parent x last e same is l =
    let late : len < end (f x) = subst (λ y. len < end (f y)) (popped all list parent x last e same is) l in
    sym (ap (λ ys. cut_by end len (reverse (map f ys))) e ∙ ap (cut_by end len) (pushed f parent x) ∙ past end len (f x) (reverse (map f parent)) late)
