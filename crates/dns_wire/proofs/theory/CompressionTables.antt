-- What truncations and additions do to the compression table.
use Rattle.std.proofs.Common.{◌≡◌, ℕ, ◌≤◌, ◌<◌, Bool, true, false, cond, Option, Some, None, ap, sym, ◌∙◌, subst, refl, arith, inl, inr, ◌≢◌, nat_le, List, [], ◌∷◌, length, ◌⊎◌}
use Rattle.std.specs.Prelude.{nat_le}
use Rattle.std.proofs.lemmas.Grind.{common_steps}
use Rattle.std.proofs.lemmas.Option.{cond_some}
use Rattle.std.specs.FinMap.{get, insert, same_map, get-retain_keys, get-insert, get-empty}
use Rattle.std.specs.Cmp.{Equal-is}
use Rattle.std.specs.Ordering.{eq_by_cmp}
use Rattle.std.proofs.lemmas.Bool.Decides.{nat_tests}
use Rattle.std.proofs.lemmas.Cmp.{eq_by_cmp_equiv}
use Rattle.dns_name.specs.Names.{Labels}
use Rattle.dns_wire.specs.Encoders.{suffix_cmp, suffix_total, suffix_exact, TableEntry, CompressionTable, ends_within, cut}
use Rattle.dns_wire.specs.Encoders.{IsWithin, IsAtOrAfter, IsOldOrWithin, Extends, Suffix, add_suffixes, nothing, IsClear}
use Rattle.dns_wire.specs.Targets.{IsTableOf}

-- What a truncated table has for a suffix.
pub get-cut : (m : CompressionTable) (len : ℕ) (q : Labels) → get (cut m len) q ≡ cond (ends_within len (get m q)) (get m q) None
unfolding cut
get-cut m len q = get-retain_keys m (λ s. ends_within len (get m s)) q (λ x e. ap (λ s. ends_within len (get m s)) (sym (suffix_exact q x e)))

cut_some : (len : ℕ) (o : Option TableEntry) (x : TableEntry) → cond (ends_within len o) o None ≡ Some x → (o ≡ Some x) × (x.end ≤ len)
cut_some len None x e = absurd (grind (arith, common_steps))
cut_some len (Some y) x e =
    let w = cond_some (nat_le y.end len) y x e in
    let s : y ≡ x = w.1 in
    let l : y.end ≤ len = let t = w.0 in grind (arith, common_steps) in
    (ap (λ (z : TableEntry). Some z) s, subst (λ (z : TableEntry). z.end ≤ len) s l)

-- A suffix in the truncated table was in the table, and its name ends within the length.
pub get_of_cut : (m : CompressionTable) (len : ℕ) (s : Labels) (x : TableEntry) → get (cut m len) s ≡ Some x → (get m s ≡ Some x) × (x.end ≤ len)
get_of_cut m len s x e = cut_some len (get m s) x (sym (get-cut m len s) ∙ e)

some_cut : (len : ℕ) (o : Option TableEntry) (x : TableEntry) → o ≡ Some x → x.end ≤ len → cond (ends_within len o) o None ≡ Some x
some_cut len o x e l = rw e (grind (arith, common_steps))

-- A truncated table keeps each suffix whose name ends within the length.
pub get_in_cut : (m : CompressionTable) (len : ℕ) (s : Labels) (x : TableEntry) → get m s ≡ Some x → x.end ≤ len → get (cut m len) s ≡ Some x
get_in_cut m len s x e l = get-cut m len s ∙ some_cut len (get m s) x e l

-- Tables with the same entries are the same.
pub same_table : (m n : CompressionTable) → ((q : Labels) → get m q ≡ get n q) → m ≡ n
same_table m n h = same_map suffix_total suffix_exact m n h

within_all : (w : ℕ) (o : Option TableEntry) → ((x : TableEntry) → o ≡ Some x → x.end ≤ w) → cond (ends_within w o) o None ≡ o
within_all w None h = refl
within_all w (Some x) h = let l : x.end ≤ w = h x refl in grind (arith, common_steps)

-- If all names end within the length, truncating changes nothing.
pub cut-within : (m : CompressionTable) (w : ℕ) → IsWithin m w → cut m w ≡ m
cut-within m w h = same_table _ _ (λ q. get-cut m w q ∙ within_all w (get m q) (λ x e. h q x e))

cut_new : (e w v : ℕ) (before after : Option TableEntry) → e ≤ w → IsOldOrWithin before after w v
    → cond (ends_within e after) after None ≡ cond (ends_within e before) before None
cut_new e w v before after l (inl same) = ap (λ o. cond (ends_within e o) o None) same
cut_new e w v before after l (inr new) = rw (new.0, new.1.1) (let late : e < new.1.0.end = omega (arith, new.1.3) in grind (arith, common_steps))

-- Truncating at or below the offset of an addition undoes it.
pub cut-extends : (m n : CompressionTable) (w v e : ℕ) → e ≤ w → Extends m n w v → cut n e ≡ cut m e
cut-extends m n w v e l x = same_table _ _ (λ q. get-cut n e q ∙ cut_new e w v (get m q) (get n q) l (x.each q) ∙ sym (get-cut m e q))

-- A table extends itself.
pub extends_refl : (m : CompressionTable) (w v : ℕ) → Extends m m w v
extends_refl m w v = record { each = λ s. inl refl }

widen_one : (before after : Option TableEntry) (w v w' v' : ℕ) → w' ≤ w → v ≤ v' → IsOldOrWithin before after w v → IsOldOrWithin before after w' v'
widen_one before after w v w' v' l k (inl same) = inl same
widen_one before after w v w' v' l k (inr new) = inr (new.0, (new.1.0, new.1.1, omega (arith, new.1.2), omega (arith, new.1.3), omega (arith, new.1.4)))

-- An extension between two offsets is one between wider offsets.
pub extends_wider : (m n : CompressionTable) (w v w' v' : ℕ) → w' ≤ w → v ≤ v' → Extends m n w v → Extends m n w' v'
extends_wider m n w v w' v' l k x = record { each = λ s. widen_one (get m s) (get n s) w v w' v' l k (x.each s) }

join_one : (a b c : Option TableEntry) (w v : ℕ) → IsOldOrWithin a b w v → IsOldOrWithin b c w v → IsOldOrWithin a c w v
join_one a b c w v (inl p) (inl q) = inl (q ∙ p)
join_one a b c w v (inl p) (inr q) = inr (sym p ∙ q.0, q.1)
join_one a b c w v (inr p) (inl q) = inr (p.0, (p.1.0, q ∙ p.1.1, p.1.2, p.1.3, p.1.4))
join_one a b c w v (inr p) (inr q) = absurd (let e : Some p.1.0 ≡ None = sym p.1.1 ∙ q.0 in cc)

-- Two extensions in turn are one.
pub extends_join : (a b c : CompressionTable) (w v : ℕ) → Extends a b w v → Extends b c w v → Extends a c w v
extends_join a b c w v x y = record { each = λ s. join_one (get a s) (get b s) (get c s) w v (x.each s) (y.each s) }

inserted_one : (before after found : Option TableEntry) (x : TableEntry) (w v : ℕ) (b : Bool) → found ≡ cond b (Some x) after → (b ≡ true → before ≡ None)
    → IsOldOrWithin before after w v → w ≤ x.offset → w < x.end → x.end ≤ v → IsOldOrWithin before found w v
inserted_one before after found x w v true e h (inl same) p q r = inr (h refl, (x, e, p, q, r))
inserted_one before after found x w v true e h (inr new) p q r = inr (h refl, (x, e, p, q, r))
inserted_one before after found x w v false e h (inl same) p q r = inl (e ∙ same)
inserted_one before after found x w v false e h (inr new) p q r = inr (new.0, (new.1.0, e ∙ new.1.1, new.1.2, new.1.3, new.1.4))

-- Suffixes that compare as equal are the same.
pub tied : (q k : Labels) → eq_by_cmp suffix_cmp q k ≡ true → q ≡ k
tied q k e = suffix_exact q k ((Equal-is (suffix_cmp q k)).0 e)

-- Inserting a new suffix extends the table.
pub inserted : (m n : CompressionTable) (k : Labels) (x : TableEntry) (w v : ℕ) → Extends m n w v → get m k ≡ None → w ≤ x.offset → w < x.end → x.end ≤ v
    → Extends m (insert n k x) w v
inserted m n k x w v g none p q r = record {
  each = λ s. inserted_one (get m s) (get n s) _ x w v (eq_by_cmp suffix_cmp s k) (get-insert suffix_total n k x s) (λ e. ap (get m) (tied s k e) ∙ none) (g.each s) p q r;
}

old_kept : (before after : Option TableEntry) (w v : ℕ) (x : TableEntry) → IsOldOrWithin before after w v → before ≡ Some x → after ≡ Some x
old_kept before after w v x (inl same) e = same ∙ e
old_kept before after w v x (inr new) e = absurd (let n : None ≡ Some x = sym new.0 ∙ e in cc)

-- An extension keeps each entry.
pub gets : {m n : CompressionTable} {w v : ℕ} → Extends m n w v → (s : Labels) (x : TableEntry) → get m s ≡ Some x → get n s ≡ Some x
gets {m = m} {n = n} {w = w} {v = v} g s x e = old_kept (get m s) (get n s) w v x (g.each s) e

at_or_after_one : (a w v : ℕ) (before after : Option TableEntry) → a ≤ w → IsOldOrWithin before after w v
    → ((x : TableEntry) → before ≡ Some x → a ≤ x.offset) → (x : TableEntry) → after ≡ Some x → a ≤ x.offset
at_or_after_one a w v before after l (inl same) h x e = h x (sym same ∙ e)
at_or_after_one a w v before after l (inr new) h x e =
    let s : Some new.1.0 ≡ Some x = sym new.1.1 ∙ e in
    let same : new.1.0 ≡ x = cc in
    subst (λ (z : TableEntry). a ≤ z.offset) same (omega (arith, new.1.2))

-- If all entries are at or after an offset, so are those of an extension after it.
pub at_or_after_more : {m n : CompressionTable} {w v : ℕ} (a : ℕ) → a ≤ w → Extends m n w v → IsAtOrAfter m a → IsAtOrAfter n a
at_or_after_more {m = m} {n = n} {w = w} {v = v} a l g h = record { each = λ s x e. at_or_after_one a w v (get m s) (get n s) l (g.each s) (λ y f. h.each s y f) x e }

-- Tables with suffixes added.

-- Suffixes that differ don't compare as equal.
pub untied : (q k : Labels) (b : Bool) → eq_by_cmp suffix_cmp q k ≡ b → q ≢ k → b ≡ false
untied q k true e n = absurd (n (tied q k e))
untied q k false e n = refl

-- A suffix compares as equal to itself.
pub tied_self : (q : Labels) → eq_by_cmp suffix_cmp q q ≡ true
tied_self q = (eq_by_cmp_equiv suffix_total).refl q

-- The table has an inserted suffix.
pub get-insert_same : (m : CompressionTable) (k : Labels) (x : TableEntry) → get (insert m k x) k ≡ Some x
get-insert_same m k x = get-insert suffix_total m k x k ∙ ap (λ b. cond b (Some x) (get m k)) (tied_self k)

-- Inserting changes no other suffix.
pub get-insert_other : (m : CompressionTable) (k : Labels) (x : TableEntry) (q : Labels) → q ≢ k → get (insert m k x) q ≡ get m q
get-insert_other m k x q n = get-insert suffix_total m k x q ∙ ap (λ b. cond b (Some x) (get m q)) (untied q k _ refl n)

-- A suffix is the inserted one, or its entry is unchanged.
pub insert_cases : (m : CompressionTable) (k : Labels) (x : TableEntry) (q : Labels) → ((q ≡ k) × (get (insert m k x) q ≡ Some x)) ⊎ (get (insert m k x) q ≡ get m q)
insert_cases m k x q = cases_by _ refl
  where
    cases_by : (b : Bool) → eq_by_cmp suffix_cmp q k ≡ b → ((q ≡ k) × (get (insert m k x) q ≡ Some x)) ⊎ (get (insert m k x) q ≡ get m q)
    cases_by true is = inl (tied q k is, get-insert suffix_total m k x q ∙ ap (λ b. cond b (Some x) (get m q)) is)
    cases_by false is = inr (get-insert suffix_total m k x q ∙ ap (λ b. cond b (Some x) (get m q)) is)

-- Truncating removes an inserted suffix whose name ends past the length.
pub cut-insert_late : (m : CompressionTable) (k : Labels) (x : TableEntry) (len : ℕ) → get m k ≡ None → len < x.end → cut (insert m k x) len ≡ cut m len
cut-insert_late m k x len none l = same_table _ _ (λ q. get-cut (insert m k x) len q ∙ late_by q (insert_cases m k x q) ∙ sym (get-cut m len q))
  where
    late : cond (ends_within len (Some x)) (Some x) None ≡ None
    late = let b : nat_le x.end len ≡ false = grind (arith, nat_tests) in rw b refl

    late_by : (q : Labels) → ((q ≡ k) × (get (insert m k x) q ≡ Some x)) ⊎ (get (insert m k x) q ≡ get m q)
        → cond (ends_within len (get (insert m k x) q)) (get (insert m k x) q) None ≡ cond (ends_within len (get m q)) (get m q) None
    late_by q (inl h) = rw (h.1, ap (get m) h.0 ∙ none) late
    late_by q (inr h) = ap (λ o. cond (ends_within len o) o None) h

-- Each suffix has fewer than n labels.
abbrev pub AreShorter : ℕ → List Suffix → Type 0
AreShorter n [] = Unit {0}
AreShorter n (s ∷ ss) = (length s.labels < n) × AreShorter n ss

-- Adding shorter suffixes doesn't add a longer one.
pub get-add_suffixes_longer : (m : CompressionTable) (ss : List Suffix) (end : ℕ) (k : Labels) → get m k ≡ None → AreShorter (length k) ss → get (add_suffixes m ss end) k ≡ None
get-add_suffixes_longer m [] end k none h = none
get-add_suffixes_longer m (s ∷ ss) end k none h =
    get-insert_other (add_suffixes m ss end) s.labels (record { offset = s.offset; end = end }) k (λ e. let z = ap length e in let l = h.0 in omega arith)
    ∙ get-add_suffixes_longer m ss end k none h.1

-- Targets with an empty table.

-- A cut leaves an empty table empty.
pub cut_nothing : (len : ℕ) → cut nothing len ≡ nothing
cut_nothing len = same_table _ _ (λ q. get-cut nothing len q ∙ rw get-empty refl)

-- An empty table is a table of any octets.
pub nothing_is_kept : (b : List ℕ) → IsTableOf b nothing
nothing_is_kept b = record { each = λ s x e. absurd (let k : None ≡ Some x = sym (get-empty suffix_cmp s) ∙ e in cc) }

-- With an empty table, any octets may be overwritten.
pub clear_nothing : (a n : ℕ) → IsClear nothing a n
clear_nothing a n s x h = absurd (let k : None ≡ Some x = sym (get-empty suffix_cmp s) ∙ h in cc)

-- The same for a table that equals the empty one.
pub clear_plain : (m : CompressionTable) (a n : ℕ) → m ≡ nothing → IsClear m a n
clear_plain m a n e = subst (λ (q : CompressionTable). IsClear q a n) (sym e) (clear_nothing a n)
