-- Names within others.
use Rattle.std.proofs.Common.{◌≡◌, ◌↔◌, ◌⊎◌, ◌∙◌, ℕ, inl, inr, List, [], ◌∷◌, Bool, true, false, ap, refl, sym}
use Rattle.std.specs.Bool.{Decides, one_answer}
use Rattle.std.specs.Prelude.{◌||◌, IsTrue}
use Rattle.dns_name.specs.Names.{Labels, lowered, lowered_label}
use Rattle.dns_name.specs.NameOrders.{names_equal, names_equal-Decides}
use Rattle.dns_name.specs.Suffixes.{NameEndsWith}
use Rattle.dns_reply.specs.Laws.{WithinIsSuffix}
use Rattle.dns_reply.specs.Owners.{is_within}

-- one of two tests passes
either : (a b : Bool) → (a || b) ≡ true → (a ≡ true) ⊎ (b ≡ true)
either true b e = inl refl
either false b e = inr e

first_passes : (a b : Bool) → a ≡ true → (a || b) ≡ true
first_passes true b e = refl
first_passes false b e = absurd (cc)

second_passes : (a b : Bool) → b ≡ true → (a || b) ≡ true
second_passes true b e = refl
second_passes false b e = e

-- the root is within the root alone
within_root : (other : Labels) → is_within [] other ≡ names_equal [] other
unfolding is_within
within_root other = refl

-- another name is within those that it is equal to, and those that its parent is within
within_cons : (label : List ℕ) (name other : Labels) → is_within (label ∷ name) other ≡ (names_equal (label ∷ name) other || is_within name other)
unfolding is_within
within_cons label name other = refl

-- the root ends with the root alone
root_ends : (other : Labels) → NameEndsWith [] other → lowered [] ≡ lowered other
root_ends other ([], e) = e
root_ends other (label ∷ before, e) = absurd (let f = e in cc)

-- A name is within another exactly if its last labels are those of the other.
pub within_decides : (name other : Labels) → Decides (is_within name other) (NameEndsWith name other)
within_decides [] other =
    let equal = names_equal-Decides [] other in
    (λ e. ([], equal.0 (sym (within_root other) ∙ e)), λ s. within_root other ∙ equal.1 (root_ends other s))
within_decides (label ∷ name) other = let others = within_decides name other in (to others.0, from others.1)
  where
    equal : Decides (names_equal (label ∷ name) other) (lowered (label ∷ name) ≡ lowered other)
    equal = names_equal-Decides (label ∷ name) other

    ends : (is_within name other ≡ true → NameEndsWith name other) → (names_equal (label ∷ name) other ≡ true) ⊎ (is_within name other ≡ true) → NameEndsWith (label ∷ name) other
    ends parent (inl e) = ([], equal.0 e)
    ends parent (inr h) = let s = parent h in (lowered_label label ∷ s.0, ap (λ (n : Labels). lowered_label label ∷ n) s.1)

    to : (is_within name other ≡ true → NameEndsWith name other) → is_within (label ∷ name) other ≡ true → NameEndsWith (label ∷ name) other
    to parent e = ends parent (either (names_equal (label ∷ name) other) (is_within name other) (sym (within_cons label name other) ∙ e))

    from : (NameEndsWith name other → is_within name other ≡ true) → NameEndsWith (label ∷ name) other → is_within (label ∷ name) other ≡ true
    from parent ([], e) = within_cons label name other ∙ first_passes (names_equal (label ∷ name) other) (is_within name other) (equal.1 e)
    from parent (first ∷ before, e) =
        within_cons label name other ∙ second_passes (names_equal (label ∷ name) other) (is_within name other) (parent (before, cc e))

-- The same, as a law.
pub within_is_suffix : WithinIsSuffix
within_is_suffix name other = within_decides name other

-- A test that is true exactly if a name ends with another says whether it is within that.
pub within_told : (r : Bool) (name other : Labels) → IsTrue r ↔ NameEndsWith name other → r ≡ is_within name other
within_told r name other told = one_answer r (is_within name other) told (within_decides name other)
