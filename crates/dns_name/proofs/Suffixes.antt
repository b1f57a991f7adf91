-- Names that start or end with the labels of another.
use Rattle.std.proofs.Common.{◌≡◌, ◌↔◌, List, [], ◌∷◌, arith, ap, refl, inl, inr}
use Rattle.std.specs.Prelude.{All, ◌⊎◌, ⊤}
use Rattle.std.proofs.lemmas.List.Elements.{All-head, All-tail}
use Rattle.dns_name.specs.Names.{Labels, IsLabel, lowered_label, lowered, with_root}
use Rattle.dns_name.specs.Suffixes.{suffixes, NameStartsWith, NameEndsWith}

-- The labels before the root label of the second are the first labels, ignoring ASCII case.
abbrev pub Starts : Labels → Labels → Type 0
Starts labels [] = ⊤
Starts labels ([] ∷ base) = ⊤
Starts [] ((o ∷ label) ∷ base) = ⊥
Starts (first ∷ labels) ((o ∷ label) ∷ base) = (lowered_label first ≡ lowered_label (o ∷ label)) × Starts labels base

-- With the root labels, this is that the name starts with `base`.
pub starts_with_root : (name base : Labels) → All IsLabel base → Starts (with_root name) (with_root base) ↔ NameStartsWith name base
starts_with_root name [] h = (λ s. (lowered name, refl), λ s. tt)
starts_with_root name ([] ∷ base) h = let some = (All-head IsLabel [] base h).some in absurd (omega (arith, some))
starts_with_root [] ((o ∷ label) ∷ base) h = (λ s. let none = s.0 in cc, λ s. let none = s.1 in cc)
starts_with_root (first ∷ name) ((o ∷ label) ∷ base) h =
    let others = starts_with_root name base (All-tail IsLabel (o ∷ label) base h) in (
      λ s. let rest = others.0 s.1 in let e = s.0 in let f = rest.1 in (rest.0, cc (e, f)),
      λ s. let e = s.1 in (cc e, others.1 (s.0, cc e)),
    )

-- One of these names is `base`, ignoring ASCII case.
abbrev pub IsAmong : List Labels → Labels → Type 0
IsAmong [] base = ⊥
IsAmong (name ∷ names) base = (lowered name ≡ lowered base) ⊎ IsAmong names base

-- A name ends with `base` exactly if `base` is one of its suffixes.
pub among_suffixes : (name base : Labels) → IsAmong (suffixes name) base ↔ NameEndsWith name base
among_suffixes [] base = (to, from)
  where
    to : IsAmong (suffixes []) base → NameEndsWith [] base
    to (inl e) = ([], e)
    to (inr none) = absurd none

    from : NameEndsWith [] base → IsAmong (suffixes []) base
    from ([], e) = inl e
    from (label ∷ before, e) = cc e
among_suffixes (label ∷ name) base = let others = among_suffixes name base in (to others.0, from others.1)
  where
    to : (IsAmong (suffixes name) base → NameEndsWith name base) → IsAmong (suffixes (label ∷ name)) base → NameEndsWith (label ∷ name) base
    to parent (inl e) = ([], e)
    to parent (inr h) = let e = parent h in (lowered_label label ∷ e.0, ap (λ (n : Labels). lowered_label label ∷ n) e.1)

    from : (NameEndsWith name base → IsAmong (suffixes name) base) → NameEndsWith (label ∷ name) base → IsAmong (suffixes (label ∷ name)) base
    from parent ([], e) = inl e
    from parent (first ∷ before, e) = inr (parent (before, cc e))
