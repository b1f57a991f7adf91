-- The parent of an encoded name.
use Rattle.std.proofs.Common.{◌≡◌, ℕ, ◌+◌, ◌-◌, ◌≤◌, List, [], ◌∷◌, length, drop, arith, ap, refl}
use Rattle.dns_name.specs.Names.{Labels, name_size}
use Rattle.dns_name.specs.Unique.{NameOfSizeAndCount}
use Rattle.dns_name.specs.ParsedName.{label_octets, IsFirst}
use Rattle.dns_name.specs.declared.label.Label.{Label}

-- The parent of a name is encoded at p. The name's first label has n octets.
pub record ParentAt (b : List ℕ) (name : Labels) (n p size count : ℕ) : Type 0 where
  pub fits : n + 1 ≤ size
  pub some : 1 ≤ count
  pub parent : NameOfSizeAndCount b p (size - (n + 1)) (count - 1)
  pub is_parent : parent.0.0 ≡ drop 1 name

-- It is encoded where the name's first label ends.
pub parent_at : (b : List ℕ) (name : Labels) (l : Label) (p size count : ℕ) → IsFirst b name l p → name_size name ≡ size → length name ≡ count
    → (name ≡ [] → ⊥) → ParentAt b name (length (label_octets l)) p size count
parent_at b [] l p size count f s n some = absurd (some refl)
parent_at b (first ∷ others) l p size count f s n some =
    let same : length (label_octets l) ≡ length first = ap length f.0 in
    record {
      fits = omega (arith, s, same);
      some = omega (arith, n);
      parent = ((others, f.1), omega (arith, s, same), omega (arith, n));
      is_parent = refl;
    }
