-- The name that a message asks for, of which only the letter case may differ.
use Rattle.std.proofs.Common.{◌≡◌, ◌∙◌, ℕ, ◌+◌, List, [], ◌∷◌, ◌++◌, take, drop, length, append_assoc, arith, refl, sym, ap}
use Rattle.std.specs.Char.{to_ascii_lowercase}
use Rattle.std.proofs.lemmas.List.{length-map, map-append}
use Rattle.std.proofs.Math.Seq.{take-append_seam}
use Rattle.dns_octets.specs.Octets.{overwritten}
use Rattle.dns_name.specs.Names.{Labels, IsName, framed, label_at, lowered, lowered_label, uncompressed, NameAt}
use Rattle.dns_name.specs.Unique.{length_label}
use Rattle.dns_name.proofs.theory.UncompressedNames.{drop_label, drop_root, name_tail}
use Rattle.dns_wire.specs.Targets.{At}
use Rattle.dns_wire.proofs.theory.CompressedNames.{after_label, label_part, root_at}
use Rattle.dns_wire.proofs.theory.CompressedNames as octets_at
use Rattle.dns_code.specs.HeaderSection.{header_size}
use Rattle.dns_edit.specs.Case.{AsksFor, AsksForName, AsksForNames}
use Rattle.dns_edit.specs.Pointers.{PointsTo}
use Rattle.dns_edit.proofs.AgreeLemmas.{as_long}
use Rattle.dns_edit.proofs.AlikeLemmas.{NameAlike, name_alike}
use Rattle.dns_edit.proofs.CaseLemmas.{alike_points, asked_within, at_written, first_alike, lower, lower_overwritten, name_ends, name_there, some_octets}
use Rattle.dns_edit.proofs.WalkLemmas.{no_pointer_at_root, pointer_next}

-- uncompressed octets of a name have no pointer
no_pointer : {c : List ℕ} {t : ℕ} (p : ℕ) (name : Labels) → IsName name → At c p (uncompressed name) → PointsTo c p t → ⊥
no_pointer p [] is h x = no_pointer_at_root (root_at h) x
no_pointer p (label ∷ name) is h x =
    let t = name_tail label name is in
    let first = label_part label (uncompressed name) h in
    no_pointer (p + 1 + length label) name t.1 (after_label label (uncompressed name) h) (pointer_next (octets_at.label_begins t.0 first) x)

-- a name without pointer is encoded by its uncompressed octets
first_octets : {b : List ℕ} {p : ℕ} {name : Labels} → NameAt b p name → ((t : ℕ) → PointsTo b p t → ⊥) → (rest : List ℕ) × (drop p b ≡ uncompressed name ++ rest)
first_octets {b = b} (NameAt.root {p = p} h) free = (drop (p + 1) b, drop_root b p h)
first_octets {b = b} (NameAt.label {p = p} {n = n} {name = name} h fits x small) free =
    let y = first_octets x (λ t z. free t (PointsTo.label h z)) in
    let label = label_at b p n in
    let octets = uncompressed name in (
      y.0,
      drop_label b p n h ∙ ap (λ (ys : List ℕ). n ∷ (label ++ ys)) y.1 ∙ ap (λ (ys : List ℕ). n ∷ ys) (sym (append_assoc label octets y.0))
          ∙ ap (λ k. k ∷ ((label ++ octets) ++ y.0)) (sym (length_label b p n fits)),
    )
first_octets (NameAt.pointer {t = t} h back x) free = absurd (free t (PointsTo.pointer h))

-- names that are the same, ignoring ASCII case, have octets that are
same_octets : (xs ys : Labels) → lowered xs ≡ lowered ys → lower (uncompressed xs) ≡ lower (uncompressed ys)
same_octets [] [] e = refl
same_octets [] (y ∷ ys) e = cc
same_octets (x ∷ xs) [] e = cc
same_octets (x ∷ xs) (y ∷ ys) e =
    let first : lowered_label x ≡ lowered_label y = cc in
    let others : lowered xs ≡ lowered ys = cc in
    let n : length x ≡ length y = sym (length-map x to_ascii_lowercase) ∙ ap length first ∙ length-map y to_ascii_lowercase in
    let rest = same_octets xs ys others in
    map-append to_ascii_lowercase (framed x) (uncompressed xs)
    ∙ (λ i. to_ascii_lowercase (n i) ∷ (first i ++ rest i))
    ∙ sym (map-append to_ascii_lowercase (framed y) (uncompressed ys))

asked_name : (b : List ℕ) (name : Labels) → IsName name → AsksFor b (uncompressed name) → AsksForName b name
asked_name b name is asks =
    let xs = uncompressed name in
    let c = overwritten b header_size xs in
    let inside = asked_within b xs (some_octets name) asks in
    let at : At c header_size xs = at_written b xs header_size inside in
    let long : length c ≡ length b = sym (as_long b xs header_size inside) in
    let free = λ (t : ℕ) (x : PointsTo c header_size t). no_pointer header_size name is at x in
    let alike : NameAlike lowered_label c b header_size =
    (first_alike c b (sym (lower_overwritten b xs header_size asks.1)) (name_ends header_size 0 name is (omega (arith, is.short)) at) free).0 in
    let other = name_alike long alike (name_there header_size name is at) in
    record { some = asks.0; asked = other.name'; is_at = other.is_at; whole = λ t x. free t (alike_points alike x); same = other.alike }

asked_octets : (b : List ℕ) (name : Labels) → AsksForName b name → AsksFor b (uncompressed name)
asked_octets b name a =
    let y = first_octets a.is_at a.whole in
    let xs = uncompressed a.asked in
    let same = same_octets a.asked name a.same in
    let n : length (uncompressed name) ≡ length xs =
    sym (length-map (uncompressed name) to_ascii_lowercase) ∙ ap length (sym same) ∙ length-map xs to_ascii_lowercase in (
      a.some,
      ap (λ k. lower (take k (drop header_size b))) n ∙ ap (λ (ys : List ℕ). lower (take (length xs) ys)) y.1 ∙ ap lower (take-append_seam xs y.0) ∙ same,
    )

-- The octets of a name are asked for exactly if the name is.
pub asks_for_names : AsksForNames
asks_for_names b name is = (asked_name b name is, asked_octets b name)
