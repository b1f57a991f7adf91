-- RDATA compares in canonical form as its fields do, one by one: no field is a proper prefix of another such field.
use Rattle.std.proofs.Common.{◌≡◌, ℕ, ◌≤◌, Bool, true, false, List, [], ◌∷◌, ◌++◌, length, drop, length-append, append_assoc, ap, sym, ◌∙◌, subst, refl, arith}
use Rattle.std.specs.Char.{to_ascii_lowercase}
use Rattle.std.specs.Cmp.Lexicographic.{slice_cmp}
use Rattle.std.specs.List.{All}
use Rattle.std.specs.Ordering.{nat_cmp, ordering_then}
use Rattle.std.specs.declared.cmp.Ordering.{Ordering}
use Rattle.std.specs.declared.cmp.Ordering.TheVariants.{Less, Equal, Greater}
use Rattle.std.proofs.lemmas.Cmp.{ranked}
use Rattle.std.proofs.lemmas.List.{append-nil, length-map}
use Rattle.std.proofs.Math.Seq.{drop-append_seam}
use Rattle.std.proofs.lemmas.List.Elements.{All-tail}
use Rattle.dns_name.specs.Names.{Labels, IsLabel, IsName, lowered, uncompressed}
use Rattle.dns_wire.specs.Parts.{Part, AreParts}
use Rattle.dns_wire.specs.Parts.Part.{Octets as OctetsPart, CompressibleName, UncompressedName as UncompressedPart}
use Rattle.dns_data.specs.CanonicalOrders.{octet_order}
use Rattle.dns_data.specs.Layout.{Layout, string_size, octets_size, IsLaidOut}
use Rattle.dns_data.specs.RecordData.{canonical}
use Rattle.fields_table.specs.declared.kind.Kind.{Kind}
use Rattle.fields_table.specs.declared.shape.Shape.{Shape}
use Rattle.fields_table.specs.declared.shape.Shape.TheVariants.{Octets, Counted, Sized, Name, UncompressedName, Rest}
use Rattle.fields_table.specs.Accepts.{accepts}
use Rattle.fields_table.specs.DataOrders.{octets_of_parts}
use Rattle.fields_table.specs.FieldOrders.{field_order}
use Rattle.fields_table.specs.Layouts.{field_layout, layout_of}
use Rattle.fields_table.specs.Shapes.{shape_of}
use Rattle.fields_text.proofs.theory.WordLists.{empty_is}

-- neither list is a proper prefix of the other
pub record NoPrefix (a b : List ℕ) : Type 0 where
  pub left : (s : List ℕ) → a ++ s ≡ b → s ≡ []
  pub right : (s : List ℕ) → b ++ s ≡ a → s ≡ []

-- the first octets decide, or are equal and the remaining octets decide
first_octets : (x y : ℕ) (a b us vs : List ℕ) (o : Ordering) → o ≡ nat_cmp x y
    → (x ≡ y → octet_order (a ++ us) (b ++ vs) ≡ ordering_then (octet_order a b) (octet_order us vs))
    → ordering_then o (octet_order (a ++ us) (b ++ vs)) ≡ ordering_then (ordering_then o (octet_order a b)) (octet_order us vs)
first_octets x y a b us vs Less e go = refl
first_octets x y a b us vs Equal e go = go (ranked x y Equal e)
first_octets x y a b us vs Greater e go = refl

-- if neither of two lists is a proper prefix of the other, they decide unless they are equal
pub apart : (a b us vs : List ℕ) → NoPrefix a b → octet_order (a ++ us) (b ++ vs) ≡ ordering_then (octet_order a b) (octet_order us vs)
apart [] [] us vs h = refl
apart [] (y ∷ b) us vs h = let e = h.left (y ∷ b) refl in cc
apart (x ∷ a) [] us vs h = let e = h.right (x ∷ a) refl in cc
apart (x ∷ a) (y ∷ b) us vs h =
    first_octets x y a b us vs (nat_cmp x y) refl (λ same.
    apart a b us vs (record {
      left = λ s e. h.left s (ap (λ (l : List ℕ). x ∷ l) e ∙ ap (λ z. z ∷ b) same);
      right = λ s e. h.right s (ap (λ (l : List ℕ). y ∷ l) e ∙ ap (λ z. z ∷ a) (sym same));
    }))

-- Of octets of one length, none is a prefix of others.
pub same_length : (a b : List ℕ) → length a ≡ length b → NoPrefix a b
same_length a b e = record {
  left = λ s is. empty_is s (omega (arith, length-append a s, ap length is));
  right = λ s is. empty_is s (omega (arith, length-append b s, ap length is));
}

counted_front : (a b : List ℕ) → length a ≡ string_size a 0 → length b ≡ string_size b 0 → (s : List ℕ) → a ++ s ≡ b → s ≡ []
counted_front [] b h k s is = absurd (omega arith)
counted_front (x ∷ a) b h k s is =
    let size : string_size (x ∷ a) 0 ≡ string_size b 0 = ap (λ (l : List ℕ). string_size l 0) is in
    empty_is s (omega (arith, length-append (x ∷ a) s, ap length is))

-- Of counted strings, none is a prefix of another.
pub counted : (a b : List ℕ) → length a ≡ string_size a 0 → length b ≡ string_size b 0 → NoPrefix a b
counted a b h k = record { left = counted_front a b h k; right = counted_front b a k h }

sized_front : (a b : List ℕ) → length a ≡ octets_size a 0 → length b ≡ octets_size b 0 → (s : List ℕ) → a ++ s ≡ b → s ≡ []
sized_front [] b h k s is = absurd (omega arith)
sized_front (x ∷ []) b h k s is = absurd (omega arith)
sized_front (x ∷ y ∷ a) b h k s is =
    let size : octets_size (x ∷ y ∷ a) 0 ≡ octets_size b 0 = ap (λ (l : List ℕ). octets_size l 0) is in
    empty_is s (omega (arith, length-append (x ∷ y ∷ a) s, ap length is))

-- Of octets with their size, none is a prefix of others.
pub sized : (a b : List ℕ) → length a ≡ octets_size a 0 → length b ≡ octets_size b 0 → NoPrefix a b
sized a b h k = record { left = sized_front a b h k; right = sized_front b a k h }

-- Names.

-- each label has an octet
abbrev Filled : Labels → Type 0
Filled [] = Unit {0}
Filled (label ∷ name) = (1 ≤ length label) × Filled name

filled : (name : Labels) → All IsLabel name → Filled name
filled [] h = tt
filled (label ∷ name) h = let first : IsLabel label = h 0 label (omega arith) in (first.some, filled name (All-tail IsLabel label name h))

filled_lowered : (name : Labels) → Filled name → Filled (lowered name)
filled_lowered [] h = tt
filled_lowered (label ∷ name) h = let e = length-map label to_ascii_lowercase in let n = h.0 in (omega arith, filled_lowered name h.1)

name_front : (m n : Labels) → Filled m → Filled n → (s : List ℕ) → uncompressed m ++ s ≡ uncompressed n → s ≡ []
name_front [] [] f g s is = cc
name_front [] (l ∷ n) f g s is = let some = g.0 in let e : 0 ≡ length l = cc in absurd (omega arith)
name_front (k ∷ m) [] f g s is = let some = f.0 in let e : length k ≡ 0 = cc in absurd (omega arith)
name_front (k ∷ m) (l ∷ n) f g s is =
    let e : length k ≡ length l = cc in
    let rest : (k ++ uncompressed m) ++ s ≡ l ++ uncompressed n = cc in
    let tail : uncompressed m ++ s ≡ uncompressed n =
    sym (drop-append_seam k (uncompressed m ++ s)) ∙ ap (drop (length k)) (sym (append_assoc k (uncompressed m) s) ∙ rest)
    ∙ ap (λ n'. drop n' (l ++ uncompressed n)) e ∙ drop-append_seam l (uncompressed n) in
    name_front m n f.1 g.1 s tail

names : (m n : Labels) → Filled m → Filled n → NoPrefix (uncompressed m) (uncompressed n)
names m n f g = record { left = name_front m n f g; right = name_front n m g f }

-- RDATA.

-- RDATA of this layout compares as its fields do
abbrev pub ComparesByFields : Layout → Type 0
ComparesByFields layout = (ps qs : List Part) → IsLaidOut layout ps → IsLaidOut layout qs → AreParts ps → AreParts qs
    → slice_cmp (field_order true) ps qs ≡ octet_order (octets_of_parts (canonical ps)) (octets_of_parts (canonical qs))

then_none : (o : Ordering) → ordering_then o Equal ≡ o
then_none Less = refl
then_none Equal = refl
then_none Greater = refl

-- a field, and then fields that compare so
step : (a b us vs : List ℕ) (o : Ordering) → NoPrefix a b → o ≡ octet_order us vs → ordering_then (octet_order a b) o ≡ octet_order (a ++ us) (b ++ vs)
step a b us vs o h e = ap (ordering_then (octet_order a b)) e ∙ sym (apart a b us vs h)

last : (ps qs : List Part) (xs ys : List ℕ) → ps ≡ OctetsPart xs ∷ [] → qs ≡ OctetsPart ys ∷ []
    → slice_cmp (field_order true) ps qs ≡ octet_order (octets_of_parts (canonical ps)) (octets_of_parts (canonical qs))
last ps qs xs ys e f =
    let single : ordering_then (octet_order xs ys) Equal ≡ octet_order (xs ++ []) (ys ++ []) = then_none (octet_order xs ys) ∙ rw (append-nil xs, append-nil ys) refl in
    let P : List Part → List Part → Type 0 = λ l m. slice_cmp (field_order true) l m ≡ octet_order (octets_of_parts (canonical l)) (octets_of_parts (canonical m)) in
    subst (λ (l : List Part). P l qs) (sym e) (subst (λ (m : List Part). P (OctetsPart xs ∷ []) m) (sym f) single)

-- the octets of two names with the same flag
flagged : (lowers : Bool) (m n : Labels) → IsName m → IsName n
    → NoPrefix (uncompressed (elim lowers as (λ _. Labels) [ true ↦ lowered m | false ↦ m ])) (uncompressed (elim lowers as (λ _. Labels) [ true ↦ lowered n | false ↦ n ]))
flagged true m n f g = names (lowered m) (lowered n) (filled_lowered m (filled m f.labels)) (filled_lowered n (filled n g.labels))
flagged false m n f g = names m n (filled m f.labels) (filled n g.labels)

field_compares : (s : Shape) (test : List ℕ → Bool) (others : Layout) → ComparesByFields others → ComparesByFields (field_layout s test others)
field_compares Rest test others go ps qs h k f g = last ps qs h.0 k.0 h.1 k.1
field_compares (Octets n) test others go (OctetsPart xs ∷ ps) (OctetsPart ys ∷ qs) h k f g =
    step xs ys _ _ _ (same_length xs ys (h.0 ∙ sym k.0)) (go ps qs h.1 k.1 f g)
field_compares (Octets n) test others go (OctetsPart xs ∷ ps) _ h k f g = absurd k
field_compares (Octets n) test others go _ qs h k f g = absurd h
field_compares Counted test others go (OctetsPart xs ∷ ps) (OctetsPart ys ∷ qs) h k f g =
    step xs ys _ _ _ (counted xs ys h.0 k.0) (go ps qs h.1 k.1 f g)
field_compares Counted test others go (OctetsPart xs ∷ ps) _ h k f g = absurd k
field_compares Counted test others go _ qs h k f g = absurd h
field_compares Sized test others go (OctetsPart xs ∷ ps) (OctetsPart ys ∷ qs) h k f g =
    step xs ys _ _ _ (sized xs ys h.0 k.0) (go ps qs h.1 k.1 f g)
field_compares Sized test others go (OctetsPart xs ∷ ps) _ h k f g = absurd k
field_compares Sized test others go _ qs h k f g = absurd h
field_compares Name test others go (CompressibleName x ∷ ps) (CompressibleName y ∷ qs) h k f g =
    step (uncompressed (lowered x)) (uncompressed (lowered y)) _ _ _ (flagged true x y f.0 g.0) (go ps qs h k f.1 g.1)
field_compares Name test others go (CompressibleName x ∷ ps) _ h k f g = absurd k
field_compares Name test others go _ qs h k f g = absurd h
field_compares (UncompressedName pointers true) test others go (UncompressedPart true x ∷ ps) (UncompressedPart true y ∷ qs) h k f g =
    step (uncompressed (lowered x)) (uncompressed (lowered y)) _ _ _ (flagged true x y f.0 g.0) (go ps qs h.1 k.1 f.1 g.1)
field_compares (UncompressedName pointers false) test others go (UncompressedPart false x ∷ ps) (UncompressedPart false y ∷ qs) h k f g =
    step (uncompressed x) (uncompressed y) _ _ _ (flagged false x y f.0 g.0) (go ps qs h.1 k.1 f.1 g.1)
field_compares (UncompressedName pointers true) test others go (UncompressedPart true x ∷ ps) (UncompressedPart false y ∷ qs) h k f g = let e = k.0 in cc
field_compares (UncompressedName pointers true) test others go (UncompressedPart true x ∷ ps) _ h k f g = absurd k
field_compares (UncompressedName pointers true) test others go (UncompressedPart false x ∷ ps) qs h k f g = let e = h.0 in cc
field_compares (UncompressedName pointers false) test others go (UncompressedPart false x ∷ ps) (UncompressedPart true y ∷ qs) h k f g = let e = k.0 in cc
field_compares (UncompressedName pointers false) test others go (UncompressedPart false x ∷ ps) _ h k f g = absurd k
field_compares (UncompressedName pointers false) test others go (UncompressedPart true x ∷ ps) qs h k f g = let e = h.0 in cc
field_compares (UncompressedName pointers lowers) test others go _ qs h k f g = absurd h

none_compare : (ps qs : List Part) → ps ≡ [] → qs ≡ [] → slice_cmp (field_order true) ps qs ≡ octet_order (octets_of_parts (canonical ps)) (octets_of_parts (canonical qs))
none_compare [] [] h k = refl
none_compare (p ∷ ps) qs h k = cc
none_compare [] (q ∷ qs) h k = cc

-- RDATA compares as its fields do, one after the other.
pub fields_compare : (kinds : List Kind) → ComparesByFields (layout_of kinds)
unfolding layout_of
fields_compare [] ps qs h k f g = none_compare ps qs h k
fields_compare (kind ∷ kinds) ps qs h k f g = field_compares (shape_of kind) (accepts kind) (layout_of kinds) (fields_compare kinds) ps qs h k f g
