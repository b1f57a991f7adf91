-- Keys of names that are written from their last octet.
use Rattle.std.proofs.Common.{◌≡◌, ℕ, ◌+◌, ◌<◌, ◌≤◌, List, [], ◌∷◌, ◌++◌, length, length-append, take, drop, get_or, refl, sym, ap, ◌∙◌, arith, append_assoc, append-nil}
use Rattle.std.specs.Prelude.{reverse, All}
use Rattle.std.specs.Char.{to_ascii_lowercase}
use Rattle.std.specs.List.{flat_map}
use Rattle.std.proofs.Math.Seq.{take-length, take-append_seam}
use Rattle.std.proofs.lemmas.Grind.{flat_map-append}
use Rattle.std.proofs.lemmas.List.{reverse-append, reverse-reverse, length-reverse, map-append, take_more}
use Rattle.std.proofs.lemmas.List.Elements.{All-head, All-tail}
use Rattle.dns_name.specs.Names.{Labels, IsLabel, IsName, lowered_label, with_root}
use Rattle.dnsm_text.specs.NameKeys.{octet_key, label_key, name_key}
use Rattle.dnsm_text.proofs.KeySizes.{name_key-cons, keys_are_short}

-- What octets of a label have in a key, from the last octet on.
unfoldable pub octets_back : List ℕ → List ℕ
octets_back octets = reverse (flat_map octet_key (lowered_label octets))

-- what a label has, from its final 0 on
octets_back-label : (label : List ℕ) → 0 ∷ octets_back label ≡ reverse (label_key label)
unfolding octets_back
octets_back-label label = sym (reverse-append (flat_map octet_key (lowered_label label)) (0 ∷ []))

-- the octet at the index comes before those to its left
octets_back-take : (label : List ℕ) (i : ℕ) → i < length label
    → octets_back (take (i + 1) label) ≡ reverse (octet_key (to_ascii_lowercase (get_or label i 0))) ++ octets_back (take i label)
unfolding octets_back
octets_back-take label i within =
    let o : ℕ = to_ascii_lowercase (get_or label i 0) in
    let front : List ℕ = flat_map octet_key (lowered_label (take i label)) in
    ap (λ xs. reverse (flat_map octet_key (lowered_label xs))) (take_more label i 0 within)
    ∙ ap (λ xs. reverse (flat_map octet_key xs)) (map-append to_ascii_lowercase (take i label) (get_or label i 0 ∷ []))
    ∙ ap reverse (flat_map-append octet_key (lowered_label (take i label)) (o ∷ []))
    ∙ ap (λ xs. reverse (front ++ xs)) (append-nil (octet_key o))
    ∙ reverse-append front (octet_key o)

-- The key so far and what the octets to the left have.
abbrev pub LabelFrom : List ℕ → List ℕ → ℕ → List ℕ → Type 0
LabelFrom key label i old = key ++ octets_back (take i label) ≡ old ++ reverse (label_key label)

-- After the final 0 no octet is written.
pub label_begun : (old key label : List ℕ) (n : ℕ) → n ≡ length label → key ≡ old ++ 0 ∷ [] → LabelFrom key label n old
label_begun old key label n all begun =
    ap (λ k. key ++ octets_back (take k label)) all ∙ ap (λ xs. key ++ octets_back xs) (take-length label)
    ∙ ap (λ k. k ++ octets_back label) begun ∙ append_assoc old (0 ∷ []) (octets_back label) ∙ ap (λ k. old ++ k) (octets_back-label label)

module _ (old key label : List ℕ) (i j o : ℕ) (step : j ≡ i + 1) (within : j ≤ length label) (lower : o ≡ to_ascii_lowercase (get_or label i 0)) where
  -- what the octets up to the index have
  next_back : octets_back (take j label) ≡ reverse (octet_key o) ++ octets_back (take i label)
  next_back =
      ap (λ k. octets_back (take k label)) step ∙ octets_back-take label i (omega arith)
      ∙ ap (λ p. reverse (octet_key p) ++ octets_back (take i label)) (sym lower)

  -- The next octet leaves those to its left.
  pub octet_pushed : (new : List ℕ) → LabelFrom key label j old → new ≡ key ++ reverse (octet_key o) → LabelFrom new label i old
  octet_pushed new kept pushed =
      ap (λ k. k ++ octets_back (take i label)) pushed ∙ append_assoc key (reverse (octet_key o)) (octets_back (take i label))
      ∙ ap (λ k. key ++ k) (sym next_back) ∙ kept

  -- There is capacity for it.
  pub octet_fits : LabelFrom key label j old → length old + length (label_key label) ≤ 504 → length key + length (octet_key o) ≤ 504
  octet_fits kept short =
      omega (
        arith,
        short,
        ap length kept,
        ap length next_back,
        length-append key (octets_back (take j label)),
        length-append (reverse (octet_key o)) (octets_back (take i label)),
        length-append old (reverse (label_key label)),
        length-reverse (octet_key o),
        length-reverse (label_key label),
      )

-- Before the first octet the label is written.
pub label_done : (old key label : List ℕ) (i : ℕ) → i ≡ 0 → LabelFrom key label i old → key ≡ old ++ reverse (label_key label)
unfolding octets_back
label_done old key label i none kept = sym (append-nil key) ∙ ap (λ k. key ++ octets_back (take k label)) (sym none) ∙ kept

-- What labels have in a key, from the last octet of the last one on. Root labels have nothing there.
unfoldable pub labels_back : Labels → List ℕ
labels_back [] = []
labels_back ([] ∷ name) = labels_back name
labels_back ((o ∷ label) ∷ name) = reverse (label_key (o ∷ label)) ++ labels_back name

-- a label that isn't the root label comes before those after it
labels_back-label : (label : List ℕ) (name : Labels) → (label ≡ [] → ⊥) → labels_back (label ∷ name) ≡ reverse (label_key label) ++ labels_back name
unfolding labels_back
labels_back-label [] name some = absurd (some refl)
labels_back-label (o ∷ label) name some = refl

-- a label that isn't empty
not_empty : (label : List ℕ) → IsLabel label → label ≡ [] → ⊥
not_empty [] is e = let some = is.some in omega arith
not_empty (o ∷ label) is e = cc

-- The labels of a name have its key.
pub labels_back-all : (name : Labels) → All IsLabel name → labels_back (with_root name) ≡ reverse (name_key name)
unfolding labels_back
labels_back-all [] h = refl
labels_back-all (label ∷ name) h =
    let is = All-head IsLabel label name h in
    labels_back-label label (with_root name) (not_empty label is)
    ∙ ap (λ k. reverse (label_key label) ++ k) (labels_back-all name (All-tail IsLabel label name h))
    ∙ sym (ap reverse (name_key-cons label name) ∙ reverse-append (name_key name) (label_key label))

-- The key so far and what the labels that are left have.
abbrev pub KeyFrom : List ℕ → Labels → Labels → Type 0
KeyFrom key left name = key ++ labels_back left ≡ reverse (name_key name)

module _ (name : Labels) (key label : List ℕ) (left others : Labels) (step : left ≡ label ∷ others) (kept : KeyFrom key left name) where
  -- the same with the next label apart
  kept_next : KeyFrom key (label ∷ others) name
  kept_next = ap (λ ls. key ++ labels_back ls) (sym step) ∙ kept

  -- A root label changes nothing.
  pub root_passed : label ≡ [] → KeyFrom key others name
  unfolding labels_back
  root_passed root = ap (λ l. key ++ labels_back (l ∷ others)) (sym root) ∙ kept_next

  module _ (some : label ≡ [] → ⊥) (octets : List ℕ) (same : octets ≡ label) where
    -- Any other label is written next.
    pub label_pushed : (new : List ℕ) → new ≡ key ++ reverse (label_key octets) → KeyFrom new others name
    label_pushed new pushed =
        ap (λ k. k ++ labels_back others) pushed ∙ append_assoc key (reverse (label_key octets)) (labels_back others)
        ∙ ap (λ l. key ++ (reverse (label_key l) ++ labels_back others)) same
        ∙ ap (λ k. key ++ k) (sym (labels_back-label label others some)) ∙ kept_next

    -- There is capacity for it.
    pub label_fits : IsName name → length key + length (label_key octets) ≤ 504
    label_fits is =
        let whole : key ++ (reverse (label_key octets) ++ labels_back others) ≡ reverse (name_key name) =
        ap (λ l. key ++ (reverse (label_key l) ++ labels_back others)) same ∙ ap (λ k. key ++ k) (sym (labels_back-label label others some)) ∙ kept_next in
        omega (
          arith,
          ap length whole,
          length-append key (reverse (label_key octets) ++ labels_back others),
          length-append (reverse (label_key octets)) (labels_back others),
          length-reverse (label_key octets),
          length-reverse (name_key name),
          keys_are_short name is,
        )

-- Before the first label no octet is written.
pub key_begun : (name left : Labels) (key : List ℕ) → IsName name → key ≡ [] → left ≡ with_root name → KeyFrom key left name
key_begun name left key is none all = ap (λ k. k ++ labels_back left) none ∙ ap labels_back all ∙ labels_back-all name is.labels

-- After the last one the key is written.
pub key_done : (name left : Labels) (key : List ℕ) → left ≡ [] → KeyFrom key left name → key ≡ reverse (name_key name)
unfolding labels_back
key_done name left key none kept = sym (append-nil key) ∙ ap (λ ls. key ++ labels_back ls) (sym none) ∙ kept

-- Octets that are replaced by as many others are those.
pub replaced : (xs ys : List ℕ) → length xs ≡ length ys → take (length xs) (ys ++ drop (length ys) xs) ≡ ys
replaced xs ys e = ap (λ n. take n (ys ++ drop (length ys) xs)) e ∙ take-append_seam ys (drop (length ys) xs)

-- A reversed key that is reversed again is the key.
pub key_reversed : (name : Labels) (xs ys : List ℕ) → xs ≡ reverse (name_key name) → ys ≡ reverse xs → ys ≡ name_key name
key_reversed name xs ys e r = r ∙ ap reverse e ∙ reverse-reverse (name_key name)
