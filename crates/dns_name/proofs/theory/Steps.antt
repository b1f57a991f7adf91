-- One step of an iterator over labels, from the front and from the back.
use Rattle.std.proofs.Common.{◌≡◌, ℕ, zero, suc, ◌+◌, ◌-◌, ◌<◌, ◌≤◌, ◌≢◌, List, [], ◌∷◌, ◌++◌, length, length-append, take, drop, arith, ap, sym, ◌∙◌, refl, subst}
use Rattle.dns_name.specs.Names.{Labels, name_size, with_root, NameAt}
use Rattle.dns_name.specs.Unique.{same_name, NameOfSize, LabelsTake, LabelsAt, LabelsAt-prop, one_count, encoded_short}
use Rattle.dns_name.specs.ParsedName.{IsFirst, label_octets}
use Rattle.dns_name.specs.declared.label.Label.{Label}
use Rattle.dns_name.proofs.theory.LabelsLemmas.{length-with_root, name_size-with_root}

-- The sizes of consecutive labels add up.
pub name_size-append : (xs ys : Labels) → name_size (xs ++ ys) ≡ name_size xs + name_size ys
name_size-append [] ys = omega arith
name_size-append (x ∷ xs) ys = omega (arith, name_size-append xs ys)

take_all : (xs : Labels) → take (length xs) xs ≡ xs
take_all [] = refl
take_all (x ∷ xs) = ap (λ (ys : Labels). x ∷ ys) (take_all xs)

module _ (b : List ℕ) where
  -- All labels of an encoded name, with the root label.
  pub all_labels : (p size : ℕ) → NameOfSize b p size → LabelsAt b p (size + 1)
  all_labels p size n =
      (n.0, (length (with_root n.0.0), (omega arith, ap name_size (take_all (with_root n.0.0)) ∙ name_size-with_root n.0.0 ∙ ap (λ k. k + 1) n.1)))

  -- If the remaining labels take all octets of the encoded name, they are all its labels, with the root label.
  pub all_left : (p size : ℕ) (m : LabelsAt b p (size + 1)) (n : NameOfSize b p size) (name : Labels) → NameAt b p name → take m.1.0 (with_root m.0.0) ≡ with_root name
  unfolding all_labels
  all_left p size m n name s =
      let w : LabelsAt b p (size + 1) = all_labels p size n in
      ap (λ (m : LabelsAt b p (size + 1)). take m.1.0 (with_root m.0.0)) (LabelsAt-prop b p (size + 1) m w)
      ∙ take_all (with_root n.0.0) ∙ ap with_root (same_name b n.0.1 s)

  -- The remaining labels take at most 255 octets.
  pub left_small : (p left : ℕ) → LabelsAt b p left → left ≤ 255
  left_small p left n =
      let e = n.1.1.1 in
      let f : name_size (take n.1.0 (with_root n.0.0)) ≤ name_size (with_root n.0.0) = name_size-take n.1.0 (with_root n.0.0) in
      omega (arith, name_size-with_root n.0.0, encoded_short n.0.1)
    where
      name_size-take : (k : ℕ) (xs : Labels) → name_size (take k xs) ≤ name_size xs
      name_size-take zero xs = omega arith
      name_size-take (suc k) [] = omega arith
      name_size-take (suc k) (x ∷ xs) = omega (arith, name_size-take k xs)

  -- What remains after the first label.
  record After (next_offset left : ℕ) (labels : Labels) (l : Label) : Type 0 where
    fits : length (label_octets l) + 1 ≤ left
    rest : LabelsAt b next_offset (left - (length (label_octets l) + 1))
    gives : labels ≡ label_octets l ∷ take rest.1.0 (with_root rest.0.0)

  after : (next_offset left count : ℕ) (name : Labels) (l : Label) → left ≢ 0 → IsFirst b name l next_offset
      → LabelsTake (with_root name) left count → After next_offset left (take count (with_root name)) l
  after next_offset left zero name l some f c = absurd (some (sym c.1))
  after next_offset left (suc k) [] l some f c =
      let none : k ≡ 0 = omega (arith, c.0) in
      let P : ℕ → Type 0 = λ k. LabelsTake (with_root []) left (suc k) → After next_offset left (take (suc k) (with_root [])) l in
      let none_left : length (label_octets l) ≡ 0 = ap length f.0 in
      subst P (sym none) (λ c. record {
        fits = omega (arith, c.1);
        rest = (([], f.1), (0, (omega arith, omega (arith, c.1))));
        gives = ap (λ x. x ∷ []) (sym f.0);
      }) c
  after next_offset left (suc k) (first ∷ others) l some f c =
      let same : length (label_octets l) ≡ length first = ap length f.0 in
      record {
        fits = omega (arith, c.1);
        rest = ((others, f.1), (k, (omega (arith, c.0), omega (arith, c.1))));
        gives = ap (λ x. x ∷ take k (with_root others)) (sym f.0);
      }

  module _ (p left next_offset taken : ℕ) (l : Label) (t : taken ≡ length (label_octets l) + 1) (n : LabelsAt b p left) (some : left ≢ 0)
      (f : (name : Labels) → NameAt b p name → IsFirst b name l next_offset) where
    next : After next_offset left (take n.1.0 (with_root n.0.0)) l
    next = after next_offset left n.1.0 n.0.0 l some (f n.0.0 n.0.1) n.1.1

    -- The first label takes no more octets than all remaining labels.
    pub step_fits : taken ≤ left
    step_fits = let w = next.fits in omega (arith, w)

    -- After the step, labels that take the octets that are left are encoded at the next offset.
    pub step_has : LabelsAt b next_offset (left - taken)
    step_has = subst (λ k. LabelsAt b next_offset (left - k)) (sym t) next.rest

    -- The remaining labels are the first label and then those that remain after the step.
    pub step_gives : (m : LabelsAt b next_offset (left - taken)) → take n.1.0 (with_root n.0.0) ≡ label_octets l ∷ take m.1.0 (with_root m.0.0)
    step_gives = subst (λ k. (m : LabelsAt b next_offset (left - k)) → take n.1.0 (with_root n.0.0) ≡ label_octets l ∷ take m.1.0 (with_root m.0.0)) (sym t)
        (λ m. next.gives ∙ ap (λ (m : LabelsAt b next_offset (left - (length (label_octets l) + 1))). label_octets l ∷ take m.1.0 (with_root m.0.0)) (LabelsAt-prop b next_offset _ next.rest m))

    -- One label fewer remains.
    pub step_fewer : (m : LabelsAt b next_offset (left - taken)) → length (take m.1.0 (with_root m.0.0)) < length (take n.1.0 (with_root n.0.0))
    step_fewer m = let e = ap length (step_gives m) in omega (arith, e)

  -- A step from the back has skipped some labels, fewer than remain. They take `skipped` octets, and the labels after them are encoded at `pos`.
  pub record Skipped (name : Labels) (count pos skipped : ℕ) : Type 0 where
    pub number : ℕ
    pub before : number < count
    pub encoded : NameAt b pos (drop number name)
    pub size : name_size (take number (with_root name)) ≡ skipped

  -- At first a step from the back has skipped no label, if any label remains.
  pub skipped_none : (p left : ℕ) (n : LabelsAt b p left) → left ≢ 0 → Skipped n.0.0 n.1.0 p 0
  skipped_none p left n some = record { number = 0; before = first n.1.0 n.1.1; encoded = n.0.1; size = refl }
    where
      first : (count : ℕ) → LabelsTake (with_root n.0.0) left count → 0 < count
      first zero c = absurd (some (sym c.1))
      first (suc k) c = omega arith

  after_number : (next_offset k : ℕ) (l : Label) (name : Labels) → k < length name → IsFirst b (drop k name) l next_offset → NameAt b next_offset (drop (suc k) name)
  after_number next_offset k l [] h f = absurd (omega arith)
  after_number next_offset zero l (x ∷ name) h f = f.1
  after_number next_offset (suc k) l (x ∷ name) h f = after_number next_offset k l name (omega arith) f

  take_last : (next_offset k : ℕ) (l : Label) (name : Labels) → k ≤ length name → IsFirst b (drop k name) l next_offset
      → take (suc k) (with_root name) ≡ take k (with_root name) ++ label_octets l ∷ []
  take_last next_offset zero l [] h f = ap (λ x. x ∷ []) (sym f.0)
  take_last next_offset (suc k) l [] h f = absurd (omega arith)
  take_last next_offset zero l (x ∷ name) h f = ap (λ x. x ∷ []) (sym f.0)
  take_last next_offset (suc k) l (x ∷ name) h f = ap (λ xs. x ∷ xs) (take_last next_offset k l name (omega arith) f)

  module _ (p left pos skipped next_offset taken : ℕ) (l : Label) (n : LabelsAt b p left) (s : Skipped n.0.0 n.1.0 pos skipped)
      (f : (name : Labels) → NameAt b pos name → IsFirst b name l next_offset) (t : taken ≡ length (label_octets l) + 1) where
    abbrev name : Labels
    name = n.0.0

    within : s.number ≤ length name
    within = let e = length-with_root name in let c = n.1.1.0 in omega (arith, s.before)

    last : take (suc s.number) (with_root name) ≡ take s.number (with_root name) ++ label_octets l ∷ []
    last = take_last next_offset s.number l name within (f (drop s.number name) s.encoded)

    sizes : LabelsTake (with_root name) (skipped + taken) (suc s.number)
    sizes =
        let e = length-with_root name in let w = within in
        (omega arith, ap name_size last ∙ name_size-append (take s.number (with_root name)) (label_octets l ∷ []) ∙ (let z = s.size in omega arith))

    more : skipped + taken ≢ left → suc s.number < n.1.0
    more other =
        let differ : suc s.number ≢ n.1.0 = λ e. other (sym sizes.1 ∙ ap (λ k. name_size (take k (with_root name))) e ∙ n.1.1.1) in
        omega (arith, s.before)

    -- If this label isn't the last that remains, it is skipped too.
    pub step_on : skipped + taken ≢ left → Skipped name n.1.0 next_offset (skipped + taken)
    step_on other =
        let m = more other in
        let e = length-with_root name in let c = n.1.1.0 in
        record { number = suc s.number; before = m; encoded = after_number next_offset s.number l name (omega arith) (f (drop s.number name) s.encoded); size = sizes.1 }

    -- If this label is the last that remains, the labels that were skipped are those that remain after the step.
    pub back_has : skipped + taken ≡ left → LabelsAt b p skipped
    back_has all = let e = length-with_root name in let w = within in (n.0, (s.number, (omega arith, s.size)))

    -- If this label is the last that remains, the remaining labels are those that remain after the step and then this one.
    pub back_gives : skipped + taken ≡ left → (m : LabelsAt b p skipped) → take n.1.0 (with_root name) ≡ take m.1.0 (with_root m.0.0) ++ label_octets l ∷ []
    unfolding back_has
    back_gives all m =
        let counts : LabelsTake (with_root name) left (suc s.number) = subst (λ k. LabelsTake (with_root name) k (suc s.number)) all sizes in
        let e : n.1.0 ≡ suc s.number = one_count (with_root name) left n.1.0 (suc s.number) n.1.1 counts in
        ap (λ k. take k (with_root name)) e ∙ last
        ∙ ap (λ (m : LabelsAt b p skipped). take m.1.0 (with_root m.0.0) ++ label_octets l ∷ []) (LabelsAt-prop b p skipped (back_has all) m)

    -- One label fewer remains.
    pub back_fewer : skipped + taken ≡ left → (m : LabelsAt b p skipped) → length (take m.1.0 (with_root m.0.0)) < length (take n.1.0 (with_root name))
    back_fewer all m =
        let e = ap length (back_gives all m) ∙ length-append (take m.1.0 (with_root m.0.0)) (label_octets l ∷ []) in omega (arith, e)

  -- The skipped labels take fewer octets than the remaining ones.
  pub skipped_below : (p left pos skipped : ℕ) (n : LabelsAt b p left) → Skipped n.0.0 n.1.0 pos skipped → skipped < left
  skipped_below p left pos skipped n s = subst (λ k. k < left) s.size (subst (λ k. name_size (take s.number (with_root n.0.0)) < k) n.1.1.1 (fewer (with_root n.0.0) s.number n.1.0 s.before n.1.1.0))
    where
      fewer : (labels : Labels) (j k : ℕ) → j < k → k ≤ length labels → name_size (take j labels) < name_size (take k labels)
      fewer [] j k h w = absurd (omega arith)
      fewer (label ∷ labels) j zero h w = absurd (omega arith)
      fewer (label ∷ labels) zero (suc k) h w = omega arith
      fewer (label ∷ labels) (suc j) (suc k) h w = omega (arith, fewer labels j k (omega arith) (omega arith))
