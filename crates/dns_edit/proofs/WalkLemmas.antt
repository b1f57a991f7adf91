-- A walk over the encoding of a name, which marks its labels.
use Rattle.std.proofs.Common.{◌≡◌, ◌∙◌, ℕ, ◌+◌, ◌*◌, ◌<◌, ◌≤◌, ◌⊎◌, inl, inr, List, ◌∷◌, length, min, arith, refl, subst, sym}
use Rattle.std.specs.Prelude.{Ok}
use Rattle.std.proofs.lemmas.Bool.{cases_eq}
use Rattle.std.proofs.lemmas.Option.{slice_get_within}
use Rattle.dns_name.specs.Names.{head_at, pointer_end, NameEndsAt}
use Rattle.dns_name.specs.declared.head.Head.TheVariants.{Root, Label, Pointer}
use Rattle.dns_name.proofs.theory.HeadLemmas.{label_there}
use Rattle.dns_edit.specs.Marks.{IsMarked, MarksLabels, SetsMark}
use Rattle.dns_edit.specs.Pointers.{AcceptsName, IsLabelBefore, LabelOf, LabelOfAny, PointsTo}

-- what begins at an offset decides which label and which pointer follow

module _ {b : List ℕ} where
  label_within : {p t : ℕ} → LabelOf b p t → t < length b
  label_within (LabelOf.first {p = p} {n = n} h) = slice_get_within b p n (label_there b p n h)
  label_within (LabelOf.later h x) = label_within x

  -- If a name begins with a label, each of its labels is this one or a label of the name after it.
  pub label_next : {p n t : ℕ} → head_at b p ≡ Ok (Label n) → LabelOf b p t → (t ≡ p) ⊎ LabelOf b (p + 1 + n) t
  label_next h (LabelOf.first g) = inl refl
  label_next {p = p} {n = n} {t = t} h (LabelOf.later {n = k} g x) =
      let e : k ≡ n = cc in inr (subst (λ n. LabelOf b (p + 1 + n) t) e x)

  -- If the encoding of a name begins with the root label, no label begins in it.
  pub no_label_at_root : {p t : ℕ} → head_at b p ≡ Ok Root → LabelOf b p t → ⊥
  no_label_at_root h (LabelOf.first g) = cc
  no_label_at_root h (LabelOf.later g x) = cc

  -- If the encoding of a name begins with a pointer, no label begins in it.
  pub no_label_at_pointer : {p t u : ℕ} → head_at b p ≡ Ok (Pointer u) → LabelOf b p t → ⊥
  no_label_at_pointer h (LabelOf.first g) = cc
  no_label_at_pointer h (LabelOf.later g x) = cc

  -- If a name begins with a label and ends with a pointer, the encoding after the label ends with the same pointer.
  pub pointer_next : {p n t : ℕ} → head_at b p ≡ Ok (Label n) → PointsTo b p t → PointsTo b (p + 1 + n) t
  pointer_next h (PointsTo.pointer g) = cc
  pointer_next {p = p} {n = n} {t = t} h (PointsTo.label {n = k} g x) =
      let e : k ≡ n = cc in subst (λ n. PointsTo b (p + 1 + n) t) e x

  -- If the encoding of a name begins with the root label, it doesn't end with a pointer.
  pub no_pointer_at_root : {p t : ℕ} → head_at b p ≡ Ok Root → PointsTo b p t → ⊥
  no_pointer_at_root h (PointsTo.pointer g) = cc
  no_pointer_at_root h (PointsTo.label g x) = cc

  -- If the encoding of a name begins with a pointer, this is the pointer that ends it.
  pub pointer_here : {p t u : ℕ} → head_at b p ≡ Ok (Pointer u) → PointsTo b p t → t ≡ u
  pointer_here h (PointsTo.pointer g) = cc
  pointer_here h (PointsTo.label g x) = cc

-- From `start` to `pos` there are only labels, and their offsets were marked.
pub record Walking (b : List ℕ) (start pos : ℕ) (old new : List ℕ) : Type 0 where
  pub from : start ≤ pos
  pub long : length new ≡ length old
  pub points : (t : ℕ) → PointsTo b start t → PointsTo b pos t
  pub points_back : (t : ℕ) → PointsTo b pos t → PointsTo b start t
  pub labels_back : (t : ℕ) → LabelOf b pos t → LabelOf b start t
  pub kept : (t : ℕ) → IsMarked old t → IsMarked new t
  pub set : (t : ℕ) → IsMarked new t → IsMarked old t ⊎ ((start ≤ t) × LabelOf b start t)
  pub labels : (t : ℕ) → LabelOf b start t → t < length old * 8 → IsMarked new t ⊎ LabelOf b pos t

-- The walk goes on after a label.
pub walking_label : (b : List ℕ) (start pos n pos' : ℕ) (old mid new : List ℕ) → Walking b start pos old mid → head_at b pos ≡ Ok (Label n)
    → SetsMark mid new pos → pos' ≡ pos + 1 + n → Walking b start pos' old new
walking_label b start pos n pos' old mid new w h sets e =
    let P : ℕ → Type 0 = λ pos'. Walking b start pos' old new in
    let from = w.from in
    subst P (sym e) (record {
      from = omega arith;
      long = sets.long ∙ w.long;
      points = λ t x. pointer_next h (w.points t x);
      points_back = λ t x. w.points_back t (PointsTo.label h x);
      labels_back = λ t x. w.labels_back t (LabelOf.later h x);
      kept = λ t m. sets.kept t (w.kept t m);
      set = λ t m. elim (cases_eq t pos) [
        | inl here ↦ inr (omega arith, subst (λ t. LabelOf b start t) (sym here) (w.labels_back pos (LabelOf.first h)))
        | inr ne ↦ w.set t (sets.others t m ne)
      ];
      labels = λ t x l. elim (w.labels t x l) [
        | inl m ↦ inl (sets.kept t m)
        | inr y ↦ elim (label_next h y) [
          | inl here ↦
              let long = w.long in
              let inside : pos < length mid * 8 = omega arith in
              inl (subst (λ t. IsMarked new t) (sym here) (sets.set inside))
          | inr z ↦ inr z
        ]
      ];
    })

-- after the last label all labels of the name are marked
marked_all : (b : List ℕ) (start pos : ℕ) (old new : List ℕ) → Walking b start pos old new → ((t : ℕ) → LabelOf b pos t → ⊥)
    → (names : List ℕ) → MarksLabels b names old → MarksLabels b (start ∷ names) new
marked_all b start pos old new w last names m = record {
  enough = subst (λ n. min (length b) pointer_end ≤ n * 8) (sym w.long) m.enough;
  set = λ t h. elim (w.set t h) [ inl before ↦ inr (m.set t before) | inr own ↦ inl own.1 ];
  labels = λ t x l. elim x [
    | inl own ↦
        let within = label_within own in
        let enough = m.enough in
        elim (w.labels t own (omega arith)) [ inl h ↦ h | inr y ↦ absurd (last t y) ]
    | inr before ↦ w.kept t (m.labels t before l)
  ];
}

-- The walk ends after a root label.
pub walked_root : (b : List ℕ) (start pos end : ℕ) (old new : List ℕ) → Walking b start pos old new → head_at b pos ≡ Ok Root → NameEndsAt b start end
    → (names : List ℕ) → MarksLabels b names old → AcceptsName b names start end (start ∷ names) × MarksLabels b (start ∷ names) new
walked_root b start pos end old new w h ends names m = (
  record { ends = ends; back = λ t x. absurd (no_pointer_at_root h (w.points t x)); added = refl },
  marked_all b start pos old new w (λ t x. no_label_at_root h x) names m,
)

-- The walk ends after a pointer.
pub walked_pointer : (b : List ℕ) (start pos end u : ℕ) (old new : List ℕ) → Walking b start pos old new → head_at b pos ≡ Ok (Pointer u) → NameEndsAt b start end
    → u < start → IsMarked new u
    → (names : List ℕ) → MarksLabels b names old → AcceptsName b names start end (start ∷ names) × MarksLabels b (start ∷ names) new
walked_pointer b start pos end u old new w h ends less set names m =
    let there : LabelOfAny b names u = elim (w.set u set) [ inl before ↦ m.set u before | inr own ↦ let l = own.0 in absurd (omega arith) ] in (
      record {
        ends = ends;
        back = λ t x. subst (λ t. IsLabelBefore b names start t) (sym (pointer_here h (w.points t x))) (less, there);
        added = refl;
      },
      marked_all b start pos old new w (λ t x. no_label_at_pointer h x) names m,
    )

-- the pointer leads to no label before the name
pub walked_nowhere : (b : List ℕ) (start pos u : ℕ) (old new : List ℕ) → Walking b start pos old new → u < pointer_end
    → ((u < start) × IsMarked new u → ⊥)
    → (names : List ℕ) → MarksLabels b names old → IsLabelBefore b names start u → ⊥
walked_nowhere b start pos u old new w small unmarked names m before = unmarked (before.0, w.kept u (m.labels u before.1 small))
