-- At most one name is encoded at an offset, and in one way. So a ghost field can hold the name.
use Rattle.std.specs.Prelude.{◌≡◌, ℕ, ◌+◌, ◌<◌, ◌≤◌, List, [], ◌∷◌, length, Option, Some, None, Result, Ok, zero, suc, take, All, slice_get}
use Rattle.std.proofs.Common.{sym, ◌∙◌, ap, subst, refl, arith, length-take, length-drop}
use Rattle.std.proofs.Props.{props}
use Rattle.std.proofs.lemmas.Option.{slice_get_within}
use Rattle.std.proofs.lemmas.Bool.Decides.{nat_tests}
use Rattle.std.proofs.lemmas.Grind.{common_steps}
use Rattle.std.proofs.lemmas.List.Elements.{All-cons}
use Rattle.dns_name.specs.Names.{Fault, Labels, IsLabel, IsName, name_size, max_size, head_of, head_at, NameAt, label_at, with_root}
use Rattle.dns_name.specs.Names.NameAt.{root, label, pointer}
use Rattle.dns_name.specs.declared.head.Head.{Head}
use Rattle.dns_name.specs.declared.head.Head.TheVariants.{Root, Label, Pointer}

-- A name that is encoded at offset p.
abbrev pub EncodedName : List ℕ → ℕ → Type 0
EncodedName b p = (name : Labels) × NameAt b p name

head_prop : {r : Result Head Fault} {h : Head} → IsProp (r ≡ Ok h)
head_prop = hlevel props

module _ (b : List ℕ) where
  -- What a name with a label at offset p consists of.
  abbrev LabelParts : ℕ → ℕ → Type 0
  LabelParts p n = (head_at b p ≡ Ok (Label n)) × (p + 1 + n ≤ length b) × (x : EncodedName b (p + 1 + n)) × (n + 1 + name_size x.0 ≤ max_size)

  abbrev PointerParts : ℕ → ℕ → Type 0
  PointerParts p t = (head_at b p ≡ Ok (Pointer t)) × (t < p) × EncodedName b t

  abbrev labelled : {p n : ℕ} → LabelParts p n → EncodedName b p
  labelled {p} {n} parts = (label_at b p n ∷ parts.2.0, label parts.0 parts.1 parts.2.1 parts.3)

  abbrev pointed : {p t : ℕ} → PointerParts p t → EncodedName b p
  pointed parts = (parts.2.0, pointer parts.0 parts.1 parts.2.1)

  -- Two decompositions into a label and a name are the same.
  same_label : {p n : ℕ} (mine : LabelParts p n) → ((y : EncodedName b (p + 1 + n)) → mine.2 ≡ y)
      → (k : ℕ) → n ≡ k → (parts : LabelParts p k) → labelled {p = p} {n = n} mine ≡ labelled {p = p} {n = k} parts
  same_label {p = p} {n = n} mine same k e =
      let P : ℕ → Type 0 = λ k. (parts : LabelParts p k) → labelled {p = p} {n = n} mine ≡ labelled {p = p} {n = k} parts in
      let names : IsProp (EncodedName b (p + 1 + n)) = λ y z. sym (same y) ∙ same z in
      let all : IsProp (LabelParts p n) = hlevel (props, names) in
      subst P e (λ parts. ap (λ (z : LabelParts p n). labelled {p = p} {n = n} z) (all mine parts))

  same_pointer : {p t : ℕ} (h : head_at b p ≡ Ok (Pointer t)) (w : t < p) (x : EncodedName b t) → ((y : EncodedName b t) → x ≡ y)
      → (k : ℕ) → t ≡ k → (parts : PointerParts p k) → pointed {p = p} {t = t} (h, w, x) ≡ pointed {p = p} {t = k} parts
  same_pointer {p = p} {t = t} h w x same k e =
      let P : ℕ → Type 0 = λ k. (parts : PointerParts p k) → pointed {p = p} {t = t} (h, w, x) ≡ pointed {p = p} {t = k} parts in
      let names : IsProp (EncodedName b t) = λ y z. sym (same y) ∙ same z in
      let all : IsProp (PointerParts p t) = hlevel (props, names) in
      subst P e (λ parts. ap (λ (z : PointerParts p t). pointed {p = p} {t = t} z) (all (h, w, x) parts))

  one_root : {p : ℕ} (h : head_at b p ≡ Ok Root) {name : Labels} (y : NameAt b p name) → let x : EncodedName b p = ([], root h) in x ≡ (name, y)
  one_root h (root h') = ap (λ (e : head_at b _ ≡ Ok Root). let x : EncodedName b _ = ([], root e) in x) (head_prop h h')
  one_root h (label h' w' x' z') = cc
  one_root h (pointer h' l' x') = cc

  one_label : {p n : ℕ} (mine : LabelParts p n) → ((y : EncodedName b (p + 1 + n)) → mine.2 ≡ y)
      → {name : Labels} (y : NameAt b p name) → labelled mine ≡ (name, y)
  one_label mine same (root h') = cc mine.0
  one_label mine same (label {name = m} h' w' x' z') = same_label mine same _ (cc mine.0) (h', w', (m, x'), z')
  one_label mine same (pointer h' l' x') = cc mine.0

  one_pointer : {p t : ℕ} (h : head_at b p ≡ Ok (Pointer t)) (w : t < p) (x : EncodedName b t) → ((y : EncodedName b t) → x ≡ y)
      → {name : Labels} (y : NameAt b p name) → pointed (h, w, x) ≡ (name, y)
  one_pointer h w x same (root h') = cc
  one_pointer h w x same (label h' w' x' z') = cc
  one_pointer h w x same (pointer {name = m} h' w' x') = same_pointer h w x same _ (cc) (h', w', (m, x'))

  one_name : {p : ℕ} {name : Labels} (x : NameAt b p name) (y : EncodedName b p) → let z : EncodedName b p = (name, x) in z ≡ y
  one_name (root h) y = one_root h y.1
  one_name (label {name = m} h w x z) y = one_label (h, w, (m, x), z) (λ y. one_name x y) y.1
  one_name (pointer {name = m} h w x) y = one_pointer h w (m, x) (λ z. one_name x z) y.1

  pub EncodedName-prop : {p : ℕ} → IsProp (EncodedName b p)
  EncodedName-prop x y = one_name x.1 y

  -- Names encoded at one offset are the same.
  pub same_name : {p : ℕ} {m n : Labels} → NameAt b p m → NameAt b p n → m ≡ n
  same_name {p = p} {m = m} {n = n} x y = let e : (let z : EncodedName b p = (m, x) in z ≡ (n, y)) = one_name x (n, y) in ap (λ (z : EncodedName b p). z.0) e

-- A name of this size is encoded at offset p.
abbrev pub NameOfSize : List ℕ → ℕ → ℕ → Type 0
NameOfSize b p size = (name : EncodedName b p) × (name_size name.0 ≡ size)

-- A name of this size, with `count` labels besides the root label, is encoded at offset p.
abbrev pub NameOfSizeAndCount : List ℕ → ℕ → ℕ → ℕ → Type 0
NameOfSizeAndCount b p size count = (name : EncodedName b p) × (name_size name.0 ≡ size) × (length name.0 ≡ count)

pub NameOfSizeAndCount-prop : (b : List ℕ) (p size count : ℕ) → IsProp (NameOfSizeAndCount b p size count)
NameOfSizeAndCount-prop b p size count = hlevel (props, EncodedName-prop b {p = p})

-- The first labels of an encoded name, by the octets that they take.

-- The first `count` labels take `left` octets, each with its length octet.
abbrev pub LabelsTake : Labels → ℕ → ℕ → Type 0
LabelsTake labels left count = (count ≤ length labels) × (name_size (take count labels) ≡ left)

-- Some first labels of a name, counted with the root label, take `left` octets.
abbrev pub FrontOfSize : Labels → ℕ → Type 0
FrontOfSize name left = (count : ℕ) × LabelsTake (with_root name) left count

-- A name is encoded at offset p, and some first labels of it take `left` octets.
abbrev pub LabelsAt : List ℕ → ℕ → ℕ → Type 0
LabelsAt b p left = (name : EncodedName b p) × FrontOfSize name.0 left

-- At most one number of first labels takes `left` octets, as each takes at least one.
pub one_count : (labels : Labels) (left j k : ℕ) → LabelsTake labels left j → LabelsTake labels left k → j ≡ k
one_count labels left zero zero x y = refl
one_count [] left zero (suc k) x y = absurd (omega (arith, y.0))
one_count (first ∷ labels) left zero (suc k) x y = absurd (omega (arith, x.1, y.1))
one_count [] left (suc j) k x y = absurd (omega (arith, x.0))
one_count (first ∷ labels) left (suc j) zero x y = absurd (omega (arith, x.1, y.1))
one_count (first ∷ labels) left (suc j) (suc k) x y =
    ap suc (one_count labels (name_size (take j labels)) j k (omega (arith, x.0), refl) (omega (arith, y.0), omega (arith, x.1, y.1)))

LabelsTake-prop : (labels : Labels) (left count : ℕ) → IsProp (LabelsTake labels left count)
LabelsTake-prop labels left count = hlevel props

FrontOfSize-prop : (name : Labels) (left : ℕ) → IsProp (FrontOfSize name left)
FrontOfSize-prop name left x y =
    let P : ℕ → Type 0 = λ count. (z : LabelsTake (with_root name) left count) → x ≡ (count, z) in
    subst P (one_count (with_root name) left x.0 y.0 x.1 y.1)
    (λ z. ap (λ (w : LabelsTake (with_root name) left x.0). let front : FrontOfSize name left = (x.0, w) in front)
    (LabelsTake-prop (with_root name) left x.0 x.1 z)) y.1

pub LabelsAt-prop : (b : List ℕ) (p left : ℕ) → IsProp (LabelsAt b p left)
LabelsAt-prop b p left x y =
    let P : EncodedName b p → Type 0 = λ name. (z : FrontOfSize name.0 left) → x ≡ (name, z) in
    subst P (EncodedName-prop b x.0 y.0) (λ z. ap (λ (w : FrontOfSize x.0.0 left). let labels : LabelsAt b p left = (x.0, w) in labels) (FrontOfSize-prop x.0.0 left x.1 z)) y.1

-- An encoded name satisfies `IsName`. `ToName` promises this of each of its values.

pub label_of : (first second : Option ℕ) (n : ℕ) → head_of first second ≡ Ok (Label n) → (first ≡ Some n) × (0 < n) × (n < 64)
label_of None second n h = cc
label_of (Some x) None n h = grind (arith, nat_tests, common_steps, h)
label_of (Some x) (Some y) n h = grind (arith, nat_tests, common_steps, h)

-- The length octet of a label is before the end, and is 1 to 63.
pub record IsLabelHead (b : List ℕ) (p n : ℕ) : Type 0 where
  pub within : p < length b
  pub some : 0 < n
  pub short : n < 64

pub label_head : (b : List ℕ) (p n : ℕ) → head_at b p ≡ Ok (Label n) → IsLabelHead b p n
unfolding head_at
label_head b p n h = let l = label_of (slice_get b p) (slice_get b (p + 1)) n h in
    record { within = slice_get_within b p n l.0; some = l.1; short = l.2 }

pub length_label : (b : List ℕ) (p n : ℕ) → p + 1 + n ≤ length b → length (label_at b p n) ≡ n
length_label b p n h = simp (length-take, length-drop) (omega arith)

pub name_size-label_at : (b : List ℕ) (p n : ℕ) (name : Labels) → p + 1 + n ≤ length b → name_size (label_at b p n ∷ name) ≡ n + 1 + name_size name
name_size-label_at b p n name h = ap (λ k. k + 1 + name_size name) (length_label b p n h)

-- An encoded name takes at most 254 octets without the root label.
pub encoded_short : {b : List ℕ} {p : ℕ} {name : Labels} → NameAt b p name → name_size name ≤ max_size
encoded_short (root h) = omega arith
encoded_short {b = b} (label {p = p} {n = n} {name = name} h w x z) = let e = name_size-label_at b p n name w in omega (arith, e)
encoded_short (pointer h back x) = encoded_short x

-- Its labels have 1 to 63 octets.
encoded_labels : {b : List ℕ} {p : ℕ} {name : Labels} → NameAt b p name → All IsLabel name
encoded_labels (root h) = λ k d l. absurd (omega arith)
encoded_labels {b = b} (label {p = p} {n = n} {name = name} h w x z) =
    let l = label_head b p n h in
    let e = length_label b p n w in
    All-cons IsLabel (label_at b p n) name (record { some = omega (arith, l.some); short = omega (arith, l.short) }) (encoded_labels x)
encoded_labels (pointer h back x) = encoded_labels x

pub encoded_name : {b : List ℕ} {p : ℕ} {name : Labels} → NameAt b p name → IsName name
encoded_name x = record { labels = encoded_labels x; short = encoded_short x }
