-- What follows from what begins at an offset.
use Rattle.std.proofs.Common.{◌≡◌, ℕ, zero, suc, ◌+◌, ◌-◌, ◌*◌, ◌/◌, ◌%◌, ◌<◌, ◌≤◌, List, length, arith, refl, ap, ◌∙◌, [], ◌∷◌, length-take, length-drop, sym, subst}
use Rattle.std.specs.Prelude.{Option, Some, None, Ok, IsOk, slice_get}
use Rattle.std.proofs.lemmas.Option.{slice_get_within}
use Rattle.std.proofs.lemmas.Bool.Decides.{nat_tests}
use Rattle.std.proofs.lemmas.Grind.{common_steps}
use Rattle.dns_name.specs.Names.{head_of, head_at, Fault, Labels, name_size, max_size, Begins, NameAt, label_at, NameContinues, NameEndsAt, SkipFaulty, SkipFaultAt}
use Rattle.dns_name.specs.declared.head.Head.TheVariants.{Root, Label, Pointer}
use Rattle.dns_name.specs.Unique.{EncodedName, label_of, label_head}
use Rattle.dns_name.specs.Names.NameAt.{root, label, pointer}
use Rattle.dns_name.specs.ParsedName.{IsFirst, label_octets}
use Rattle.dns_name.specs.declared.label.Label.{Label as LabelOf}

root_of : (first second : Option ℕ) → head_of first second ≡ Ok Root → first ≡ Some 0
root_of None second h = cc
root_of (Some x) None h = grind (arith, nat_tests, common_steps, h)
root_of (Some x) (Some y) h = grind (arith, nat_tests, common_steps, h)

pointer_of : (first second : Option ℕ) (t : ℕ) → head_of first second ≡ Ok (Pointer t) → (x : ℕ) × (y : ℕ) × (first ≡ Some x) × (second ≡ Some y)
pointer_of None second t h = cc
pointer_of (Some x) None t h = absurd (grind (arith, nat_tests, common_steps, h))
pointer_of (Some x) (Some y) t h = (x, y, refl, refl)

head_of_root : (second : Option ℕ) → head_of (Some 0) second ≡ Ok Root
head_of_root second = refl

head_of_label : (n : ℕ) (second : Option ℕ) → 1 ≤ n → n ≤ 63 → head_of (Some n) second ≡ Ok (Label n)
head_of_label n second some short = grind (arith, nat_tests, common_steps)

-- A root label is within the octets.
pub root_within : (b : List ℕ) (p : ℕ) → head_at b p ≡ Ok Root → p < length b
unfolding head_at
root_within b p h = slice_get_within b p 0 (root_of (slice_get b p) (slice_get b (p + 1)) h)

-- Both octets of a pointer are within the octets.
pub pointer_within : (b : List ℕ) (p t : ℕ) → head_at b p ≡ Ok (Pointer t) → p + 1 < length b
unfolding head_at
pointer_within b p t h = let l = pointer_of (slice_get b p) (slice_get b (p + 1)) t h in slice_get_within b (p + 1) l.1 l.3

-- The length octet of a label that begins there.
pub label_there : (b : List ℕ) (p n : ℕ) → head_at b p ≡ Ok (Label n) → slice_get b p ≡ Some n
unfolding head_at
label_there b p n h = (label_of (slice_get b p) (slice_get b (p + 1)) n h).0

-- The zero octet of a root label that begins there.
pub root_there : (b : List ℕ) (p : ℕ) → head_at b p ≡ Ok Root → slice_get b p ≡ Some 0
unfolding head_at
root_there b p h = root_of (slice_get b p) (slice_get b (p + 1)) h

-- A zero octet is a root label.
pub root_begins : (b : List ℕ) (p : ℕ) → slice_get b p ≡ Some 0 → head_at b p ≡ Ok Root
unfolding head_at
root_begins b p h = ap (λ (x : Option ℕ). head_of x (slice_get b (p + 1))) h ∙ head_of_root (slice_get b (p + 1))

-- An octet from 1 to 63 begins a label of that length.
pub label_begins : (b : List ℕ) (p n : ℕ) → 1 ≤ n → n ≤ 63 → slice_get b p ≡ Some n → head_at b p ≡ Ok (Label n)
unfolding head_at
label_begins b p n some short h = ap (λ (x : Option ℕ). head_of x (slice_get b (p + 1))) h ∙ head_of_label n (slice_get b (p + 1)) some short

head_of_pointer : (t : ℕ) → t < 16384 → head_of (Some (192 + t / 256)) (Some (t % 256)) ≡ Ok (Pointer t)
head_of_pointer t h =
    let low : t / 256 < 64 = omega arith in
    let back : (192 + t / 256 - 192) * 256 + t % 256 ≡ t = omega arith in
    grind (arith, nat_tests, common_steps)

-- A pointer begins where its two octets are.
pub pointer_begins : (b : List ℕ) (p t : ℕ) → t < 16384 → slice_get b p ≡ Some (192 + t / 256) → slice_get b (p + 1) ≡ Some (t % 256) → head_at b p ≡ Ok (Pointer t)
unfolding head_at
pointer_begins b p t small first second = (λ i. head_of (first i) (second i)) ∙ head_of_pointer t small

-- Two octets decide what begins at the first.
pub same_head : (b c : List ℕ) (p : ℕ) → slice_get b p ≡ slice_get c p → slice_get b (p + 1) ≡ slice_get c (p + 1) → head_at b p ≡ head_at c p
unfolding head_at
same_head b c p first second = λ i. head_of (first i) (second i)

-- The progress of a walk over a name.

-- Labels of this size lead from `start` to `at`. So the end or the fault of a walk from `at` is that of the walk from `start`.
pub record Skips (b : List ℕ) (start at size : ℕ) : Type 0 where
  pub within : size ≤ max_size
  pub ends : (q : ℕ) → NameContinues b at size q → NameEndsAt b start q
  pub faults : (f : Fault) → SkipFaulty b at size f → SkipFaultAt b start f

-- A walk that has skipped nothing is where it began.
pub skips_none : (b : List ℕ) (p : ℕ) → Skips b p p 0
skips_none b p = record { within = omega arith; ends = λ q h. h; faults = λ f h. h }

-- The walk goes on after a label.
pub skips_label : (b : List ℕ) (start at size n at' size' : ℕ) → Skips b start at size
    → Begins b at size (Label n) → size' ≡ size + n + 1 → at' ≡ at + 1 + n → Skips b start at' size'
skips_label b start at size n at' size' l h es ea =
    let small : size + n + 1 ≤ max_size = h.short n refl in
    let fits : at + 1 + n ≤ length b = h.fits n refl in
    let P : ℕ → Type 0 = λ s. Skips b start at' s in
    let Q : ℕ → Type 0 = λ a. Skips b start a (size + n + 1) in
    subst P (sym es) (subst Q (sym ea) (record {
      within = small;
      ends = λ q w. l.ends q (NameContinues.label h.there small fits w);
      faults = λ f w. l.faults f (SkipFaulty.label h.there small fits w);
    }))

-- The walk ends after a root label.
pub skips_root : (b : List ℕ) (start at size q : ℕ) → Skips b start at size → head_at b at ≡ Ok Root → q ≡ at + 1
    → NameEndsAt b start q × (q ≤ length b)
skips_root b start at size q l h e =
    let w : at < length b = root_within b at h in
    (subst (λ q. NameEndsAt b start q) (sym e) (l.ends (at + 1) (NameContinues.root h)), omega arith)

-- The walk ends after a pointer.
pub skips_pointer : (b : List ℕ) (start at size t q : ℕ) → Skips b start at size → head_at b at ≡ Ok (Pointer t) → q ≡ at + 2
    → NameEndsAt b start q × (q ≤ length b)
skips_pointer b start at size t q l h e =
    let w : at + 1 < length b = pointer_within b at t h in
    (subst (λ q. NameEndsAt b start q) (sym e) (l.ends (at + 2) (NameContinues.pointer h)), omega arith)

-- What a name encoded at an offset is, by what begins there.

module _ (b : List ℕ) where
  -- What a name that begins with a label consists of.
  pub record BeginsWith (p n : ℕ) (name : Labels) : Type 0 where
    pub others : Labels
    pub whole : name ≡ label_at b p n ∷ others
    pub fits : p + 1 + n ≤ length b
    pub is_encoded : NameAt b (p + 1 + n) others
    pub short : n + 1 + name_size others ≤ max_size

  -- A name that begins with the root label has no other labels.
  pub at_root : {p : ℕ} {name : Labels} → NameAt b p name → head_at b p ≡ Ok Root → name ≡ []
  at_root (root h) e = refl
  at_root (label h w x z) e = cc
  at_root (pointer h w x) e = cc

  -- A name that begins with a label is this label and then the name encoded after it.
  pub at_label : {p n : ℕ} {name : Labels} → NameAt b p name → head_at b p ≡ Ok (Label n) → BeginsWith p n name
  at_label (root h) e = cc
  at_label {p = p} (label {n = k} {name = m} h w x z) e =
      let P : ℕ → Type 0 = λ n. BeginsWith p n (label_at b p k ∷ m) in
      subst P (cc) (record { others = m; whole = refl; fits = w; is_encoded = x; short = z })
  at_label (pointer h w x) e = cc

  -- If a name begins with a pointer, the pointer leads to an earlier offset, and the name is encoded there too.
  pub at_pointer : {p t : ℕ} {name : Labels} → NameAt b p name → head_at b p ≡ Ok (Pointer t) → (t < p) × NameAt b t name
  at_pointer (root h) e = cc
  at_pointer (label h w x z) e = cc
  at_pointer {p = p} (pointer {t = k} {name = m} h w x) e =
      let P : ℕ → Type 0 = λ t. (t < p) × NameAt b t m in subst P (cc) (w, x)

  -- The name encoded at `from` is encoded at `at` too.
  pub record Follows (from at : ℕ) : Type 0 where
    pub name : EncodedName b at
    pub same : (name : Labels) → NameAt b from name → NameAt b at name

  -- If the name is encoded at a pointer too, it is also encoded where the pointer leads.
  pub follows_pointer : {from at t : ℕ} → Follows from at → head_at b at ≡ Ok (Pointer t) → Follows from t
  follows_pointer f h = record {
    name = (f.name.0, (at_pointer f.name.1 h).1);
    same = λ name s. (at_pointer (f.same name s) h).1;
  }

  -- If the name begins with a root label, a label without octets is the first of the name.
  pub first_root : {from at : ℕ} (l : LabelOf) → Follows from at → head_at b at ≡ Ok Root → label_octets l ≡ []
      → (name : Labels) → NameAt b from name → IsFirst b name l at
  first_root {at = at} l f h e name s =
      let P : Labels → Type 0 = λ name. IsFirst b name l at in
      subst P (sym (at_root (f.same name s) h)) (e, root h)

  -- If the name begins with a label, a label with its octets is the first of the name, and the others are encoded after it.
  pub first_label : {from at n after : ℕ} (l : LabelOf) → Follows from at → head_at b at ≡ Ok (Label n) → label_octets l ≡ label_at b at n → after ≡ at + 1 + n
      → (name : Labels) → NameAt b from name → IsFirst b name l after
  first_label {at = at} {n = n} {after = after} l f h e eb name s =
      let w = at_label (f.same name s) h in
      let P : Labels → Type 0 = λ name. IsFirst b name l after in
      let Q : ℕ → Type 0 = λ after. NameAt b after w.others in
      subst P (sym w.whole) (e, subst Q (sym eb) w.is_encoded)

  -- A root label, a label or a pointer begins where a name is encoded.
  begins_there : {at : ℕ} {name : Labels} → NameAt b at name → IsOk (head_at b at)
  begins_there (root h) = rw h refl
  begins_there (label h w x z) = rw h refl
  begins_there (pointer h w x) = rw h refl

  -- The same for a name with its encoding as one value: a root label, a label or a pointer begins there.
  pub name_begins : {at : ℕ} → EncodedName b at → IsOk (head_at b at)
  name_begins name = begins_there name.1

  -- A label that begins where a name is encoded has fewer than 64 octets.
  pub length_label_at : {at n : ℕ} (name : EncodedName b at) → head_at b at ≡ Ok (Label n) → length (label_at b at n) < 64
  length_label_at {at = at} {n = n} name h =
      let w = at_label name.1 h in
      let fits : at + 1 + n ≤ length b = w.fits in
      let short : n < 64 = (label_head b at n h).short in
      simp (length-take, length-drop) (omega arith)

  -- The root label has no octets.
  label_at-none : (at : ℕ) → label_at b at 0 ≡ []
  label_at-none at = let none : at + 1 + 0 - (at + 1) ≡ 0 = omega arith in rw none refl

  -- The same by the first octet, which is the length of a label, and 0 for the root label.
  pub length_first : {at n : ℕ} (name : EncodedName b at) → (0 < n → head_at b at ≡ Ok (Label n)) → length (label_at b at n) < 64
  length_first {at = at} {n = zero} name h = rw (label_at-none at) (omega arith)
  length_first {n = suc n} name h = length_label_at name (h (omega arith))

  -- Whether the name begins with a root label or another label, a label with its octets is the first of the name.
  pub first_octet : {from at n after : ℕ} (l : LabelOf) → Follows from at → (n ≡ 0 → head_at b at ≡ Ok Root) → (0 < n → head_at b at ≡ Ok (Label n))
      → label_octets l ≡ label_at b at n → (n ≡ 0 → after ≡ at) → (0 < n → after ≡ at + 1 + n) → (name : Labels) → NameAt b from name → IsFirst b name l after
  first_octet {at = at} {n = zero} l f none some e here on name s =
      subst (λ p. IsFirst b name l p) (sym (here refl)) (first_root l f (none refl) (e ∙ label_at-none at) name s)
  first_octet {n = suc n} l f none some e here on name s = first_label l f (some (omega arith)) e (on (omega arith)) name s
