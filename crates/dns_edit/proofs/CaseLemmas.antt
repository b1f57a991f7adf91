-- The letter case of the name that a message asks for.
use Rattle.std.proofs.Common.{◌≡◌, ◌∙◌, ℕ, ◌+◌, ◌-◌, ◌<◌, ◌≤◌, inl, inr, List, [], ◌∷◌, ◌++◌, take, drop, length, length-append, length-take, length-drop, append_assoc, map, arith, refl, subst, sym, ap}
use Rattle.std.specs.Prelude.{Option, Some, None, Ok, slice_get, option_map}
use Rattle.std.specs.Char.{to_ascii_lowercase}
use Rattle.std.proofs.lemmas.Bool.{cases_lt}
use Rattle.std.proofs.lemmas.List.{length-map, map-append, take-map, drop-map, take-append-drop, drop-drop}
use Rattle.std.proofs.lemmas.Option.{slice_get-map}
use Rattle.std.proofs.lemmas.Str.Ascii.{lowercase_is}
use Rattle.std.specs.Int.{w16, from_be_bytes}
use Rattle.dns_octets.specs.Octets.{overwritten}
use Rattle.dns_octets.proofs.theory.Overwritten.{kept_before, written_there}
use Rattle.dns_name.specs.Names.{Labels, IsName, name_size, max_size, framed, uncompressed, lowered_label, head_at, label_at, NameAt, NameContinues}
use Rattle.dns_name.specs.Parsers.{number_at}
use Rattle.dns_name.specs.Unique.{label_head}
use Rattle.dns_name.specs.declared.head.Head.TheVariants.{Root, Label, Pointer}
use Rattle.dns_name.proofs.theory.HeadLemmas.{label_there, root_there, root_begins, label_begins}
use Rattle.dns_name.proofs.theory.LabelsLemmas.{length-uncompressed}
use Rattle.dns_name.proofs.theory.Names.{one_end}
use Rattle.dns_name.proofs.theory.UncompressedNames.{name_tail}
use Rattle.dns_wire.specs.Targets.{At}
use Rattle.dns_wire.proofs.theory.CompressedNames.{after_label, label_octets, label_part, root_at}
use Rattle.dns_wire.proofs.theory.CompressedNames as octets_at
use Rattle.dns_wire.proofs.theory.Stability.{get_take, same_part}
use Rattle.dns_code.specs.HeaderSection.{header_size}
use Rattle.dns_item.specs.Questions.{SkipsQuestion}
use Rattle.dns_read.specs.Reading.{Skipped}
use Rattle.dns_edit.specs.Acceptance.{AcceptsQuestion, AcceptsRecord, AllAccepted}
use Rattle.dns_edit.specs.Acceptance.AllAccepted.{none, more}
use Rattle.dns_edit.specs.Alike.{CaseReadsAlike, CaseStaysRegular}
use Rattle.dns_edit.specs.Case.{AsksFor}
use Rattle.dns_edit.specs.Pointers.{AcceptsName, LabelOf, PointsTo}
use Rattle.dns_edit.proofs.AcceptLemmas.{questions_rise}
use Rattle.dns_edit.proofs.AgreeLemmas.{SameFrom, as_long, same_after, same_octets}
use Rattle.dns_edit.proofs.AlikeLemmas.{AllAlike, NameAlike, QuestionAlike, ends_alike}
use Rattle.dns_edit.proofs.CutLemmas.{entries_alike}
use Rattle.dns_edit.specs.Ttls.{record_total}
use Rattle.dns_edit.proofs.RegularLemmas.{LabelsAlike, questions_alike, rdata_alike, records_alike}
use Rattle.dns_edit.proofs.RegularStays.{LabelsStay, questions_stay, records_stay}
use Rattle.dns_edit.proofs.WalkLemmas.{label_next, no_label_at_root}

-- a whole name in octets

-- Octets that are written are there.
pub at_written : (b xs : List ℕ) (p : ℕ) → p + length xs ≤ length b → At (overwritten b p xs) p xs
at_written b xs p l = record {
  within = let long = as_long b xs p l in omega arith;
  same = written_there b xs p (p + length xs) refl l;
}

-- A name is encoded where its uncompressed octets are.
pub name_there : {c : List ℕ} (p : ℕ) (name : Labels) → IsName name → At c p (uncompressed name) → NameAt c p name
name_there p [] is h = NameAt.root (root_at h)
name_there {c = c} p (label ∷ name) is h =
    let t = name_tail label name is in
    let first = label_part label (uncompressed name) h in
    let rest = name_there (p + 1 + length label) name t.1 (after_label label (uncompressed name) h) in
    let P : List ℕ → Type 0 = λ octets. NameAt c p (octets ∷ name) in
    subst P (label_octets first) (NameAt.label (octets_at.label_begins t.0 first) (let w = first.within in omega arith) rest (omega (arith, is.short)))

-- Its encoding is these octets.
pub name_ends : {c : List ℕ} (p s : ℕ) (name : Labels) → IsName name → s + name_size name ≤ max_size → At c p (uncompressed name) → NameContinues c p s (p + length (uncompressed name))
name_ends {c = c} p s [] is small h =
    let P : ℕ → Type 0 = λ q. NameContinues c p s q in
    let e : p + 1 ≡ p + length (uncompressed []) = omega arith in
    subst P e (NameContinues.root (root_at h))
name_ends {c = c} p s (label ∷ name) is small h =
    let t = name_tail label name is in
    let first = label_part label (uncompressed name) h in
    let n = length label in
    let rest = name_ends (p + 1 + n) (s + n + 1) name t.1 (omega arith) (after_label label (uncompressed name) h) in
    let e : p + 1 + n + length (uncompressed name) ≡ p + length (framed label ++ uncompressed name) = omega (arith, length-append (framed label) (uncompressed name)) in
    let P : ℕ → Type 0 = λ q. NameContinues c p s q in
    subst P e (NameContinues.label (octets_at.label_begins t.0 first) (omega arith) (let w = first.within in omega arith) rest)

-- A name takes at least one octet.
pub some_octets : (name : Labels) → 0 < length (uncompressed name)
some_octets name = let n = length-uncompressed name in omega arith

-- The octets that a message asks for are within it.
pub asked_within : (b xs : List ℕ) → 0 < length xs → AsksFor b xs → header_size + length xs ≤ length b
asked_within b xs some h =
    let e : length (take (length xs) (drop header_size b)) ≡ length xs =
    sym (length-map (take (length xs) (drop header_size b)) to_ascii_lowercase) ∙ ap length h.1 ∙ length-map xs to_ascii_lowercase in
    let n = length-take (length xs) (drop header_size b) in
    let m = length-drop header_size b in
    omega arith

-- Octets of a name that are written where the name is asked for are that name.
pub written_name : (b slice octets c : List ℕ) (name : Labels) → IsName name → slice ≡ b → octets ≡ uncompressed name → AsksFor slice octets
    → c ≡ overwritten b header_size octets → NameAt c header_size name
written_name b slice octets c name is same e asks w =
    let there : AsksFor b (uncompressed name) = subst (λ (xs : List ℕ). AsksFor b xs) e (subst (λ (b : List ℕ). AsksFor b octets) same asks) in
    let inside = asked_within b (uncompressed name) (some_octets name) there in
    let written : c ≡ overwritten b header_size (uncompressed name) = w ∙ ap (overwritten b header_size) e in
    subst (λ (c : List ℕ). NameAt c header_size name) (sym written) (name_there header_size name is (at_written b (uncompressed name) header_size inside))

-- octets that are the same, ignoring ASCII case

-- Octets with their ASCII letters lowercased.
abbrev pub lower : List ℕ → List ℕ
lower xs = map to_ascii_lowercase xs

low_stays : (n : ℕ) → n ≤ 63 → to_ascii_lowercase n ≡ n
low_stays n l = (lowercase_is n).1 (omega arith)

low_back : (m n : ℕ) → n ≤ 63 → to_ascii_lowercase m ≡ n → m ≡ n
low_back m n l e =
    elim (cases_lt m 65) [
      | inl less ↦ sym ((lowercase_is m).1 less) ∙ e
      | inr some ↦ elim (cases_lt 90 m) [
        | inl high ↦ sym ((lowercase_is m).2 high) ∙ e
        | inr most ↦ let plus : n ≡ m + 32 = sym e ∙ (lowercase_is m).0 (omega arith, omega arith) in absurd (omega arith)
      ]
    ]

get_low : (o : Option ℕ) (n : ℕ) → n ≤ 63 → option_map to_ascii_lowercase o ≡ Some n → o ≡ Some n
get_low None n l e = cc
get_low (Some m) n l e = ap Some (low_back m n l (let same : to_ascii_lowercase m ≡ n = cc in same))

module _ (b c : List ℕ) (same : lower b ≡ lower c) where
  -- an octet that begins a label is the same in both
  low_same : (p n : ℕ) → n ≤ 63 → slice_get b p ≡ Some n → slice_get c p ≡ Some n
  low_same p n l h =
      get_low (slice_get c p) n l
      (sym (slice_get-map to_ascii_lowercase c p) ∙ ap (λ (xs : List ℕ). slice_get xs p) (sym same)
      ∙ slice_get-map to_ascii_lowercase b p ∙ ap (option_map to_ascii_lowercase) h ∙ ap Some (low_stays n l))

  root_same : (p : ℕ) → head_at b p ≡ Ok Root → head_at c p ≡ Ok Root
  root_same p h = root_begins c p (low_same p 0 (omega arith) (root_there b p h))

  label_same : (p n : ℕ) → head_at b p ≡ Ok (Label n) → head_at c p ≡ Ok (Label n)
  label_same p n h =
      let l = label_head b p n h in
      label_begins c p n (omega (arith, l.some)) (omega (arith, l.short)) (low_same p n (omega (arith, l.short)) (label_there b p n h))

  label_lowered : (p n : ℕ) → lowered_label (label_at c p n) ≡ lowered_label (label_at b p n)
  label_lowered p n =
      let k = p + 1 + n - (p + 1) in
      sym (take-map to_ascii_lowercase k (drop (p + 1) c)) ∙ ap (take k) (sym (drop-map to_ascii_lowercase (p + 1) c)) ∙ ap (λ (xs : List ℕ). take k (drop (p + 1) xs)) (sym same)
      ∙ ap (take k) (drop-map to_ascii_lowercase (p + 1) b) ∙ take-map to_ascii_lowercase k (drop (p + 1) b)

  -- A name without pointer reads alike.
  pub first_alike : {p s q : ℕ} → NameContinues b p s q → ((t : ℕ) → PointsTo b p t → ⊥)
      → NameAlike lowered_label b c p × ((t : ℕ) → LabelOf b p t → NameAlike lowered_label b c t)
  first_alike (NameContinues.root {p = p} h) points = (NameAlike.root h (root_same p h), λ t x. absurd (no_label_at_root h x))
  first_alike (NameContinues.pointer {t = t} h) points = absurd (points t (PointsTo.pointer h))
  first_alike (NameContinues.label {p = p} {n = n} h small fits x) points =
      let rest = first_alike x (λ t y. points t (PointsTo.label h y)) in
      let this : NameAlike lowered_label b c p = NameAlike.label h (label_same p n h) (label_lowered p n) rest.0 in
      (this, λ t y. elim (label_next h y) [ inl e ↦ subst (λ t. NameAlike lowered_label b c t) (sym e) this | inr z ↦ rest.1 t z ])

  label_stays : {p t : ℕ} → LabelOf b p t → LabelOf c p t
  label_stays (LabelOf.first {p = p} {n = n} h) = LabelOf.first (label_same p n h)
  label_stays (LabelOf.later {p = p} {n = n} h x) = LabelOf.later (label_same p n h) (label_stays x)

-- A name that reads alike points to the same offset.
pub alike_points : {f : List ℕ → List ℕ} {b c : List ℕ} {p t : ℕ} → NameAlike f b c p → PointsTo c p t → PointsTo b p t
alike_points (NameAlike.root h k) (PointsTo.pointer g) = absurd (cc)
alike_points (NameAlike.root h k) (PointsTo.label g x) = absurd (cc)
alike_points {b = b} {p = p} {t = t} (NameAlike.pointer h k r) (PointsTo.pointer g) = let e : head_at b p ≡ Ok (Pointer t) = cc in PointsTo.pointer e
alike_points (NameAlike.pointer h k r) (PointsTo.label g x) = absurd (cc)
alike_points (NameAlike.label h k s r) (PointsTo.pointer g) = absurd (cc)
alike_points {c = c} {p = p} {t = t} (NameAlike.label {n = n} h k s r) (PointsTo.label {n = m} g x) =
    let e : m ≡ n = cc in
    PointsTo.label h (alike_points r (subst (λ m. PointsTo c (p + 1 + m) t) e x))

-- three parts of octets
in_parts : (b : List ℕ) (p n : ℕ) → b ≡ take p b ++ take n (drop p b) ++ drop (p + n) b
in_parts b p n =
    sym (append_assoc (take p b) (take n (drop p b)) (drop (p + n) b)
    ∙ ap (λ (ys : List ℕ). take p b ++ ys) (ap (λ (ys : List ℕ). take n (drop p b) ++ ys) (sym (drop-drop n p b)) ∙ take-append-drop n (drop p b))
    ∙ take-append-drop p b)

-- Octets that are overwritten by others that are the same, ignoring ASCII case, stay the same so.
pub lower_overwritten : (b xs : List ℕ) (p : ℕ) → lower (take (length xs) (drop p b)) ≡ lower xs → lower b ≡ lower (overwritten b p xs)
lower_overwritten b xs p e =
    let n = length xs in
    let old = take n (drop p b) in
    ap lower (in_parts b p n)
    ∙ map-append to_ascii_lowercase (take p b ++ old) (drop (p + n) b)
    ∙ ap (λ (ys : List ℕ). ys ++ lower (drop (p + n) b))
    (map-append to_ascii_lowercase (take p b) old ∙ ap (λ (ys : List ℕ). lower (take p b) ++ ys) e ∙ sym (map-append to_ascii_lowercase (take p b) xs))
    ∙ sym (map-append to_ascii_lowercase (take p b ++ xs) (drop (p + n) b))

-- the counts stay if octets after them are overwritten
count_kept : (b xs : List ℕ) (p : ℕ) → p + 2 ≤ header_size → header_size ≤ length b → number_at w16 b p ≡ number_at w16 (overwritten b header_size xs) p
count_kept b xs p l long =
    let c = overwritten b header_size xs in
    let before : take header_size b ≡ take header_size c = sym (kept_before b xs header_size long) in
    let n : p + 2 - p ≡ 2 = omega arith in
    let each : (k : ℕ) → p ≤ k → k < p + 2 → slice_get b k ≡ slice_get c k =
    λ k low high. sym (get_take b header_size k (omega arith)) ∙ ap (λ (ys : List ℕ). slice_get ys k) before ∙ get_take c header_size k (omega arith) in
    ap (λ n. from_be_bytes w16 (take n (drop p b))) n ∙ ap (from_be_bytes w16) (same_part b c 2 p each) ∙ ap (λ n. from_be_bytes w16 (take n (drop p c))) (sym n)

module _ (b : List ℕ) (name : Labels) (is : IsName name) (asks : AsksFor b (uncompressed name)) where
  abbrev xs : List ℕ
  xs = uncompressed name

  abbrev c : List ℕ
  c = overwritten b header_size xs

  inside : header_size + length xs ≤ length b
  inside = asked_within b xs (some_octets name) asks

  same : lower b ≡ lower c
  same = lower_overwritten b xs header_size asks.1

  long : length b ≡ length c
  long = as_long b xs header_size inside

  -- the questions, of which the first has a name without pointer, and the octets after that name
  record Asked (n p q : ℕ) (after : List ℕ) : Type 0 where
    questions : Skipped (QuestionAlike lowered_label b c) n p q
    labels : LabelsAlike lowered_label b c after
    accepted : AllAccepted (AcceptsQuestion c) n [] p q after
    stay : LabelsStay b c after
    name_end : ℕ
    same_after_name : SameFrom b c name_end
    low : name_end ≤ q

  asked : {n p q : ℕ} {after : List ℕ} → p ≡ header_size → 0 < n → AllAccepted (AcceptsQuestion b) n [] p q after → Asked n p q after
  asked e some none = absurd (omega arith)
  asked e some (more {p = p} {q = q} {mid = mid} h x) =
      let first = first_alike b c same h.name.ends (λ t y. (h.name.back t y).1) in
      let P : List ℕ → Type 0 = λ (names : List ℕ). LabelsAlike lowered_label b c names in
      let labels : LabelsAlike lowered_label b c mid = subst P (sym h.name.added) (λ t y. elim y [ inl own ↦ first.1 t own | inr other ↦ absurd other ]) in
      let there : NameContinues c p 0 h.name_end = ends_alike long first.0 h.name.ends in
      let at : At c p xs = subst (λ p. At c p xs) (sym e) (at_written b xs header_size inside) in
      let ends : p + length xs ≡ h.name_end = one_end c p _ _ (name_ends p 0 name is (omega (arith, is.short)) at) there in
      let fits = inside in
      let end = h.end in
      let rise = questions_rise x in
      let later : SameFrom b c h.name_end = same_after b xs header_size h.name_end (omega arith) (omega (arith, h.within)) in
      let skips : SkipsQuestion b p q = record { name_end = h.name_end; name_ends = h.name.ends; end = h.end; within = h.within } in
      let next : h.name_end ≤ q = omega arith in
      let rest = questions_alike later next x labels in
      let Q : List ℕ → Type 0 = λ (names : List ℕ). LabelsStay b c names in
      let stay : LabelsStay b c mid = subst Q (sym h.name.added) (λ t y. elim y [ inl own ↦ inl (label_stays b c same own) | inr other ↦ absurd other ]) in
      let own : AcceptsName c [] p h.name_end mid = record { ends = there; back = λ t y. absurd (h.name.back t (alike_points first.0 y)).1; added = h.name.added } in
      let accepted : AcceptsQuestion c [] p q mid = record { name_end = h.name_end; name = own; end = h.end; within = omega (arith, h.within, long) } in
      let others = questions_stay later next x stay in
      let this : QuestionAlike lowered_label b c p q = record { skips = skips; name = first.0; after = same_octets later h.name_end 4 (omega arith) } in
      record {
        questions = Skipped.more this rest.0;
        labels = rest.1;
        accepted = more accepted others.0;
        stay = others.1;
        name_end = h.name_end;
        same_after_name = later;
        low = omega arith;
      }

-- A regular message reads the same, ignoring ASCII case, if the name that it asks for takes the letter case of another.
pub case_reads_alike : CaseReadsAlike
case_reads_alike b name (start, a) is asks =
    let x = asked b name is asks refl asks.0 a.questions in
    let fits = inside b name is asks in
    let entries = records_alike x.same_after_name x.low a.records x.labels in
    let all : AllAlike lowered_label b (overwritten b header_size (uncompressed name)) = record {
      long = long b name is asks;
      counts = λ p low high. count_kept b (uncompressed name) p (omega arith) (omega arith);
      start = start;
      end = a.end;
      questions = x.questions;
      records = entries.0;
      rdata = rdata_alike x.same_after_name a x.low entries.1;
    } in
    entries_alike all

-- A regular message stays regular if the name that it asks for takes the letter case of another.
pub case_stays_regular : CaseStaysRegular
case_stays_regular b name (start, a) is asks =
    let x = asked b name is asks refl asks.0 a.questions in
    let fits = inside b name is asks in
    let c = overwritten b header_size (uncompressed name) in
    let kept = λ (p : ℕ) (l : p + 2 ≤ header_size). count_kept b (uncompressed name) p l (omega arith) in
    let all : record_total b ≡ record_total c = (λ i. kept 6 (omega arith) i + kept 8 (omega arith) i + kept 10 (omega arith) i) in (
      start,
      record {
        end = a.end;
        asked = a.asked;
        names = a.names;
        questions = subst (λ n. AllAccepted (AcceptsQuestion c) n [] header_size start a.asked) (kept 4 (omega arith)) x.accepted;
        records = subst (λ n. AllAccepted (AcceptsRecord c) n a.asked start a.end a.names) all (records_stay x.same_after_name x.low a.records x.stay);
      },
    )
