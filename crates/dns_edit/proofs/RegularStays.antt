-- A regular message stays regular if its first four octets change, or if its last record is removed.
use Rattle.std.proofs.Common.{◌≡◌, ◌∙◌, ℕ, zero, suc, ◌+◌, ◌≤◌, inl, inr, List, [], length, length-drop, arith, subst, sym, ap}
use Rattle.std.specs.Prelude.{cond, get_or, nat_eq}
use Rattle.std.proofs.lemmas.List.{get_or-drop}
use Rattle.dns_name.proofs.theory.ExtentLaws.{ends_after}
use Rattle.dns_code.specs.HeaderSection.{header_size}
use Rattle.dns_read.specs.Sections.{question_count}
use Rattle.dns_edit.specs.Acceptance.{AcceptsData, AcceptsQuestion, AcceptsRecord, AllAccepted}
use Rattle.dns_edit.specs.Acceptance.AllAccepted.{none, more}
use Rattle.dns_edit.specs.Alike.{HeaderStaysRegular}
use Rattle.dns_edit.specs.Opt.{RemovedStaysRegular}
use Rattle.dns_edit.specs.Pointers.{AcceptsName, LabelOf, LabelOfAny, PointsTo}
use Rattle.dns_edit.specs.Rdata.{name_count, names_start, octets_before, string_end}
use Rattle.dns_edit.specs.Ttls.{record_total}
use Rattle.dns_edit.proofs.AcceptLemmas.{names_low, questions_rise}
use Rattle.dns_edit.proofs.AgreeLemmas.{SameFrom, continues_same, dropped, head_same, number_same16, skips_same}
use Rattle.dns_edit.proofs.EntryLemmas.{long_record}
use Rattle.dns_edit.proofs.RegularLemmas.{count_same}

-- Labels of these names begin at the same offsets in other octets.
abbrev pub LabelsStay : List ℕ → List ℕ → List ℕ → Type 0
LabelsStay b c names = (t : ℕ) → LabelOfAny b names t → LabelOfAny c names t

module _ {b c : List ℕ} {from : ℕ} (same : SameFrom b c from) where
  own_label : {p t : ℕ} → from ≤ p → LabelOf b p t → LabelOf c p t
  own_label l (LabelOf.first {p = p} h) = LabelOf.first (sym (head_same same p l) ∙ h)
  own_label l (LabelOf.later {p = p} {n = n} h x) =
      let next : from ≤ p + 1 + n = omega arith in
      LabelOf.later (sym (head_same same p l) ∙ h) (own_label next x)

  points_back : {p t : ℕ} → from ≤ p → PointsTo c p t → PointsTo b p t
  points_back l (PointsTo.pointer {p = p} h) = PointsTo.pointer (head_same same p l ∙ h)
  points_back l (PointsTo.label {p = p} {n = n} h x) =
      let next : from ≤ p + 1 + n = omega arith in
      PointsTo.label (head_same same p l ∙ h) (points_back next x)

  name_stays : {names after : List ℕ} {p r : ℕ} → from ≤ p → AcceptsName b names p r after → LabelsStay b c names
      → AcceptsName c names p r after × LabelsStay b c after
  name_stays l a stay =
      let own : LabelsStay b c _ = subst (λ (names : List ℕ). LabelsStay b c names) (sym a.added) (λ t y. elim y [ inl x ↦ inl (own_label l x) | inr x ↦ inr (stay t x) ]) in
      (record { ends = continues_same same l a.ends; back = λ t y. let w = a.back t (points_back l y) in (w.0, stay t w.1); added = a.added }, own)

  names_stay : {n p r : ℕ} {names after : List ℕ} → from ≤ p → AllAccepted (AcceptsName b) n names p r after → LabelsStay b c names
      → AllAccepted (AcceptsName c) n names p r after × LabelsStay b c after
  names_stay l none stay = (none, stay)
  names_stay l (more {p = p} {q = q} h x) stay =
      let w = ends_after h.ends in
      let next : from ≤ q = omega arith in
      let first = name_stays l h stay in
      let rest = names_stay next x first.1 in
      (more first.0 rest.0, rest.1)

  octet_same : (p : ℕ) → from ≤ p → get_or b p 0 ≡ get_or c p 0
  octet_same p l =
      let e : p + 0 ≡ p = omega arith in
      ap (λ k. get_or b k 0) (sym e) ∙ sym (get_or-drop p b 0 0) ∙ ap (λ (xs : List ℕ). get_or xs 0 0) (dropped same p l) ∙ get_or-drop p c 0 0 ∙ ap (λ k. get_or c k 0) e

  string_same : (p : ℕ) → from ≤ p → string_end b p ≡ string_end c p
  string_same p l = ap (λ n. p + 1 + n) (octet_same p l)

  start_same : (rtype start : ℕ) → from ≤ start → names_start b rtype start ≡ names_start c rtype start
  start_same rtype start l =
      let one = string_same (start + 4) (omega arith) in
      let two = string_same (string_end b (start + 4)) (omega arith) ∙ ap (string_end c) one in
      let three = string_same (string_end b (string_end b (start + 4))) (omega arith) ∙ ap (string_end c) two in
      ap (λ n. cond (nat_eq rtype 35) n (start + octets_before rtype)) three

  data_stays : {names after : List ℕ} {rtype start end : ℕ} → from ≤ start → AcceptsData b names rtype start end after → LabelsStay b c names
      → AcceptsData c names rtype start end after × LabelsStay b c after
  data_stays l (AcceptsData.empty e) stay = (AcceptsData.empty e, stay)
  data_stays {names = names} {after = after} {rtype = rtype} {start = start} l (AcceptsData.all {stop = stop} ne x m) stay =
      let low = names_low b rtype start in
      let next : from ≤ names_start b rtype start = omega arith in
      let y = names_stay next x stay in
      (AcceptsData.all ne (subst (λ p. AllAccepted (AcceptsName c) (name_count rtype) names p stop after) (start_same rtype start l) y.0) m, y.1)

  -- Questions at or after the offset stay accepted.
  pub questions_stay : {n p r : ℕ} {names after : List ℕ} → from ≤ p → AllAccepted (AcceptsQuestion b) n names p r after → LabelsStay b c names
      → AllAccepted (AcceptsQuestion c) n names p r after × LabelsStay b c after
  questions_stay l none stay = (none, stay)
  questions_stay l (more {p = p} {q = q} h x) stay =
      let w = ends_after h.name.ends in
      let e = h.end in
      let next : from ≤ q = omega arith in
      let first = name_stays l h.name stay in
      let rest = questions_stay next x first.1 in
      let long = same.long in
      let inside = h.within in
      let this : AcceptsQuestion c _ p q _ = record { name_end = h.name_end; name = first.0; end = h.end; within = omega arith } in
      (more this rest.0, rest.1)

  -- Records at or after the offset stay accepted.
  pub records_stay : {n p r : ℕ} {names after : List ℕ} → from ≤ p → AllAccepted (AcceptsRecord b) n names p r after → LabelsStay b c names
      → AllAccepted (AcceptsRecord c) n names p r after
  records_stay l none stay = none
  records_stay l (more {p = p} {q = q} {mid = mid} h x) stay =
      let w = long_record b h.skips in
      let low = w.0 in
      let high = w.1 in
      let first = name_stays l h.owner stay in
      let rdata : from ≤ h.skips.name_end + 10 = omega arith in
      let second = data_stays rdata h.rdata first.1 in
      let next : from ≤ q = omega arith in
      let s = skips_same same l h.skips in
      let type_same = number_same16 same h.skips.name_end (omega arith) in
      let this : AcceptsRecord c _ p q mid = record {
        skips = s.0;
        mid = h.mid;
        owner = first.0;
        rdata = subst (λ rtype. AcceptsData c h.mid rtype (h.skips.name_end + 10) q mid) type_same second.0;
      } in
      more this (records_stay next x second.1)

-- Changes of the first four octets keep a message regular.
pub header_stays_regular : HeaderStaysRegular
header_stays_regular b c (start, a) long e =
    let n = length-drop 4 b in
    let m = length-drop 4 c in
    let k = ap length e in
    let same : SameFrom b c 4 = record { long = omega arith; octets = sym e } in
    let rise = questions_rise a.questions in
    let first : 4 ≤ header_size = omega arith in
    let second : 4 ≤ start = omega arith in
    let asked = questions_stay same first a.questions (λ t x. absurd x) in
    let counted : question_count b ≡ question_count c = number_same16 same 4 (omega arith) in
    let all : record_total b ≡ record_total c =
    (λ i. number_same16 same 6 (omega arith) i + number_same16 same 8 (omega arith) i + number_same16 same 10 (omega arith) i) in (
      start,
      record {
        end = a.end;
        asked = a.asked;
        names = a.names;
        questions = subst (λ n. AllAccepted (AcceptsQuestion c) n [] header_size start a.asked) counted asked.0;
        records = subst (λ n. AllAccepted (AcceptsRecord c) n a.asked start a.end a.names) all (records_stay same second a.records asked.1);
      },
    )

-- all entries but the last
accepted_less : {Accepts : List ℕ → ℕ → ℕ → List ℕ → Type 0} {n p q : ℕ} {names after : List ℕ} (m : ℕ) → n ≡ m + 1 → AllAccepted Accepts n names p q after
    → (r : ℕ) × (before : List ℕ) × AllAccepted Accepts m names p r before
accepted_less {p = p} {names = names} zero e x = (p, names, none)
accepted_less (suc m) e none = absurd (omega arith)
accepted_less (suc m) e (more {n = n} h x) =
    let y = accepted_less m (let less : n ≡ m + 1 = omega arith in less) x in
    (y.0, y.1, more h y.2)

-- The removal of the last record keeps a message regular.
pub removed_stays_regular : RemovedStaysRegular
removed_stays_regular b c (start, a) long there lost =
    let n = length-drop header_size b in
    let m = length-drop header_size c in
    let k = ap length lost.after in
    let same : SameFrom b c header_size = record { long = omega arith; octets = sym lost.after } in
    let asked = questions_stay same (omega arith) a.questions (λ t x. absurd x) in
    let records = records_stay same (questions_rise a.questions) a.records asked.1 in
    let counted = λ (p : ℕ) (l : p + 2 ≤ 10). count_same b c p l (sym lost.before) in
    let fewer : record_total b ≡ record_total c + 1 = omega (arith, counted 6 (omega arith), counted 8 (omega arith), lost.count) in
    let left = accepted_less (record_total c) fewer records in (
      start,
      record {
        end = left.0;
        asked = a.asked;
        names = left.1;
        questions = subst (λ n. AllAccepted (AcceptsQuestion c) n [] header_size start a.asked) (counted 4 (omega arith)) asked.0;
        records = left.2;
      },
    )
