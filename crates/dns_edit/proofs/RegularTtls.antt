-- A regular message stays regular if its TTLs change.
use Rattle.std.proofs.Common.{◌≡◌, ◌∙◌, ℕ, ◌+◌, ◌≤◌, inl, inr, List, [], All, arith, refl, subst, sym, ap, Bool, true, false, cond, nat_eq}
use Rattle.std.specs.Prelude.{get_or, unwrap_or}
use Rattle.std.proofs.lemmas.Option.{unwrap_or-slice_get}
use Rattle.std.specs.Int.{w16}
use Rattle.dns_name.specs.Names.{NameContinues}
use Rattle.dns_name.specs.Parsers.{number_at}
use Rattle.dns_name.proofs.theory.ExtentLaws.{ends_after}
use Rattle.dns_name.proofs.theory.Names.{one_end}
use Rattle.dns_code.specs.HeaderSection.{header_size}
use Rattle.dns_edit.specs.Acceptance.{AcceptsData, AcceptsQuestion, AcceptsRecord, AllAccepted}
use Rattle.dns_edit.specs.Acceptance.AllAccepted.{none, more}
use Rattle.dns_edit.specs.Alike.{TtlsStayRegular}
use Rattle.dns_edit.specs.Pointers.{AcceptsName, LabelOf, PointsTo}
use Rattle.dns_edit.specs.Rdata.{name_count, names_start, octets_before, string_end}
use Rattle.dns_edit.specs.Ttls.{record_total}
use Rattle.dns_edit.specs.Uses.{Apart}
use Rattle.dns_edit.proofs.AcceptLemmas.{asked_end, names_low, names_rise, questions_rise}
use Rattle.dns_edit.proofs.EntryLemmas.{Split, Step, apart_after, apart_in, fields_after, fields_within, long_record, skipped_by, split_all, split_step}
use Rattle.dns_edit.proofs.ReadLemmas.{ends_same, number16_same, skips_apart}
use Rattle.dns_edit.proofs.RegularStays.{LabelsStay}
use Rattle.dns_edit.proofs.StayLemmas.{SameApart, label_same, pointer_same, root_same, with_ttls_same}
use Rattle.dns_edit.proofs.WalkLemmas.{label_next, no_label_at_pointer, no_label_at_root, no_pointer_at_root, pointer_here, pointer_next}

-- of a choice, the first may be another number if it is small
first_same : (x : Bool) (m m' n e : ℕ) → cond x m n ≤ e → (m ≤ e → m ≡ m') → cond x m n ≡ cond x m' n
first_same true m m' n e l f = f l
first_same false m m' n e l f = refl

module _ {fields b c : List ℕ} (same : SameApart fields b c) where
  own_label : {p s q t : ℕ} → NameContinues b p s q → Apart fields p q → LabelOf b p t → LabelOf c p t
  own_label (NameContinues.root h) a x = absurd (no_label_at_root h x)
  own_label (NameContinues.pointer h) a x = absurd (no_label_at_pointer h x)
  own_label {q = q} (NameContinues.label {p = p} {n = n} h small fits x) a y =
      let l = ends_after x in
      let here = label_same same (apart_in fields p q p (p + 1 + n) (omega arith) l a) h in
      elim (label_next h y) [
        | inl e ↦ subst (λ t. LabelOf c p t) (sym e) (LabelOf.first here)
        | inr z ↦ LabelOf.later here (own_label x (apart_in fields p q (p + 1 + n) q (omega arith) (omega arith) a) z)
      ]

  points_back : {p s q t : ℕ} → NameContinues b p s q → Apart fields p q → PointsTo c p t → PointsTo b p t
  points_back (NameContinues.root h) a x = absurd (no_pointer_at_root (root_same same a h) x)
  points_back (NameContinues.pointer {p = p} h) a x = subst (λ t. PointsTo b p t) (sym (pointer_here (pointer_same same a h) x)) (PointsTo.pointer h)
  points_back {q = q} (NameContinues.label {p = p} {n = n} h small fits x) a y =
      let l = ends_after x in
      let here = label_same same (apart_in fields p q p (p + 1 + n) (omega arith) l a) h in
      PointsTo.label h (points_back x (apart_in fields p q (p + 1 + n) q (omega arith) (omega arith) a) (pointer_next here y))

  name_stays : {names after : List ℕ} {p q : ℕ} → AcceptsName b names p q after → Apart fields p q → LabelsStay b c names
      → AcceptsName c names p q after × LabelsStay b c after
  name_stays a apart stay =
      let own : LabelsStay b c _ = subst (λ (names : List ℕ). LabelsStay b c names) (sym a.added) (λ t y. elim y [ inl x ↦ inl (own_label a.ends apart x) | inr x ↦ inr (stay t x) ]) in (
        record { ends = ends_same same apart a.ends; back = λ t y. let w = a.back t (points_back a.ends apart y) in (w.0, stay t w.1); added = a.added },
        own,
      )

  names_stay : {n p q : ℕ} {names after : List ℕ} → AllAccepted (AcceptsName b) n names p q after → Apart fields p q → LabelsStay b c names
      → AllAccepted (AcceptsName c) n names p q after × LabelsStay b c after
  names_stay none a stay = (none, stay)
  names_stay (more {p = p} {q = q} {r = r} h x) a stay =
      let l = ends_after h.ends in
      let w = names_rise x in
      let first = name_stays h (apart_in fields p r p q (omega arith) w a) stay in
      let rest = names_stay x (apart_in fields p r q r l (omega arith) a) first.1 in
      (more first.0 rest.0, rest.1)

  string_same : (p : ℕ) → Apart fields p (p + 1) → string_end b p ≡ string_end c p
  string_same p a =
      let octet : get_or b p 0 ≡ get_or c p 0 = sym (unwrap_or-slice_get b p 0) ∙ ap (λ o. unwrap_or o 0) (same.same p a) ∙ unwrap_or-slice_get c p 0 in
      ap (λ n. p + 1 + n) octet

  strings_same : (start end : ℕ) → Apart fields start end → string_end b (string_end b (string_end b (start + 4))) ≤ end
      → string_end b (string_end b (string_end b (start + 4))) ≡ string_end c (string_end c (string_end c (start + 4)))
  strings_same start end a l =
      let one = start + 4 in
      let two = string_end b one in
      let three = string_end b two in
      let first = string_same one (apart_in fields start end one (one + 1) (omega arith) (omega arith) a) in
      let second = string_same two (apart_in fields start end two (two + 1) (omega arith) (omega arith) a) ∙ ap (string_end c) first in
      string_same three (apart_in fields start end three (three + 1) (omega arith) (omega arith) a) ∙ ap (string_end c) second

  start_same : (rtype start end : ℕ) → Apart fields start end → names_start b rtype start ≤ end → names_start b rtype start ≡ names_start c rtype start
  start_same rtype start end a l =
      first_same (nat_eq rtype 35) (string_end b (string_end b (string_end b (start + 4)))) (string_end c (string_end c (string_end c (start + 4))))
      (start + octets_before rtype) end l (strings_same start end a)

  -- RDATA that is apart from the fields stays accepted.
  pub data_stays : {names after : List ℕ} {rtype start end : ℕ} → AcceptsData b names rtype start end after → Apart fields start end → LabelsStay b c names
      → AcceptsData c names rtype start end after × LabelsStay b c after
  data_stays (AcceptsData.empty e) a stay = (AcceptsData.empty e, stay)
  data_stays {names = names} {after = after} {rtype = rtype} {start = start} {end = end} (AcceptsData.all {stop = stop} ne x l) a stay =
      let from = names_start b rtype start in
      let rise = names_rise x in
      let y = names_stay x (apart_in fields start end from stop (names_low b rtype start) l a) stay in
      let begin = start_same rtype start end a (omega arith) in
      (AcceptsData.all ne (subst (λ p. AllAccepted (AcceptsName c) (name_count rtype) names p stop after) begin y.0) l, y.1)

  -- Questions before the fields stay accepted.
  pub questions_stay : {n p q : ℕ} {names after : List ℕ} → AllAccepted (AcceptsQuestion b) n names p q after → All (λ f. q ≤ f) fields → LabelsStay b c names
      → AllAccepted (AcceptsQuestion c) n names p q after × LabelsStay b c after
  questions_stay none later stay = (none, stay)
  questions_stay {q = r} (more {p = p} {q = q} h x) later stay =
      let w = questions_rise x in
      let e = h.end in
      let first = name_stays h.name (apart_after fields r p h.name_end (omega arith) later) stay in
      let rest = questions_stay x later first.1 in
      let long = same.long in
      let inside = h.within in
      let this : AcceptsQuestion c _ p q _ = record { name_end = h.name_end; name = first.0; end = h.end; within = omega arith } in
      (more this rest.0, rest.1)

  -- A record stays accepted if its owner, type, class and RDLENGTH are apart from the fields, and its RDATA stays accepted.
  pub record_stays : {names after : List ℕ} {p q : ℕ} (h : AcceptsRecord b names p q after) → Apart fields p (h.skips.name_end + 4)
      → Apart fields (h.skips.name_end + 8) (h.skips.name_end + 10) → LabelsStay b c names
      → (LabelsStay b c h.mid → AcceptsData c h.mid (number_at w16 b h.skips.name_end) (h.skips.name_end + 10) q after × LabelsStay b c after)
      → AcceptsRecord c names p q after × LabelsStay b c after
  record_stays {after = after} {p = p} {q = q} h owner size stay rdata =
      let r = h.skips.name_end in
      let l = long_record b h.skips in
      let low : p ≤ r = l.0 in
      let name : Apart fields p r = apart_in fields p (r + 4) p r (omega arith) (omega arith) owner in
      let first = name_stays h.owner name stay in
      let second = rdata first.1 in
      let type_same = number16_same same r (apart_in fields p (r + 4) r (r + 2) (omega arith) (omega arith) owner) in
      let this : AcceptsRecord c _ p q after = record {
        skips = skips_apart same h.skips name size;
        mid = h.mid;
        owner = first.0;
        rdata = subst (λ rtype. AcceptsData c h.mid rtype (r + 10) q after) type_same second.0;
      } in
      (this, second.1)

  records_stay : {n p q : ℕ} {names after : List ℕ} → AllAccepted (AcceptsRecord b) n names p q after → Split b fields n p → LabelsStay b c names
      → AllAccepted (AcceptsRecord c) n names p q after
  records_stay none x stay = none
  records_stay (more {n = m} {p = p} {q = q} h rest) x stay =
      let step : Step b fields m p q = split_step b x refl h.skips in
      let r = h.skips.name_end in
      let e : step.skips.name_end ≡ r = one_end b p _ _ step.skips.name_ends h.skips.name_ends in
      let l = long_record b h.skips in
      let high : r + 10 ≤ q = l.1 in
      let owner : Apart fields p (r + 4) = subst (λ r. Apart fields p (r + 4)) e step.owner in
      let rdata : Apart fields (r + 8) q = subst (λ r. Apart fields (r + 8) q) e step.rdata in
      let size = apart_in fields (r + 8) q (r + 8) (r + 10) (omega arith) (omega arith) rdata in
      let this = record_stays h owner size stay (data_stays h.rdata (apart_in fields (r + 8) q (r + 10) q (omega arith) (omega arith) rdata)) in
      more this.0 (records_stay rest step.next this.1)

-- If the TTLs of a regular message change, it stays regular.
pub ttls_stay_regular : TtlsStayRegular
ttls_stay_regular change b c (start, a) (fields, avoid, e) =
    let same : SameApart fields b c = subst (λ (c : List ℕ). SameApart fields b c) (sym e) (with_ttls_same change fields b (fields_within b avoid.ttls)) in
    let there : avoid.start ≡ start = sym (asked_end a.questions (skipped_by (λ p q h. h.0) avoid.questions)) in
    let later : All (λ f. start ≤ f) fields = subst (λ p. All (λ f. p ≤ f) fields) there (fields_after b avoid.ttls) in
    let split : Split b fields (record_total b) start = subst (λ p. Split b fields (record_total b) p) there (split_all b avoid.ttls) in
    let rise = questions_rise a.questions in
    let counted = λ (p : ℕ) (l : p + 2 ≤ header_size). number16_same same p (apart_after fields start p (p + 2) (omega arith) later) in
    let all : record_total b ≡ record_total c = (λ i. counted 6 (omega arith) i + counted 8 (omega arith) i + counted 10 (omega arith) i) in
    let asked = questions_stay same a.questions later (λ t x. absurd x) in (
      start,
      record {
        end = a.end;
        asked = a.asked;
        names = a.names;
        questions = subst (λ n. AllAccepted (AcceptsQuestion c) n [] header_size start a.asked) (counted 4 (omega arith)) asked.0;
        records = subst (λ n. AllAccepted (AcceptsRecord c) n a.asked start a.end a.names) all (records_stay same a.records split asked.1);
      },
    )
