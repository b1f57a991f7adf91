-- Questions and records that are read of a message whose TTLs were changed in place.
use Rattle.std.proofs.Common.{◌≡◌, ◌∙◌, ℕ, zero, suc, ◌+◌, ◌-◌, ◌<◌, ◌≤◌, ◌^◌, inl, inr, List, [], ◌∷◌, ◌++◌, take, drop, length, map, All, arith, refl, subst, sym, ap, Bool, cond}
use Rattle.std.specs.Prelude.{Result, Ok}
use Rattle.std.specs.Int.{w16, w32, to_be_bytes, from_be_bytes}
use Rattle.std.proofs.lemmas.Nat.{from_be_bytes-to_be_bytes_4}
use Rattle.dns_octets.proofs.theory.Overwritten.{written_there}
use Rattle.dns_name.specs.Names.{Fault, NameContinues}
use Rattle.dns_name.specs.Parsers.{number_at}
use Rattle.dns_name.proofs.theory.ExtentLaws.{ends_after}
use Rattle.dns_name.proofs.theory.Names.{one_end}
use Rattle.dns_code.specs.HeaderSection.{header_size}
use Rattle.dns_item.specs.AfterNames.{FieldsFaultAt, FieldsSkipFaultAt}
use Rattle.dns_item.specs.Questions.{QuestionItem, ReadsQuestion, QuestionFaultAt, SkipsQuestion}
use Rattle.dns_item.proofs.theory.QuestionEntryLemmas.{question_or_fault, question_end_or_fault}
use Rattle.dns_item.specs.Items.{SkipsRecord, ReadsRecord, RecordEntry, RecordFaultAt}
use Rattle.dns_item.proofs.theory.EntryLemmas.{record_or_fault, record_end_or_fault}
use Rattle.dns_read.specs.Reading.{Skipped}
use Rattle.dns_read.specs.Reading.Skipped.{none, more}
use Rattle.dns_read.specs.Sections.{answer_count, authority_count, additional_count, AnswersStart, AuthoritiesStart, AdditionalsStart}
use Rattle.dns_read.specs.declared.section.Section.{Section}
use Rattle.dns_read.specs.declared.section.Section.TheVariants.{Answer, Authority, Additional}
use Rattle.dns_read.specs.QuestionsFrom.{questions_from}
use Rattle.dns_read.specs.RecordsFrom.{records_from}
use Rattle.dns_read.proofs.theory.QuestionsFromLemmas.{questions_from_are_read}
use Rattle.dns_read.proofs.theory.RecordsFromLemmas.{records_from_are_read}
use Rattle.dns_edit.specs.Ttls.{GivesTtls, holds_ttl, record_total, with_ttl, with_ttls}
use Rattle.dns_edit.specs.Uses.{Apart, NameApart}
use Rattle.dns_edit.specs.Edits.{NamesAvoid, QuestionApart, RecordApart}
use Rattle.dns_edit.specs.Readings.{FitInOctets, ChangedReadsAlike, SectionReadsAlike, with_changed_ttl, with_changed_item}
use Rattle.dns_edit.proofs.EntryLemmas.{Split, Step, skipped_by, Held, TtlPlace, split_step, split_all, fields_after, fields_within, long_record, apart_after, apart_in}
use Rattle.dns_edit.proofs.StayLemmas.{SameApart, InOctets, with_ttls_same, with_ttl_same, root_same, label_same, pointer_same, name_same, fault_same, part_same}

-- numbers of four octets

byte_take : (xs : List ℕ) → FitInOctets xs → (n : ℕ) → FitInOctets (take n xs)
byte_take xs all zero k = omega arith
byte_take [] all (suc n) k = omega arith
byte_take (x ∷ xs) all (suc n) zero = all 0
byte_take (x ∷ xs) all (suc n) (suc k) = byte_take xs (λ i. all (suc i)) n k

byte_drop : (xs : List ℕ) → FitInOctets xs → (n : ℕ) → FitInOctets (drop n xs)
byte_drop xs all zero = all
byte_drop [] all (suc n) = all
byte_drop (x ∷ xs) all (suc n) = byte_drop xs (λ i. all (suc i)) n

below : (b : List ℕ) (p : ℕ) → FitInOctets b → number_at w32 b p < 2 ^ 32
below b p all =
    let xs = take (p + 4 - p) (drop p b) in
    let each : FitInOctets xs = byte_take (drop p b) (byte_drop b all p) (p + 4 - p) in
    let first = each 0 in
    let second = each 1 in
    let third = each 2 in
    let fourth = each 3 in
    omega (arith, first, second, third, fourth)

written : (change : ℕ → ℕ) → GivesTtls change → (f : ℕ) (b : List ℕ) → f + 4 ≤ length b → number_at w32 b f < 2 ^ 32 → number_at w32 (with_ttl change f b) f ≡ change (number_at w32 b f)
written change gives f b l small =
    let n = change (number_at w32 b f) in
    ap (from_be_bytes w32) (written_there b (to_be_bytes w32 n) f (f + 4) refl l) ∙ from_be_bytes-to_be_bytes_4 n (gives _ small)

append_ttls : (change : ℕ → ℕ) (done left b : List ℕ) → with_ttls change (done ++ left) b ≡ with_ttls change left (with_ttls change done b)
append_ttls change [] left b = refl
append_ttls change (f ∷ done) left b = append_ttls change done left (with_ttl change f b)

module _ {fields b c : List ℕ} (s : SameApart fields b c) where
  -- a 16-bit number that is apart from the fields is the same in both
  pub number16_same : (p : ℕ) → Apart fields p (p + 2) → number_at w16 b p ≡ number_at w16 c p
  number16_same p a =
      let e : p + 2 - p ≡ 2 = omega arith in
      ap (λ n. from_be_bytes w16 (take n (drop p b))) e ∙ ap (from_be_bytes w16) (part_same s p 2 a) ∙ ap (λ n. from_be_bytes w16 (take n (drop p c))) (sym e)

  -- a 32-bit number that is apart from the fields is the same in both
  pub number32_same : (p : ℕ) → Apart fields p (p + 4) → number_at w32 b p ≡ number_at w32 c p
  number32_same p a =
      let e : p + 4 - p ≡ 4 = omega arith in
      ap (λ n. from_be_bytes w32 (take n (drop p b))) e ∙ ap (from_be_bytes w32) (part_same s p 4 a) ∙ ap (λ n. from_be_bytes w32 (take n (drop p c))) (sym e)

  -- the encoding of a name that is apart from the fields has the same end in both
  pub ends_same : {p n r : ℕ} → Apart fields p r → NameContinues b p n r → NameContinues c p n r
  ends_same a (NameContinues.root h) = NameContinues.root (root_same s a h)
  ends_same a (NameContinues.pointer h) = NameContinues.pointer (pointer_same s a h)
  ends_same {r = r} a (NameContinues.label {p = p} {n = n} h small fits x) =
      let w = ends_after x in
      let long = s.long in
      NameContinues.label (label_same s (apart_in fields p r p (p + 1 + n) (omega arith) w a) h) small (omega arith)
      (ends_same (apart_in fields p r (p + 1 + n) r (omega arith) (omega arith) a) x)

  -- a record whose owner and RDLENGTH are apart from the fields has the same end in both, and so has its owner
  abbrev pub skips_apart : {p q : ℕ} (t : SkipsRecord b p q) → Apart fields p t.name_end → Apart fields (t.name_end + 8) (t.name_end + 10) → SkipsRecord c p q
  skips_apart t owner size =
      let r = t.name_end in
      let rdlen = number16_same (r + 8) (apart_in fields (r + 8) (r + 10) (r + 8) (r + 8 + 2) (omega arith) (omega arith) size) in
      let long = s.long in
      let end = t.end in
      let inside = t.within in
      record { name_end = r; name_ends = ends_same owner t.name_ends; end = omega arith; within = omega arith }

-- the TTL of a field after the change
held_value : (change : ℕ → ℕ) → GivesTtls change → (b : List ℕ) {fields : List ℕ} (f : ℕ) → FitInOctets b → Held b fields f
    → number_at w32 (with_ttls change fields b) f ≡ change (number_at w32 b f)
held_value change gives b {fields = fields} f bytes h =
    let here = h.here in
    let c1 = with_ttls change h.done b in
    let c2 = with_ttl change f c1 in
    let one : SameApart h.done b c1 = with_ttls_same change h.done b (λ k d less. let w = h.before k d less in omega arith) in
    let first : number_at w32 b f ≡ number_at w32 c1 f = number32_same one f (λ k d less. inl (h.before k d less)) in
    let fits : f + 4 ≤ length c1 = omega (arith, one.long) in
    let two = with_ttl_same change f c1 fits in
    let long : length b ≡ length c2 = one.long ∙ two.long in
    let three : SameApart h.left c2 (with_ttls change h.left c2) = with_ttls_same change h.left c2 (subst (λ n. All (λ e. e + 4 ≤ n) h.left) long h.within) in
    let small : number_at w32 c1 f < 2 ^ 32 = subst (λ n. n < 2 ^ 32) first (below b f bytes) in
    let last : number_at w32 c2 f ≡ number_at w32 (with_ttls change h.left c2) f = number32_same three f (λ k d less. inr (h.after k d less)) in
    ap (λ (fields : List ℕ). number_at w32 (with_ttls change fields b) f) h.whole
    ∙ ap (λ (c : List ℕ). number_at w32 c f) (append_ttls change h.done (f ∷ h.left) b)
    ∙ sym last ∙ written change gives f c1 fits small ∙ ap change (sym first)

-- the TTL that is read after the change
ttl_value : (change : ℕ → ℕ) → GivesTtls change → (b fields : List ℕ) (f : ℕ) (held : Bool) → FitInOctets b → InOctets b fields → TtlPlace b fields held f
    → cond held (change (number_at w32 b f)) (number_at w32 b f) ≡ number_at w32 (with_ttls change fields b) f
ttl_value change gives b fields f held bytes within (inl (e, h)) = rw e (sym (held_value change gives b f bytes h))
ttl_value change gives b fields f held bytes within (inr (e, a)) = rw e (number32_same (with_ttls_same change fields b within) f a)

module _ (change : ℕ → ℕ) (gives : GivesTtls change) (b fields : List ℕ) (bytes : FitInOctets b) (within : InOctets b fields) where
  abbrev after : List ℕ
  after = with_ttls change fields b

  same : SameApart fields b after
  same = with_ttls_same change fields b within

  -- the record can be skipped as before
  skips_same : {m p q : ℕ} → Step b fields m p q → SkipsRecord after p q
  skips_same {p = p} {q = q} step =
      let r = step.skips.name_end in
      let l = long_record b step.skips in
      let low : p ≤ r = l.0 in
      let high : r + 10 ≤ q = l.1 in
      let owner = apart_in fields p (r + 4) p r (omega arith) (omega arith) step.owner in
      skips_apart same step.skips owner (apart_in fields (r + 8) q (r + 8) (r + 10) (omega arith) (omega arith) step.rdata)

  record_same : {m p q : ℕ} (x : RecordEntry) → Step b fields m p q → NameApart b fields p → ReadsRecord b p q x → ReadsRecord after p q (with_changed_ttl change x)
  unfolding skips_same
  record_same {p = p} {q = q} x step w reads =
      let r = step.skips.name_end in
      let e : reads.skips.name_end ≡ r = one_end b p _ _ reads.skips.name_ends step.skips.name_ends in
      let l = long_record b step.skips in
      let low : p ≤ r = l.0 in
      let high : r + 10 ≤ q = l.1 in
      let rtype = number16_same same r (apart_in fields p (r + 4) r (r + 2) (omega arith) (omega arith) step.owner) in
      let class = number16_same same (r + 2) (apart_in fields p (r + 4) (r + 2) (r + 2 + 2) (omega arith) (omega arith) step.owner) in
      let is : x.rtype ≡ number_at w16 b r = reads.rtype ∙ ap (number_at w16 b) e in
      let ttl : x.ttl ≡ number_at w32 b (r + 4) = reads.ttl ∙ ap (λ r. number_at w32 b (r + 4)) e in
      record {
        skips = skips_same step;
        owner = name_same same w reads.owner;
        rtype = is ∙ rtype;
        class = reads.class ∙ ap (λ r. number_at w16 b (r + 2)) e ∙ class;
        ttl = (λ i. cond (holds_ttl (is i)) (change (ttl i)) (ttl i)) ∙ ttl_value change gives b fields (r + 4) (holds_ttl (number_at w16 b r)) bytes within step.ttl;
        rdata_start = reads.rdata_start ∙ ap (λ r. r + 10) e;
        rdata_end = reads.rdata_end;
      }

  record_fault_same : {p q : ℕ} {f : Fault} → SkipsRecord b p q → NameApart b fields p → RecordFaultAt b p f → RecordFaultAt after p f
  record_fault_same s w (FieldsFaultAt.name g) = FieldsFaultAt.name (fault_same same w g)
  record_fault_same {p = p} {q = q} s w (FieldsFaultAt.short x ends l) = absurd ((record_end_or_fault b).not_both p q _ s (FieldsSkipFaultAt.short ends l))

  records_skip_same : {n k p q : ℕ} → k ≤ n → Split b fields n p → Skipped (SkipsRecord b) k p q → Skipped (SkipsRecord after) k p q
  records_skip_same l x none = none
  records_skip_same {n = n} l x (more {n = m} {p = p} {q = q} h rest) =
      let step : Step b fields (n - 1) p q = split_step b x (omega arith) h in
      more (skips_same step) (records_skip_same {n = n - 1} (omega arith) step.next rest)

  -- the first k of n records
  records_same : {n k p end : ℕ} → k ≤ n → Split b fields n p → Skipped (RecordApart b fields) k p end
      → records_from after k p ≡ map (with_changed_item change) (records_from b k p)
  records_same {p = p} l x none = (records_from_are_read after).none p ∙ ap (map (with_changed_item change)) (sym ((records_from_are_read b).none p))
  records_same {n = n} {p = p} l x (more {n = m} {q = q} h rest) =
      let step : Step b fields (n - 1) p q = split_step b x (omega arith) h.0 in
      let old = records_from_are_read b in
      let new = records_from_are_read after in
      elim ((record_or_fault b).some p) [
        | inl (q', y, reads) ↦
            let e : q' ≡ q = (record_end_or_fault b).one p q' q reads.skips h.0 in
            let there : ReadsRecord b p q y = subst (λ q. ReadsRecord b p q y) e reads in
            new.entry m p q (with_changed_ttl change y) (record_same y step h.1 there)
            ∙ ap (λ (ys : List (Result RecordEntry Fault)). Ok (with_changed_ttl change y) ∷ ys) (records_same {n = n - 1} (omega arith) step.next rest)
            ∙ ap (map (with_changed_item change)) (sym (old.entry m p q y there))
        | inr (f, fault) ↦
            new.stop m p f (record_fault_same h.0 h.1 fault) ∙ ap (map (with_changed_item change)) (sym (old.stop m p f fault))
      ]

  question_skips_same : {p q : ℕ} → Apart fields p q → SkipsQuestion b p q → SkipsQuestion after p q
  question_skips_same {p = p} {q = q} a s =
      let low : p ≤ s.name_end = ends_after s.name_ends in
      let end = s.end in
      let inside = s.within in
      let long = same.long in
      record { name_end = s.name_end; name_ends = ends_same same (apart_in fields p q p s.name_end (omega arith) (omega arith) a) s.name_ends; end = end; within = omega arith }

  question_same : {p q : ℕ} (x : QuestionItem) → Apart fields p q → NameApart b fields p → ReadsQuestion b p q x → ReadsQuestion after p q x
  unfolding question_skips_same
  question_same {p = p} {q = q} x a w reads =
      let r = reads.skips.name_end in
      let low : p ≤ r = ends_after reads.skips.name_ends in
      let end = reads.skips.end in
      record {
        skips = question_skips_same a reads.skips;
        name = name_same same w reads.name;
        rtype = reads.rtype ∙ number16_same same r (apart_in fields p q r (r + 2) (omega arith) (omega arith) a);
        class = reads.class ∙ number16_same same (r + 2) (apart_in fields p q (r + 2) (r + 2 + 2) (omega arith) (omega arith) a);
      }

  question_fault_same : {p q : ℕ} {f : Fault} → QuestionApart b fields p q → QuestionFaultAt b p f → QuestionFaultAt after p f
  question_fault_same h (FieldsFaultAt.name g) = FieldsFaultAt.name (fault_same same h.1 g)
  question_fault_same {p = p} {q = q} h (FieldsFaultAt.short x ends l) = absurd ((question_end_or_fault b).not_both p q _ h.0 (FieldsSkipFaultAt.short ends l))

  questions_rise : {n p end : ℕ} → Skipped (QuestionApart b fields) n p end → p ≤ end
  questions_rise none = omega arith
  questions_rise (more h rest) = let l = ends_after h.0.name_ends in let e = h.0.end in let w = questions_rise rest in omega arith

  questions_same : {n p end : ℕ} → All (λ f. end ≤ f) fields → Skipped (QuestionApart b fields) n p end → questions_from after n p ≡ questions_from b n p
  questions_same {p = p} later none = (questions_from_are_read after).none p ∙ sym ((questions_from_are_read b).none p)
  questions_same {p = p} {end = end} later (more {n = m} {q = q} h rest) =
      let old = questions_from_are_read b in
      let new = questions_from_are_read after in
      let w = questions_rise rest in
      elim ((question_or_fault b).some p) [
        | inl (q', y, reads) ↦
            let e : q' ≡ q = (question_end_or_fault b).one p q' q reads.skips h.0 in
            let there : ReadsQuestion b p q y = subst (λ q. ReadsQuestion b p q y) e reads in
            new.entry m p q y (question_same y (apart_after fields end p q w later) h.1 there)
            ∙ ap (λ (ys : List (Result QuestionItem Fault)). Ok y ∷ ys) (questions_same later rest)
            ∙ sym (old.entry m p q y there)
        | inr (f, fault) ↦ new.stop m p f (question_fault_same h fault) ∙ sym (old.stop m p f fault)
      ]

  questions_skip_same : {n p end : ℕ} → All (λ f. end ≤ f) fields → Skipped (QuestionApart b fields) n p end → Skipped (SkipsQuestion after) n p end
  questions_skip_same later none = none
  questions_skip_same {end = end} later (more {p = p} {q = q} h rest) =
      let w = questions_rise rest in
      more (question_skips_same (apart_after fields end p q w later) h.0) (questions_skip_same later rest)

-- Entries that are skipped, in two parts.
pub in_two : {Skips : ℕ → ℕ → Type 0} (k m : ℕ) {n p r : ℕ} → n ≡ k + m → Skipped Skips n p r → (q : ℕ) × Skipped Skips k p q × Skipped Skips m q r
in_two {Skips = Skips} zero m {p = p} {r = r} e x = (p, none, subst (λ n. Skipped Skips n p r) (let same : _ ≡ m = omega arith in same) x)
in_two (suc k) m e none = absurd (omega arith)
in_two (suc k) m e (more {n = n} h x) =
    let rest = in_two k m (let less : n ≡ k + m = omega arith in less) x in
    (rest.0, more h rest.1, rest.2)

-- the fields after the first k records
split_after : {b fields : List ℕ} (k m : ℕ) {n p q : ℕ} → n ≡ k + m → Split b fields n p → Skipped (SkipsRecord b) k p q → Split b fields m q
split_after {b = b} {fields = fields} k m {n = n} {p = p} e x none = subst (λ n. Split b fields n p) (let same : n ≡ m = omega arith in same) x
split_after {b = b} {fields = fields} k m {n = n} {p = p} e x (more {n = j} {q = q} h rest) =
    let step : Step b fields (n - 1) p q = split_step b x (omega arith) h in
    split_after j m (omega arith) step.next rest

module _ (change : ℕ → ℕ) (gives : GivesTtls change) (b fields : List ℕ) (bytes : FitInOctets b) (avoid : NamesAvoid b fields) where
  abbrev c : List ℕ
  c = with_ttls change fields b

  within : InOctets b fields
  within = fields_within b avoid.ttls

  later : All (λ f. avoid.start ≤ f) fields
  later = fields_after b avoid.ttls

  low : header_size ≤ avoid.start
  low = questions_rise change gives b fields bytes within avoid.questions

  header_same : take header_size b ≡ take header_size c
  header_same = part_same (same change gives b fields bytes within) 0 header_size (apart_after fields avoid.start 0 (0 + header_size) (let from = low in omega arith) later)

  -- the counts of the sections
  count_same : (p : ℕ) → p + 2 ≤ header_size → number_at w16 b p ≡ number_at w16 c p
  count_same p l = number16_same (same change gives b fields bytes within) p (apart_after fields avoid.start p (p + 2) (let from = low in omega arith) later)

  abbrev Parts : ℕ → ℕ → Type 0
  Parts p q = Skipped (RecordApart b fields) (answer_count b) avoid.start p × Skipped (RecordApart b fields) (authority_count b) p q
      × Skipped (RecordApart b fields) (additional_count b) q avoid.end

  parts : (p : ℕ) × (q : ℕ) × Parts p q
  parts =
      let first = in_two (answer_count b) (authority_count b + additional_count b) (omega arith) avoid.records in
      let second = in_two (authority_count b) (additional_count b) refl first.2 in
      (first.0, second.0, (first.1, second.1, second.2))

  module _ (p q : ℕ) (x : Parts p q) where
    skip : {n p q : ℕ} → Skipped (RecordApart b fields) n p q → Skipped (SkipsRecord b) n p q
    skip x = skipped_by (λ p q h. h.0) x

    split : Split b fields (record_total b) avoid.start
    split = split_all b avoid.ttls

    split_first : Split b fields (authority_count b + additional_count b) p
    split_first = split_after (answer_count b) (authority_count b + additional_count b) (omega arith) split (skip x.0)

    split_second : Split b fields (additional_count b) q
    split_second = split_after (authority_count b) (additional_count b) refl split_first (skip x.1)

    answers : AnswersStart c avoid.start
    answers = subst (λ n. Skipped (SkipsQuestion c) n header_size avoid.start) (count_same 4 (omega arith)) (questions_skip_same change gives b fields bytes within later avoid.questions)

    authorities : AuthoritiesStart c p
    authorities = (
      avoid.start,
      answers,
      subst (λ n. Skipped (SkipsRecord c) n avoid.start p) (count_same 6 (omega arith)) (records_skip_same change gives b fields bytes within (omega arith) split (skip x.0)),
    )

    additionals : AdditionalsStart c q
    additionals = (
      p,
      authorities,
      subst (λ n. Skipped (SkipsRecord c) n p q) (count_same 8 (omega arith)) (records_skip_same change gives b fields bytes within (omega arith) split_first (skip x.1)),
    )

    asked : AnswersStart b avoid.start
    asked = skipped_by (λ p q h. h.0) avoid.questions

    sections : (which : Section) → (p : ℕ) × SectionReadsAlike change b c which p
    sections Answer = (avoid.start, record { before = asked; after = answers; records = records_same change gives b fields bytes within (omega arith) split x.0 })
    sections Authority = (p, record { before = (avoid.start, asked, skip x.0); after = authorities; records = records_same change gives b fields bytes within (omega arith) split_first x.1 })
    sections Additional = (
      q,
      record { before = (p, (avoid.start, asked, skip x.0), skip x.1); after = additionals; records = records_same change gives b fields bytes within (omega arith) split_second x.2 },
    )

-- A message whose TTLs were changed reads as before, but for these TTLs.
pub changed_reads_alike : ChangedReadsAlike
changed_reads_alike change b fields gives bytes avoid =
    let x = parts change gives b fields bytes avoid in
    record {
      header = sym (header_same change gives b fields bytes avoid);
      questions = questions_same change gives b fields bytes (within change gives b fields bytes avoid) (later change gives b fields bytes avoid) avoid.questions;
      sections = sections change gives b fields bytes avoid x.0 x.1 x.2;
    }
