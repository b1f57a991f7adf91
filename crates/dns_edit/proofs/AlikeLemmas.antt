-- Names and entries that read alike in two messages: the same, with each label changed by a function.
use Rattle.std.proofs.Common.{◌≡◌, ◌∙◌, ℕ, ◌+◌, ◌≤◌, List, [], ◌∷◌, length, map, arith, refl, subst, sym, ap}
use Rattle.std.specs.Prelude.{Ok, Err}
use Rattle.std.specs.Int.{w16, w32}
use Rattle.std.proofs.Common.{inl, inr}
use Rattle.dns_name.specs.Names.{Labels, Fault, Faulty, name_size, head_at, label_at, NameAt, NameContinues}
use Rattle.dns_name.specs.Parsers.{number_at}
use Rattle.dns_name.specs.Unique.{name_size-label_at}
use Rattle.dns_name.specs.declared.head.Head.TheVariants.{Root, Label, Pointer}
use Rattle.dns_name.proofs.theory.Names.{one_end}
use Rattle.dns_code.specs.HeaderSection.{header_size}
use Rattle.dns_item.specs.AfterNames.{FieldsFaultAt, FieldsSkipFaultAt}
use Rattle.dns_item.specs.Questions.{QuestionItem, ReadsQuestion, QuestionFaultAt, SkipsQuestion}
use Rattle.dns_item.proofs.theory.QuestionEntryLemmas.{question_or_fault, question_end_or_fault}
use Rattle.dns_item.specs.Items.{SkipsRecord, ReadsRecord, RecordEntry, RecordFaultAt}
use Rattle.dns_item.proofs.theory.EntryLemmas.{record_or_fault, record_end_or_fault}
use Rattle.dns_read.specs.Reading.{Skipped}
use Rattle.dns_read.specs.Reading.Skipped.{none, more}
use Rattle.dns_read.specs.QuestionsFrom.{questions_from}
use Rattle.dns_read.specs.RecordsFrom.{records_from}
use Rattle.dns_read.proofs.theory.QuestionsFromLemmas.{questions_from_are_read}
use Rattle.dns_read.proofs.theory.RecordsFromLemmas.{records_from_are_read}
use Rattle.dns_read.specs.Sections.{question_count, answer_count, authority_count, additional_count, AnswersStart, AuthoritiesStart, AdditionalsStart}
use Rattle.dns_read.specs.declared.section.Section.{Section}
use Rattle.dns_read.specs.declared.section.Section.TheVariants.{Answer, Authority, Additional}
use Rattle.dns_edit.specs.Alike.{SectionAlike, named_question, named_record}
use Rattle.dns_edit.specs.Offsets.{RdataNameAt}
use Rattle.dns_edit.specs.Ttls.{record_total}
use Rattle.dns_edit.proofs.AgreeLemmas.{SameOctets, octets_same16, octets_same32}
use Rattle.dns_edit.proofs.EntryLemmas.{skipped_by}
use Rattle.dns_edit.proofs.ReadLemmas.{in_two}

-- A name is read alike in both from offset p on: the same labels and pointers begin there, and the labels are the same by the function.
pub data NameAlike (f : List ℕ → List ℕ) (b c : List ℕ) : ℕ → Type 0 where
  root : {p : ℕ} → head_at b p ≡ Ok Root → head_at c p ≡ Ok Root → NameAlike f b c p
  label : {p n : ℕ} → head_at b p ≡ Ok (Label n) → head_at c p ≡ Ok (Label n) → f (label_at c p n) ≡ f (label_at b p n) → NameAlike f b c (p + 1 + n) → NameAlike f b c p
  pointer : {p t : ℕ} → head_at b p ≡ Ok (Pointer t) → head_at c p ≡ Ok (Pointer t) → NameAlike f b c t → NameAlike f b c p

-- The label at offset p reads alike, and the name after it.
abbrev pub Labelled : (List ℕ → List ℕ) → List ℕ → List ℕ → ℕ → ℕ → Type 0
Labelled f b c p n = (head_at c p ≡ Ok (Label n)) × (f (label_at c p n) ≡ f (label_at b p n)) × NameAlike f b c (p + 1 + n)

-- The pointer at offset p reads alike, and the name that it leads to.
abbrev pub Pointed : (List ℕ → List ℕ) → List ℕ → List ℕ → ℕ → ℕ → Type 0
Pointed f b c p t = (head_at c p ≡ Ok (Pointer t)) × NameAlike f b c t

-- The name that is read in the other octets.
pub record Other (f : List ℕ → List ℕ) (c : List ℕ) (p : ℕ) (name : Labels) : Type 0 where
  pub name' : Labels
  pub is_at : NameAt c p name'
  pub alike : map f name' ≡ map f name
  pub size : name_size name' ≡ name_size name

module _ {f : List ℕ → List ℕ} {b c : List ℕ} where
  -- A root label is read alike.
  pub alike_root : {p : ℕ} → NameAlike f b c p → head_at b p ≡ Ok Root → head_at c p ≡ Ok Root
  alike_root (NameAlike.root h g) e = g
  alike_root (NameAlike.label h g l x) e = cc
  alike_root (NameAlike.pointer h g x) e = cc

  -- A label is read alike.
  pub alike_label : {p n : ℕ} → NameAlike f b c p → head_at b p ≡ Ok (Label n) → Labelled f b c p n
  alike_label (NameAlike.root h g) e = cc
  alike_label {p = p} (NameAlike.label {n = k} h g l x) e = subst (Labelled f b c p) (let same : k ≡ _ = cc in same) (g, l, x)
  alike_label (NameAlike.pointer h g x) e = cc

  -- A pointer is read alike.
  pub alike_pointer : {p t : ℕ} → NameAlike f b c p → head_at b p ≡ Ok (Pointer t) → Pointed f b c p t
  alike_pointer (NameAlike.root h g) e = cc
  alike_pointer (NameAlike.label h g l x) e = cc
  alike_pointer {p = p} (NameAlike.pointer {t = k} h g x) e = subst (Pointed f b c p) (let same : k ≡ _ = cc in same) (g, x)

  alike_fault : {p : ℕ} {e : Fault} → NameAlike f b c p → head_at b p ≡ Err e → ⊥
  alike_fault (NameAlike.root h g) e = cc
  alike_fault (NameAlike.label h g l x) e = cc
  alike_fault (NameAlike.pointer h g x) e = cc

  module _ (long : length b ≡ length c) where
    -- A name that reads alike is read.
    pub name_alike : {p : ℕ} {name : Labels} → NameAlike f b c p → NameAt b p name → Other f c p name
    name_alike w (NameAt.root h) = record { name' = []; is_at = NameAt.root (alike_root w h); alike = refl; size = refl }
    name_alike w (NameAt.label {p = p} {n = n} {name = name} h fits x small) =
        let y = alike_label w h in
        let r = name_alike y.2 x in
        let inside : p + 1 + n ≤ length c = omega arith in
        let size = r.size in
        let mine = name_size-label_at b p n name fits in
        let its = name_size-label_at c p n r.name' inside in
        record {
          name' = label_at c p n ∷ r.name';
          is_at = NameAt.label y.0 inside r.is_at (omega arith);
          alike = λ i. y.1 i ∷ r.alike i;
          size = its ∙ ap (λ k. n + 1 + k) size ∙ sym mine;
        }
    name_alike w (NameAt.pointer h back x) =
        let y = alike_pointer w h in
        let r = name_alike y.1 x in
        record { name' = r.name'; is_at = NameAt.pointer y.0 back r.is_at; alike = r.alike; size = r.size }

    fault_alike : {p s : ℕ} {e : Fault} → NameAlike f b c p → Faulty b p s e → Faulty c p s e
    fault_alike w (Faulty.head h) = absurd (alike_fault w h)
    fault_alike w (Faulty.long h l) = Faulty.long (alike_label w h).0 l
    fault_alike w (Faulty.cut h l m) = Faulty.cut (alike_label w h).0 l (omega arith)
    fault_alike w (Faulty.ahead h l) = Faulty.ahead (alike_pointer w h).0 l
    fault_alike w (Faulty.label h l m x) = let y = alike_label w h in Faulty.label y.0 l (omega arith) (fault_alike y.2 x)
    fault_alike w (Faulty.pointer h back x) = let y = alike_pointer w h in Faulty.pointer y.0 back (fault_alike y.1 x)

    -- The encoding of the name ends alike.
    pub ends_alike : {p s q : ℕ} → NameAlike f b c p → NameContinues b p s q → NameContinues c p s q
    ends_alike w (NameContinues.root h) = NameContinues.root (alike_root w h)
    ends_alike w (NameContinues.pointer h) = NameContinues.pointer (alike_pointer w h).0
    ends_alike w (NameContinues.label h small fits x) = let y = alike_label w h in NameContinues.label y.0 small (omega arith) (ends_alike y.2 x)

-- A question is from p to q, its name reads alike, and the four octets after the name are the same.
pub record QuestionAlike (f : List ℕ → List ℕ) (b c : List ℕ) (p q : ℕ) : Type 0 where
  pub skips : SkipsQuestion b p q
  pub name : NameAlike f b c p
  pub after : SameOctets b c skips.name_end 4

-- A record is from p to q, its owner reads alike, and the ten octets after the owner are the same.
pub record RecordAlike (f : List ℕ → List ℕ) (b c : List ℕ) (p q : ℕ) : Type 0 where
  pub skips : SkipsRecord b p q
  pub owner : NameAlike f b c p
  pub after : SameOctets b c skips.name_end 10

-- the question that is read in the other octets
record QuestionOther (f : List ℕ → List ℕ) (c : List ℕ) (p q : ℕ) (x : QuestionItem) : Type 0 where
  item : QuestionItem
  reads : ReadsQuestion c p q item
  alike : named_question (map f) (Ok item) ≡ named_question (map f) (Ok x)

-- the record that is read in the other octets
record RecordOther (f : List ℕ → List ℕ) (c : List ℕ) (p q : ℕ) (x : RecordEntry) : Type 0 where
  entry : RecordEntry
  reads : ReadsRecord c p q entry
  alike : named_record (map f) (Ok entry) ≡ named_record (map f) (Ok x)

-- Both have the same length and the same counts but for ARCOUNT, and the entries and the names in RDATA read alike.
pub record AllAlike (f : List ℕ → List ℕ) (b c : List ℕ) : Type 0 where
  pub long : length b ≡ length c
  pub counts : (p : ℕ) → 4 ≤ p → p + 2 ≤ 10 → number_at w16 b p ≡ number_at w16 c p
  pub start : ℕ
  pub end : ℕ
  pub questions : Skipped (QuestionAlike f b c) (question_count b) header_size start
  pub records : Skipped (RecordAlike f b c) (record_total b) start end
  pub rdata : (p end : ℕ) → RdataNameAt b p end → NameAlike f b c p

module _ {f : List ℕ → List ℕ} {b c : List ℕ} where
  question_skips : {p q : ℕ} → QuestionAlike f b c p q → SkipsQuestion c p q
  question_skips h =
      let s = h.skips in
      let long = h.after.long in
      let inside = s.within in
      record { name_end = s.name_end; name_ends = ends_alike long h.name s.name_ends; end = s.end; within = omega arith }

  question_alike : {p q : ℕ} (x : QuestionItem) → QuestionAlike f b c p q → ReadsQuestion b p q x → QuestionOther f c p q x
  unfolding question_skips
  question_alike {p = p} x h reads =
      let s = h.skips in
      let r = s.name_end in
      let e : reads.skips.name_end ≡ r = one_end b p _ _ reads.skips.name_ends s.name_ends in
      let y = name_alike h.after.long h.name reads.name in
      record {
        item = record { name = y.name'; rtype = x.rtype; class = x.class };
        reads = record {
          skips = question_skips h;
          name = y.is_at;
          rtype = reads.rtype ∙ ap (number_at w16 b) e ∙ octets_same16 h.after r (omega arith) (omega arith);
          class = reads.class ∙ ap (λ r. number_at w16 b (r + 2)) e ∙ octets_same16 h.after (r + 2) (omega arith) (omega arith);
        };
        alike = λ i. Ok (record { name = y.alike i; rtype = x.rtype; class = x.class });
      }

  question_fault_alike : {p q : ℕ} {e : Fault} → QuestionAlike f b c p q → QuestionFaultAt b p e → QuestionFaultAt c p e
  question_fault_alike h (FieldsFaultAt.name g) = FieldsFaultAt.name (fault_alike h.after.long h.name g)
  question_fault_alike {p = p} {q = q} h (FieldsFaultAt.short x ends l) = absurd ((question_end_or_fault b).not_both p q _ h.skips (FieldsSkipFaultAt.short ends l))

  -- Questions are skipped alike.
  pub questions_skip_alike : {n p q : ℕ} → Skipped (QuestionAlike f b c) n p q → Skipped (SkipsQuestion c) n p q
  questions_skip_alike x = skipped_by (λ p q h. question_skips h) x

  -- Questions are read alike.
  pub questions_alike : {n p end : ℕ} → Skipped (QuestionAlike f b c) n p end
      → map (named_question (map f)) (questions_from c n p) ≡ map (named_question (map f)) (questions_from b n p)
  questions_alike {p = p} none =
      ap (map (named_question (map f))) ((questions_from_are_read c).none p ∙ sym ((questions_from_are_read b).none p))
  questions_alike {p = p} (more {n = m} {q = q} h rest) =
      let old = questions_from_are_read b in
      let new = questions_from_are_read c in
      elim ((question_or_fault b).some p) [
        | inl (q', x, reads) ↦
            let e : q' ≡ q = (question_end_or_fault b).one p q' q reads.skips h.skips in
            let there : ReadsQuestion b p q x = subst (λ q. ReadsQuestion b p q x) e reads in
            let y = question_alike x h there in
            ap (map (named_question (map f))) (new.entry m p q y.item y.reads)
            ∙ (λ i. y.alike i ∷ questions_alike rest i)
            ∙ ap (map (named_question (map f))) (sym (old.entry m p q x there))
        | inr (e, fault) ↦ ap (map (named_question (map f))) (new.stop m p e (question_fault_alike h fault) ∙ sym (old.stop m p e fault))
      ]

  record_skips : {p q : ℕ} → RecordAlike f b c p q → SkipsRecord c p q
  record_skips h =
      let s = h.skips in
      let long = h.after.long in
      let inside = s.within in
      let n = octets_same16 h.after (s.name_end + 8) (omega arith) (omega arith) in
      let e = s.end in
      record { name_end = s.name_end; name_ends = ends_alike long h.owner s.name_ends; end = omega arith; within = omega arith }

  record_alike : {p q : ℕ} (x : RecordEntry) → RecordAlike f b c p q → ReadsRecord b p q x → RecordOther f c p q x
  unfolding record_skips
  record_alike {p = p} x h reads =
      let s = h.skips in
      let r = s.name_end in
      let e : reads.skips.name_end ≡ r = one_end b p _ _ reads.skips.name_ends s.name_ends in
      let y = name_alike h.after.long h.owner reads.owner in
      record {
        entry = record x { owner = y.name' };
        reads = record {
          skips = record_skips h;
          owner = y.is_at;
          rtype = reads.rtype ∙ ap (number_at w16 b) e ∙ octets_same16 h.after r (omega arith) (omega arith);
          class = reads.class ∙ ap (λ r. number_at w16 b (r + 2)) e ∙ octets_same16 h.after (r + 2) (omega arith) (omega arith);
          ttl = reads.ttl ∙ ap (λ r. number_at w32 b (r + 4)) e ∙ octets_same32 h.after (r + 4) (omega arith) (omega arith);
          rdata_start = reads.rdata_start ∙ ap (λ r. r + 10) e;
          rdata_end = reads.rdata_end;
        };
        alike = λ i. Ok (record x { owner = y.alike i });
      }

  record_fault_alike : {p q : ℕ} {e : Fault} → RecordAlike f b c p q → RecordFaultAt b p e → RecordFaultAt c p e
  record_fault_alike h (FieldsFaultAt.name g) = FieldsFaultAt.name (fault_alike h.after.long h.owner g)
  record_fault_alike {p = p} {q = q} h (FieldsFaultAt.short x ends l) = absurd ((record_end_or_fault b).not_both p q _ h.skips (FieldsSkipFaultAt.short ends l))

  records_skip_alike : {n p q : ℕ} → Skipped (RecordAlike f b c) n p q → Skipped (SkipsRecord c) n p q
  records_skip_alike x = skipped_by (λ p q h. record_skips h) x

  records_alike : {n p end : ℕ} → Skipped (RecordAlike f b c) n p end
      → map (named_record (map f)) (records_from c n p) ≡ map (named_record (map f)) (records_from b n p)
  records_alike {p = p} none = ap (map (named_record (map f))) ((records_from_are_read c).none p ∙ sym ((records_from_are_read b).none p))
  records_alike {p = p} (more {n = m} {q = q} h rest) =
      let old = records_from_are_read b in
      let new = records_from_are_read c in
      elim ((record_or_fault b).some p) [
        | inl (q', x, reads) ↦
            let e : q' ≡ q = (record_end_or_fault b).one p q' q reads.skips h.skips in
            let there : ReadsRecord b p q x = subst (λ q. ReadsRecord b p q x) e reads in
            let y = record_alike x h there in
            ap (map (named_record (map f))) (new.entry m p q y.entry y.reads)
            ∙ (λ i. y.alike i ∷ records_alike rest i)
            ∙ ap (map (named_record (map f))) (sym (old.entry m p q x there))
        | inr (e, fault) ↦ ap (map (named_record (map f))) (new.stop m p e (record_fault_alike h fault) ∙ sym (old.stop m p e fault))
      ]

  module _ (all : AllAlike f b c) where
    skip : {n p q : ℕ} → Skipped (RecordAlike f b c) n p q → Skipped (SkipsRecord b) n p q
    skip x = skipped_by (λ p q h. h.skips) x

    abbrev Parts : ℕ → ℕ → Type 0
    Parts p q = Skipped (RecordAlike f b c) (answer_count b) all.start p × Skipped (RecordAlike f b c) (authority_count b) p q
        × Skipped (RecordAlike f b c) (additional_count b) q all.end

    parts : (p : ℕ) × (q : ℕ) × Parts p q
    parts =
        let first = in_two (answer_count b) (authority_count b + additional_count b) (omega arith) all.records in
        let second = in_two (authority_count b) (additional_count b) refl first.2 in
        (first.0, second.0, (first.1, second.1, second.2))

    module _ (p q : ℕ) (x : Parts p q) where
      asked : AnswersStart b all.start
      asked = skipped_by (λ p q h. h.skips) all.questions

      answers : AnswersStart c all.start
      answers = subst (λ n. Skipped (SkipsQuestion c) n header_size all.start) (all.counts 4 (omega arith) (omega arith)) (questions_skip_alike all.questions)

      authorities : AuthoritiesStart c p
      authorities = (all.start, answers, subst (λ n. Skipped (SkipsRecord c) n all.start p) (all.counts 6 (omega arith) (omega arith)) (records_skip_alike x.0))

      additionals : AdditionalsStart c q
      additionals = (p, authorities, subst (λ n. Skipped (SkipsRecord c) n p q) (all.counts 8 (omega arith) (omega arith)) (records_skip_alike x.1))

      sections : (which : Section) → (p : ℕ) × SectionAlike (map f) b c which p
      sections Answer = (all.start, record { before = asked; after = answers; records = records_alike x.0 })
      sections Authority = (p, record { before = (all.start, asked, skip x.0); after = authorities; records = records_alike x.1 })
      sections Additional = (q, record { before = (p, (all.start, asked, skip x.0), skip x.1); after = additionals; records = records_alike x.2 })

    -- Then the questions and the records read alike.
    pub all_questions : map (named_question (map f)) (questions_from c (question_count b) header_size) ≡ map (named_question (map f)) (questions_from b (question_count b) header_size)
    all_questions = questions_alike all.questions

    -- Each section reads alike.
    pub all_sections : (which : Section) → (p : ℕ) × SectionAlike (map f) b c which p
    all_sections = sections parts.0 parts.1 parts.2

    -- So do the first records of the additional section.
    pub first_additionals : (m : ℕ) → additional_count b ≡ m + 1 → (p : ℕ) × AdditionalsStart b p × AdditionalsStart c p
        × (map (named_record (map f)) (records_from c m p) ≡ map (named_record (map f)) (records_from b m p))
    first_additionals m e =
        let x = parts.2 in
        let first = in_two m 1 e x.2 in (
          parts.1,
          (parts.0, (all.start, asked parts.0 parts.1 x, skip x.0), skip x.1),
          additionals parts.0 parts.1 x,
          records_alike first.1,
        )
