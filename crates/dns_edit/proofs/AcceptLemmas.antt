-- Entries that are accepted: they can be skipped, and their names use no octet of the TTL fields.
use Rattle.std.proofs.Common.{◌≡◌, ℕ, zero, suc, ◌+◌, ◌<◌, ◌≤◌, inl, inr, List, All, arith, refl, subst, sym, Bool, true, false, cond, nat_eq}
use Rattle.dns_name.specs.Names.{NameContinues, NameEndsAt}
use Rattle.dns_name.proofs.theory.ExtentLaws.{ends_after}
use Rattle.dns_name.proofs.theory.Names.{one_end}
use Rattle.dns_item.specs.Items.{SkipsRecord}
use Rattle.dns_item.specs.Questions.{SkipsQuestion}
use Rattle.dns_item.proofs.theory.QuestionEntryLemmas.{question_end_or_fault}
use Rattle.dns_read.specs.Reading.{Skipped}
use Rattle.dns_edit.specs.declared.error.EditError.{EditError}
use Rattle.dns_edit.specs.Acceptance.{AcceptsData, AcceptsFrom, AcceptsQuestion, AcceptsRecord, AllAccepted, OneRefused}
use Rattle.dns_edit.specs.Acceptance.AllAccepted.{none, more}
use Rattle.dns_edit.specs.Acceptance.OneRefused.{here, after}
use Rattle.dns_edit.specs.Edits.{NamesAvoid, QuestionApart, RecordApart}
use Rattle.dns_edit.specs.Pointers.{AcceptsName, LabelOf, LabelOfAny, PointsTo}
use Rattle.dns_edit.specs.Rdata.{DataApart, names_start, octets_before, string_end}
use Rattle.dns_edit.specs.Ttls.{TtlFields, record_total}
use Rattle.dns_edit.specs.Uses.{Apart, NameApart}
use Rattle.dns_edit.proofs.EntryLemmas.{Split, Step, apart_after, apart_in, fields_after, long_record, split_all, split_step}
use Rattle.dns_edit.proofs.WalkLemmas.{label_next, no_label_at_pointer, no_label_at_root}

module _ {Accepts : List ℕ → ℕ → ℕ → List ℕ → Type 0} where
  -- one more entry after those accepted
  pub accepted_last : {n p q r : ℕ} {names mid after : List ℕ} → AllAccepted Accepts n names p q mid → Accepts mid q r after → AllAccepted Accepts (suc n) names p r after
  accepted_last none a = more a none
  accepted_last (more h x) a = more h (accepted_last x a)

  -- accepted entries can be skipped
  pub skipped_if : {Skips : ℕ → ℕ → Type 0} → ((names after : List ℕ) (p q : ℕ) → Accepts names p q after → Skips p q)
      → {n p q : ℕ} {names after : List ℕ} → AllAccepted Accepts n names p q after → Skipped Skips n p q
  skipped_if f none = Skipped.none
  skipped_if f (more h x) = Skipped.more (f _ _ _ _ h) (skipped_if f x)

module _ {Accepts : List ℕ → ℕ → ℕ → List ℕ → Type 0} {Refuses : List ℕ → ℕ → EditError → Type 0} where
  -- an entry that is refused after those accepted, which are fewer than n
  pub refused_next : (n : ℕ) {i p q : ℕ} {names mid : List ℕ} {e : EditError} → AllAccepted Accepts i names p q mid → Refuses mid q e → i < n → OneRefused Accepts Refuses n names p e
  refused_next zero x r l = absurd (omega arith)
  refused_next (suc n) none r l = here r
  refused_next (suc n) (more h x) r l = after h (refused_next n x r (omega arith))

low_cond : (x : Bool) (s m n : ℕ) → s ≤ m → s ≤ n → s ≤ cond x m n
low_cond true s m n l r = l
low_cond false s m n l r = r

-- The names of RDATA are in or after it.
pub names_low : (b : List ℕ) (rtype start : ℕ) → start ≤ names_start b rtype start
names_low b rtype start =
    low_cond (nat_eq rtype 35) start (string_end b (string_end b (string_end b (start + 4)))) (start + octets_before rtype) (omega arith) (omega arith)

-- The names at the labels of these names use no octet of the fields.
abbrev pub AllApart : List ℕ → List ℕ → List ℕ → Type 0
AllApart b fields names = (t : ℕ) → LabelOfAny b names t → NameApart b fields t

module _ {b : List ℕ} where
  -- a question that is accepted can be skipped
  pub question_skips : {names after : List ℕ} {p q : ℕ} → AcceptsQuestion b names p q after → SkipsQuestion b p q
  question_skips a = record { name_end = a.name_end; name_ends = a.name.ends; end = a.end; within = a.within }

  pub records_skipped : {n p q : ℕ} {names after : List ℕ} → AllAccepted (AcceptsRecord b) n names p q after → Skipped (SkipsRecord b) n p q
  records_skipped x = skipped_if (λ names after p q a. a.skips) x

  -- questions that are accepted end where they are skipped to
  pub asked_end : {n p q r : ℕ} {names after : List ℕ} → AllAccepted (AcceptsQuestion b) n names p q after → Skipped (SkipsQuestion b) n p r → q ≡ r
  asked_end none Skipped.none = refl
  asked_end {r = r} (more {n = n} {p = p} {q = q} h x) (Skipped.more {q = q'} k y) =
      let e : q' ≡ q = (question_end_or_fault b).one p q' q k (question_skips h) in
      asked_end x (subst (λ q. Skipped (SkipsQuestion b) n q r) e y)

  -- each question ends after its begin
  pub questions_rise : {n p q : ℕ} {names after : List ℕ} → AllAccepted (AcceptsQuestion b) n names p q after → p ≤ q
  questions_rise none = omega arith
  questions_rise (more h x) = let l = ends_after h.name.ends in let e = h.end in let w = questions_rise x in omega arith

  -- names that are accepted end after their begin
  pub names_rise : {n p q : ℕ} {names after : List ℕ} → AllAccepted (AcceptsName b) n names p q after → p ≤ q
  names_rise none = omega arith
  names_rise (more h x) = let l = ends_after h.ends in let w = names_rise x in omega arith

  module _ {fields : List ℕ} where
    labels_apart : {p s q : ℕ} → NameContinues b p s q → Apart fields p q → ((t : ℕ) → PointsTo b p t → NameApart b fields t)
        → NameApart b fields p × ((t : ℕ) → LabelOf b p t → NameApart b fields t)
    labels_apart (NameContinues.root h) a points = (NameApart.root h a, λ t x. absurd (no_label_at_root h x))
    labels_apart (NameContinues.pointer {t = t} h) a points = (NameApart.pointer h a (points t (PointsTo.pointer h)), λ t x. absurd (no_label_at_pointer h x))
    labels_apart {q = q} (NameContinues.label {p = p} {n = n} h small fits x) a points =
        let l = ends_after x in
        let rest = labels_apart x (apart_in fields p q (p + 1 + n) q (omega arith) (omega arith) a) (λ t y. points t (PointsTo.label h y)) in
        let this : NameApart b fields p = NameApart.label h (apart_in fields p q p (p + 1 + n) (omega arith) l a) rest.0 in
        (this, λ t y. elim (label_next h y) [ inl e ↦ subst (λ t. NameApart b fields t) (sym e) this | inr z ↦ rest.1 t z ])

    -- An accepted name that is apart from the fields uses no octet of them.
    pub name_apart : {names after : List ℕ} {p q : ℕ} → AcceptsName b names p q after → Apart fields p q → AllApart b fields names → NameApart b fields p × AllApart b fields after
    name_apart a apart all =
        let x = labels_apart a.ends apart (λ t y. all t (a.back t y).1) in
        (x.0, subst (λ (names : List ℕ). AllApart b fields names) (sym a.added) (λ t y. elim y [ inl own ↦ x.1 t own | inr before ↦ all t before ]))

    names_apart : {n p q : ℕ} {names after : List ℕ} → AllAccepted (AcceptsName b) n names p q after → Apart fields p q → AllApart b fields names
        → Skipped (λ p q. NameEndsAt b p q × NameApart b fields p) n p q × AllApart b fields after
    names_apart none a all = (Skipped.none, all)
    names_apart (more {p = p} {q = q} {r = r} h x) a all =
        let l = ends_after h.ends in
        let w = names_rise x in
        let first = name_apart h (apart_in fields p r p q (omega arith) w a) all in
        let rest = names_apart x (apart_in fields p r q r l (omega arith) a) first.1 in
        (Skipped.more (h.ends, first.0) rest.0, rest.1)

    -- Nor do the names of RDATA that is apart from them.
    pub data_apart : {names after : List ℕ} {rtype start end : ℕ} → AcceptsData b names rtype start end after → Apart fields start end → AllApart b fields names
        → DataApart b fields rtype start end × AllApart b fields after
    data_apart (AcceptsData.empty e) a all = (inl e, all)
    data_apart {rtype = rtype} {start = start} {end = end} (AcceptsData.all {stop = stop} ne x l) a all =
        let y = names_apart x (apart_in fields start end (names_start b rtype start) stop (names_low b rtype start) l a) all in
        (inr (stop, l, y.0), y.1)

    -- Nor do the names of questions before them.
    pub questions_apart : {n p q : ℕ} {names after : List ℕ} → AllAccepted (AcceptsQuestion b) n names p q after → All (λ f. q ≤ f) fields → AllApart b fields names
        → Skipped (QuestionApart b fields) n p q × AllApart b fields after
    questions_apart none later all = (Skipped.none, all)
    questions_apart {q = r} (more {p = p} {q = q} h x) later all =
        let w = questions_rise x in
        let e = h.end in
        let first = name_apart h.name (apart_after fields r p h.name_end (omega arith) later) all in
        let rest = questions_apart x later first.1 in
        (Skipped.more (question_skips h, first.0) rest.0, rest.1)

    records_apart : {n p q : ℕ} {names after : List ℕ} → AllAccepted (AcceptsRecord b) n names p q after → Split b fields n p → AllApart b fields names
        → Skipped (RecordApart b fields) n p q
    records_apart none x all = Skipped.none
    records_apart (more {n = m} {p = p} {q = q} h rest) x all =
        let step : Step b fields m p q = split_step b x refl h.skips in
        let r = h.skips.name_end in
        let e : step.skips.name_end ≡ r = one_end b p _ _ step.skips.name_ends h.skips.name_ends in
        let l = long_record b h.skips in
        let owner : Apart fields p (r + 4) = subst (λ r. Apart fields p (r + 4)) e step.owner in
        let rdata : Apart fields (r + 8) q = subst (λ r. Apart fields (r + 8) q) e step.rdata in
        let first = name_apart h.owner (apart_in fields p (r + 4) p r (omega arith) (omega arith) owner) all in
        let second = data_apart h.rdata (apart_in fields (r + 8) q (r + 10) q (omega arith) (omega arith) rdata) first.1 in
        Skipped.more (h.skips, first.0, second.0) (records_apart rest step.next second.1)

  -- the names of a message that is accepted use no octet of its TTL fields
  pub names_avoid : {start : ℕ} → AcceptsFrom b start → (fields : List ℕ) → TtlFields b (record_total b) start fields → NamesAvoid b fields
  names_avoid {start = start} a fields t =
      let first = questions_apart a.questions (fields_after b t) (λ t x. absurd x) in
      record {
        start = start;
        end = a.end;
        questions = first.0;
        records = records_apart a.records (split_all b t) first.1;
        ttls = t;
      }
