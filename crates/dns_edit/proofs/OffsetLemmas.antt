-- The names of a regular message, by their offsets: each pointer leads to a label of one of them.
use Rattle.std.proofs.Common.{◌≡◌, ◌≢◌, ℕ, ◌+◌, ◌<◌, ◌≤◌, inr, List, arith, subst, sym}
use Rattle.std.specs.Int.{w16}
use Rattle.dns_name.specs.Names.{NameEndsAt}
use Rattle.dns_name.specs.Parsers.{number_at}
use Rattle.dns_name.proofs.theory.ExtentLaws.{ends_after}
use Rattle.dns_name.proofs.theory.Names.{one_end}
use Rattle.dns_item.specs.Items.{SkipsRecord}
use Rattle.dns_item.proofs.theory.EntryLemmas.{record_end_or_fault}
use Rattle.dns_item.proofs.theory.QuestionEntryLemmas.{question_end_or_fault}
use Rattle.dns_read.specs.Reading.{Skipped}
use Rattle.dns_edit.specs.Acceptance.{AcceptsData, AcceptsFrom, AcceptsQuestion, AcceptsRecord, AllAccepted}
use Rattle.dns_edit.specs.Acceptance.AllAccepted.{none, more}
use Rattle.dns_edit.specs.Offsets.{QuestionAt, RecordAt, RdataNameAt}
use Rattle.dns_edit.specs.Pointers.{AcceptsName, LabelOfAny, PointsTo}
use Rattle.dns_edit.specs.Rdata.{name_count, names_start}
use Rattle.dns_edit.proofs.AcceptLemmas.{asked_end, names_low, question_skips}
use Rattle.dns_edit.proofs.EntryLemmas.{long_record}

-- From offset p on, a pointer leads to a label of one of the names.
abbrev pub LeadsTo : List ℕ → List ℕ → ℕ → Type 0
LeadsTo b names p = (t : ℕ) → PointsTo b p t → LabelOfAny b names t

-- the labels of the names are labels of the names after them too
abbrev Keeps : List ℕ → List ℕ → List ℕ → Type 0
Keeps b names after = (t : ℕ) → LabelOfAny b names t → LabelOfAny b after t

-- an accepted entry at offset p, and the names after all entries
record Nth (b : List ℕ) (Accepts : List ℕ → ℕ → ℕ → List ℕ → Type 0) (after : List ℕ) (p : ℕ) : Type 0 where
  q : ℕ
  names : List ℕ
  mid : List ℕ
  accepts : Accepts names p q mid
  keeps : Keeps b mid after

module _ {b : List ℕ} {Accepts : List ℕ → ℕ → ℕ → List ℕ → Type 0} (each : (names after : List ℕ) (p q : ℕ) → Accepts names p q after → Keeps b names after) where
  all_keep : {n p q : ℕ} {names after : List ℕ} → AllAccepted Accepts n names p q after → Keeps b names after
  all_keep none = λ t x. x
  all_keep (more h rest) = λ t x. all_keep rest t (each _ _ _ _ h t x)

  module _ {Skips : ℕ → ℕ → Type 0} (skips : (names after : List ℕ) (p q : ℕ) → Accepts names p q after → Skips p q) (one : (p q r : ℕ) → Skips p q → Skips p r → q ≡ r) where
    nth : {n k p q r : ℕ} {names after : List ℕ} → AllAccepted Accepts n names p q after → Skipped Skips k p r → k < n → Nth b Accepts after r
    nth none y less = absurd (omega arith)
    nth (more h rest) Skipped.none less = record { q = _; names = _; mid = _; accepts = h; keeps = all_keep rest }
    nth {r = r} (more {p = p} {q = q} h rest) (Skipped.more {n = k} {q = q'} g y) less =
        let e : q' ≡ q = one p q' q g (skips _ _ _ _ h) in
        nth rest (subst (λ q. Skipped Skips k q r) e y) (omega arith)

-- A name in RDATA: it can be skipped, and its pointer leads to a label of one of the names.
pub record InRdata (b names : List ℕ) (start p : ℕ) : Type 0 where
  pub name_end : ℕ
  pub ends : NameEndsAt b p name_end
  pub leads : LeadsTo b names p
  pub low : start ≤ p

module _ {b : List ℕ} where
  name_keeps : {names after : List ℕ} {p q : ℕ} → AcceptsName b names p q after → Keeps b names after
  name_keeps a = λ t x. subst (λ (names : List ℕ). LabelOfAny b names t) (sym a.added) (inr x)

  names_keep : {n p q : ℕ} {names after : List ℕ} → AllAccepted (AcceptsName b) n names p q after → Keeps b names after
  names_keep x = all_keep (λ names after p q h. name_keeps h) x

  data_keeps : {names after : List ℕ} {rtype start end : ℕ} → AcceptsData b names rtype start end after → Keeps b names after
  data_keeps (AcceptsData.empty e) = λ t x. x
  data_keeps (AcceptsData.all ne x l) = names_keep x

  record_keeps : {names after : List ℕ} {p q : ℕ} → AcceptsRecord b names p q after → Keeps b names after
  record_keeps h = λ t x. data_keeps h.rdata t (name_keeps h.owner t x)

  -- records are after the offset that they are skipped from
  records_rise : {n p q : ℕ} → Skipped (SkipsRecord b) n p q → p ≤ q
  records_rise Skipped.none = omega arith
  records_rise (Skipped.more s x) = let l = long_record b s in let w = records_rise x in omega (arith, l.0, l.1)

  names_rise : {n p q : ℕ} → Skipped (NameEndsAt b) n p q → p ≤ q
  names_rise Skipped.none = omega arith
  names_rise (Skipped.more s x) = let l = ends_after s in let w = names_rise x in omega arith

  data_name : {names after : List ℕ} {rtype start end p k : ℕ} → AcceptsData b names rtype start end after → start ≢ end → k < name_count rtype
      → Skipped (NameEndsAt b) k (names_start b rtype start) p → InRdata b after start p
  data_name (AcceptsData.empty e) some less others = absurd (some e)
  data_name {rtype = rtype} {start = start} {p = p} (AcceptsData.all ne x l) some less others =
      let y : Nth b (AcceptsName b) _ p = nth (λ names after p q h. name_keeps h) (λ names after p q h. h.ends) (one_end b) x others less in
      let low = names_low b rtype start in
      let rise = names_rise others in
      record {
        name_end = y.q;
        ends = y.accepts.ends;
        leads = λ t z. y.keeps t (name_keeps y.accepts t (y.accepts.back t z).1);
        low = omega arith;
      }

  module _ {start : ℕ} (a : AcceptsFrom b start) where
    keeps_records : Keeps b a.asked a.names
    keeps_records = all_keep (λ names after p q h. record_keeps h) a.records

    -- Each pointer of a question's name leads to a label of one of the names.
    pub question_leads : (p : ℕ) → QuestionAt b p → LeadsTo b a.names p
    question_leads p (k, less, x) =
        let y : Nth b (AcceptsQuestion b) a.asked p = nth (λ names after p q h. name_keeps h.name) (λ names after p q h. question_skips h) (question_end_or_fault b).one a.questions x less in
        λ t z. keeps_records t (y.keeps t (name_keeps y.accepts.name t (y.accepts.name.back t z).1))

    entry : (p : ℕ) → RecordAt b p → Nth b (AcceptsRecord b) a.names p
    entry p (from, k, asked, less, x) =
        let e : from ≡ start = sym (asked_end a.questions asked) in
        let there : Skipped (SkipsRecord b) k start p = subst (λ from. Skipped (SkipsRecord b) k from p) e x in
        nth (λ names after p q h. record_keeps h) (λ names after p q h. h.skips) (record_end_or_fault b).one a.records there less

    -- So does each pointer of an owner.
    pub owner_leads : (p : ℕ) → RecordAt b p → LeadsTo b a.names p
    owner_leads p x =
        let y = entry p x in
        λ t z. y.keeps t (record_keeps y.accepts t (y.accepts.owner.back t z).1)

    -- So does each pointer of a name in RDATA.
    pub rdata_name : (p end : ℕ) → RdataNameAt b p end → InRdata b a.names start p
    rdata_name p end x =
        let y = entry x.start x.entry in
        let s = y.accepts.skips in
        let e : x.skips.name_end ≡ s.name_end = one_end b x.start _ _ x.skips.name_ends s.name_ends in
        let eq : end ≡ y.q = (record_end_or_fault b).one x.start end y.q x.skips s in
        let some : s.name_end + 10 ≢ y.q = λ h. x.some (let is : x.skips.name_end + 10 ≡ end = omega arith in is) in
        let less : x.before < name_count (number_at w16 b s.name_end) = subst (λ r. x.before < name_count (number_at w16 b r)) e x.less in
        let others = subst (λ r. Skipped (NameEndsAt b) x.before (names_start b (number_at w16 b r) (r + 10)) p) e x.others in
        let z = data_name y.accepts.rdata some less others in
        let from = x.entry.4 in
        let begin : x.entry.0 ≡ start = sym (asked_end a.questions x.entry.2) in
        let rise = records_rise from in
        let long = long_record b s in
        let low = z.low in
        record { name_end = z.name_end; ends = z.ends; leads = λ t w. y.keeps t (z.leads t w); low = omega (arith, long.0, low, rise, begin) }
