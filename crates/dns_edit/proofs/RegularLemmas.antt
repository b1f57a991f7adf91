-- The entries of a regular message read alike in octets that are the same from some offset on.
use Rattle.std.proofs.Common.{◌≡◌, ◌∙◌, ℕ, ◌+◌, ◌-◌, ◌<◌, ◌≤◌, inl, inr, List, [], ◌∷◌, take, drop, length, length-drop, map, arith, refl, subst, sym, ap}
use Rattle.std.specs.Prelude.{Result, Ok, Err, slice_get}
use Rattle.std.specs.Int.{w16, from_be_bytes}
use Rattle.std.proofs.lemmas.List.{map-id}
use Rattle.dns_name.specs.Names.{Labels, Fault, label_at, NameAt, NameContinues}
use Rattle.dns_name.specs.Parsers.{number_at}
use Rattle.dns_name.proofs.theory.ExtentLaws.{ends_after}
use Rattle.dns_wire.proofs.theory.Stability.{get_take, same_part}
use Rattle.dns_code.specs.HeaderSection.{header_size}
use Rattle.dns_item.specs.Questions.{QuestionItem, SkipsQuestion}
use Rattle.dns_item.specs.Items.{RecordEntry}
use Rattle.dns_read.specs.Reading.{Skipped}
use Rattle.dns_read.specs.QuestionsFrom.{questions_from}
use Rattle.dns_read.specs.RecordsFrom.{records_from}
use Rattle.dns_read.specs.Sections.{additional_count, question_count, record_count}
use Rattle.dns_edit.specs.Acceptance.{AcceptsData, AcceptsFrom, AcceptsQuestion, AcceptsRecord, AllAccepted, IsRegular}
use Rattle.dns_edit.specs.Acceptance.AllAccepted.{none, more}
use Rattle.dns_edit.specs.Alike.{EntriesAlike, EntriesSame, HeaderReadsAlike, ReadsNameAs, named_question, named_record}
use Rattle.dns_edit.specs.Offsets.{RdataNameAt}
use Rattle.dns_edit.specs.Opt.{RemovedReadsAlike}
use Rattle.dns_edit.specs.Pointers.{AcceptsName, LabelOf, LabelOfAny, PointsTo}
use Rattle.dns_edit.specs.Rdata.{names_start}
use Rattle.dns_edit.specs.Readings.{ReadsNameAlike}
use Rattle.dns_edit.proofs.AcceptLemmas.{names_low, questions_rise}
use Rattle.dns_edit.proofs.AgreeLemmas.{SameFrom, dropped, head_same, number_same16, same_octets}
use Rattle.dns_edit.proofs.AlikeLemmas.{AllAlike, NameAlike, QuestionAlike, RecordAlike, first_additionals}
use Rattle.dns_edit.proofs.CutLemmas.{entries_alike}
use Rattle.dns_edit.proofs.EntryLemmas.{long_record}
use Rattle.dns_edit.proofs.OffsetLemmas.{rdata_name}
use Rattle.dns_edit.proofs.WalkLemmas.{label_next, no_label_at_pointer, no_label_at_root}

-- Names that begin at labels of these names read alike.
abbrev pub LabelsAlike : (List ℕ → List ℕ) → List ℕ → List ℕ → List ℕ → Type 0
LabelsAlike f b c names = (t : ℕ) → LabelOfAny b names t → NameAlike f b c t

module _ {b c : List ℕ} {from : ℕ} (same : SameFrom b c from) where
  label_same : (p n : ℕ) → from ≤ p → label_at c p n ≡ label_at b p n
  label_same p n l = ap (take (p + 1 + n - (p + 1))) (sym (dropped same (p + 1) (omega arith)))

module _ {f : List ℕ → List ℕ} {b c : List ℕ} where
  module _ {from : ℕ} (same : SameFrom b c from) where
    own_alike : {p s r : ℕ} → from ≤ p → NameContinues b p s r → ((t : ℕ) → PointsTo b p t → NameAlike f b c t)
        → NameAlike f b c p × ((t : ℕ) → LabelOf b p t → NameAlike f b c t)
    own_alike l (NameContinues.root {p = p} h) points = (NameAlike.root h (sym (head_same same p l) ∙ h), λ t x. absurd (no_label_at_root h x))
    own_alike l (NameContinues.pointer {p = p} {t = t} h) points =
        (NameAlike.pointer h (sym (head_same same p l) ∙ h) (points t (PointsTo.pointer h)), λ t x. absurd (no_label_at_pointer h x))
    own_alike l (NameContinues.label {p = p} {n = n} h small fits x) points =
        let next : from ≤ p + 1 + n = omega arith in
        let rest = own_alike next x (λ t y. points t (PointsTo.label h y)) in
        let this : NameAlike f b c p = NameAlike.label h (sym (head_same same p l) ∙ h) (ap f (label_same same p n l)) rest.0 in
        (this, λ t y. elim (label_next h y) [ inl e ↦ subst (λ t. NameAlike f b c t) (sym e) this | inr z ↦ rest.1 t z ])

    name_alike : {names after : List ℕ} {p r : ℕ} → from ≤ p → AcceptsName b names p r after → LabelsAlike f b c names
        → NameAlike f b c p × LabelsAlike f b c after
    name_alike l a all =
        let x = own_alike l a.ends (λ t y. all t (a.back t y).1) in
        (x.0, subst (λ (names : List ℕ). LabelsAlike f b c names) (sym a.added) (λ t y. elim y [ inl own ↦ x.1 t own | inr before ↦ all t before ]))

    names_alike : {n p r : ℕ} {names after : List ℕ} → from ≤ p → AllAccepted (AcceptsName b) n names p r after → LabelsAlike f b c names → LabelsAlike f b c after
    names_alike l none all = all
    names_alike l (more {p = p} {q = q} h x) all =
        let w = ends_after h.ends in
        let next : from ≤ q = omega arith in
        names_alike next x (name_alike l h all).1

    data_alike : {names after : List ℕ} {rtype start end : ℕ} → from ≤ start → AcceptsData b names rtype start end after → LabelsAlike f b c names → LabelsAlike f b c after
    data_alike l (AcceptsData.empty e) all = all
    data_alike {rtype = rtype} {start = start} l (AcceptsData.all ne x m) all =
        let low = names_low b rtype start in
        let next : from ≤ names_start b rtype start = omega arith in
        names_alike next x all

    -- Questions at or after the offset read alike.
    pub questions_alike : {n p r : ℕ} {names after : List ℕ} → from ≤ p → AllAccepted (AcceptsQuestion b) n names p r after → LabelsAlike f b c names
        → Skipped (QuestionAlike f b c) n p r × LabelsAlike f b c after
    questions_alike l none all = (Skipped.none, all)
    questions_alike l (more {p = p} {q = q} h x) all =
        let w = ends_after h.name.ends in
        let e = h.end in
        let first = name_alike l h.name all in
        let next : from ≤ q = omega arith in
        let rest = questions_alike next x first.1 in
        let skips : SkipsQuestion b p q = record { name_end = h.name_end; name_ends = h.name.ends; end = h.end; within = h.within } in
        let this : QuestionAlike f b c p q = record { skips = skips; name = first.0; after = same_octets same h.name_end 4 (omega arith) } in
        (Skipped.more this rest.0, rest.1)

    -- Records at or after the offset read alike.
    pub records_alike : {n p r : ℕ} {names after : List ℕ} → from ≤ p → AllAccepted (AcceptsRecord b) n names p r after → LabelsAlike f b c names
        → Skipped (RecordAlike f b c) n p r × LabelsAlike f b c after
    records_alike l none all = (Skipped.none, all)
    records_alike l (more {p = p} {q = q} h x) all =
        let w = long_record b h.skips in
        let low = w.0 in
        let high = w.1 in
        let first = name_alike l h.owner all in
        let rdata : from ≤ h.skips.name_end + 10 = omega arith in
        let second = data_alike rdata h.rdata first.1 in
        let this : RecordAlike f b c p q = record { skips = h.skips; owner = first.0; after = same_octets same h.skips.name_end 10 (omega arith) } in
        let next : from ≤ q = omega arith in
        let rest = records_alike next x second in
        (Skipped.more this rest.0, rest.1)

    -- Names in RDATA at or after the offset read alike.
    pub rdata_alike : {start : ℕ} (a : AcceptsFrom b start) → from ≤ start → LabelsAlike f b c a.names → (p end : ℕ) → RdataNameAt b p end → NameAlike f b c p
    rdata_alike a l all p end x =
        let y = rdata_name a p end x in
        let low = y.low in
        let there : from ≤ p = omega arith in
        (own_alike there y.ends (λ t z. all t (y.leads t z))).0

-- the first four octets

-- A label that stays.
abbrev pub unchanged : List ℕ → List ℕ
unchanged label = label

map_same : {X : Type 0} (g : X → X) → ((x : X) → g x ≡ x) → (xs : List X) → map g xs ≡ xs
map_same g each [] = refl
map_same g each (x ∷ xs) = λ i. each x i ∷ map_same g each xs i

same_question : (x : Result QuestionItem Fault) → named_question (map unchanged) x ≡ x
same_question (Ok x) = ap (λ (name : Labels). let item : QuestionItem = record x { name = name } in let r : Result QuestionItem Fault = Ok item in r) (map-id x.name)
same_question (Err e) = refl

same_record : (x : Result RecordEntry Fault) → named_record (map unchanged) x ≡ x
same_record (Ok x) = ap (λ (name : Labels). let entry : RecordEntry = record x { owner = name } in let r : Result RecordEntry Fault = Ok entry in r) (map-id x.owner)
same_record (Err e) = refl

same_name : (other name : Labels) → map unchanged other ≡ map unchanged name → other ≡ name
same_name other name e = sym (map-id other) ∙ e ∙ map-id name

name_same : {b c : List ℕ} {p : ℕ} → ReadsNameAs (map unchanged) b c p → ReadsNameAlike b c p
name_same {b = b} {c = c} {p = p} h = record {
  names = λ name. (
    λ x. let o = h.before name x in subst (λ (name : Labels). NameAt c p name) (same_name o.0 name o.2) o.1,
    λ x. let o = h.after name x in subst (λ (name : Labels). NameAt b p name) (same_name o.0 name o.2) o.1,
  );
  faults = h.faults;
}

-- What reads alike with each label unchanged reads the same.
pub alike_same : {b c : List ℕ} → EntriesAlike (map unchanged) b c → EntriesSame b c
alike_same {b = b} {c = c} h =
    let n = question_count b in
    record {
      questions = sym (map_same (named_question (map unchanged)) same_question (questions_from c n header_size)) ∙ h.questions
          ∙ map_same (named_question (map unchanged)) same_question (questions_from b n header_size);
      sections = λ which.
          let x = h.sections which in
          let s = x.1 in
          let n = record_count which b in (
            x.0,
            record {
              before = s.before;
              after = s.after;
              records = sym (map_same (named_record (map unchanged)) same_record (records_from c n x.0)) ∙ s.records
                  ∙ map_same (named_record (map unchanged)) same_record (records_from b n x.0);
            },
          );
      rdata = λ p end x. name_same (h.rdata p end x);
    }

-- Octets of the header section that aren't the first counts are in no name of a regular message.
all_same : (b c : List ℕ) (from : ℕ) → from ≤ header_size → SameFrom b c from → ((p : ℕ) → 4 ≤ p → p + 2 ≤ 10 → number_at w16 b p ≡ number_at w16 c p)
    → IsRegular b → AllAlike unchanged b c
all_same b c from first same counts (start, a) =
    let rise = questions_rise a.questions in
    let second : from ≤ start = omega arith in
    let asked = questions_alike {f = unchanged} same first a.questions (λ t x. absurd x) in
    let entries = records_alike same second a.records asked.1 in
    record {
      long = same.long;
      counts = counts;
      start = start;
      end = a.end;
      questions = asked.0;
      records = entries.0;
      rdata = rdata_alike same a second entries.1;
    }

-- Changes of the first four octets of a regular message change no name.
pub header_reads_alike : HeaderReadsAlike
header_reads_alike b c regular long there e =
    let n = length-drop 4 b in
    let m = length-drop 4 c in
    let k = ap length e in
    let same : SameFrom b c 4 = record { long = omega arith; octets = sym e } in
    alike_same (entries_alike (all_same b c 4 (omega arith) same (λ p low high. number_same16 same p low) regular))

-- A count before ARCOUNT is the same if the octets before it are.
pub count_same : (b c : List ℕ) (p : ℕ) → p + 2 ≤ 10 → take 10 b ≡ take 10 c → number_at w16 b p ≡ number_at w16 c p
count_same b c p l before =
    let n : p + 2 - p ≡ 2 = omega arith in
    let each : (k : ℕ) → p ≤ k → k < p + 2 → slice_get b k ≡ slice_get c k =
    λ k low high. sym (get_take b 10 k (omega arith)) ∙ ap (λ (ys : List ℕ). slice_get ys k) before ∙ get_take c 10 k (omega arith) in
    ap (λ n. from_be_bytes w16 (take n (drop p b))) n ∙ ap (from_be_bytes w16) (same_part b c 2 p each) ∙ ap (λ n. from_be_bytes w16 (take n (drop p c))) (sym n)

-- The removal of the last record of a regular message changes no name.
pub removed_reads_alike : RemovedReadsAlike
removed_reads_alike b c regular long there lost =
    let n = length-drop header_size b in
    let m = length-drop header_size c in
    let k = ap length lost.after in
    let same : SameFrom b c header_size = record { long = omega arith; octets = sym lost.after } in
    let all = all_same b c header_size (omega arith) same (λ p low high. count_same b c p high (sym lost.before)) regular in
    let left = additional_count c in
    let x = first_additionals all left (sym lost.count) in
    let each = map_same (named_record (map unchanged)) same_record in (
      alike_same (entries_alike all),
      (x.0, record { before = x.1; after = x.2; records = sym (each (records_from c left x.0)) ∙ x.3 ∙ each (records_from b left x.0) }),
    )
