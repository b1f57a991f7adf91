-- A regular message whose OPT record has an option with other data of the same length.
use Rattle.std.proofs.Common.{◌≡◌, ◌∙◌, ℕ, ◌+◌, ◌<◌, ◌≤◌, ◌⊎◌, inl, inr, List, [], length, All, arith, refl, subst, sym, ap}
use Rattle.std.specs.Int.{w16}
use Rattle.dns_octets.specs.Octets.{overwritten}
use Rattle.dns_name.specs.Names.{NameEndsAt}
use Rattle.dns_name.specs.Parsers.{number_at}
use Rattle.dns_name.proofs.theory.Names.{one_end}
use Rattle.dns_code.specs.HeaderSection.{header_size}
use Rattle.dns_item.specs.Items.{SkipsRecord}
use Rattle.dns_item.proofs.theory.EntryLemmas.{record_end_or_fault}
use Rattle.dns_read.specs.Reading.{Skipped}
use Rattle.dns_read.specs.Sections.{question_count}
use Rattle.dns_edit.specs.Acceptance.{AcceptsData, AcceptsFrom, AcceptsQuestion, AcceptsRecord, AllAccepted}
use Rattle.dns_edit.specs.Acceptance.AllAccepted.{none, more}
use Rattle.dns_edit.specs.Edits.{QuestionApart, RecordApart}
use Rattle.dns_edit.specs.Offsets.{RdataNameAt}
use Rattle.dns_edit.specs.Options.{OptionAt, ReplacedReadsAlike, ReplacedStaysRegular}
use Rattle.dns_edit.specs.Rdata.{DataApart, name_count, names_start}
use Rattle.dns_edit.specs.Ttls.{record_total}
use Rattle.dns_edit.specs.Uses.{Apart, NameApart}
use Rattle.dns_edit.proofs.AcceptLemmas.{AllApart, asked_end, data_apart, name_apart, questions_apart, questions_rise}
use Rattle.dns_edit.proofs.AgreeLemmas.{SameOctets}
use Rattle.dns_edit.proofs.AlikeLemmas.{AllAlike, NameAlike, QuestionAlike, RecordAlike}
use Rattle.dns_edit.proofs.CoverLemmas.{cover, cover_begins, cover_ends, overwritten_same}
use Rattle.dns_edit.proofs.CutLemmas.{entries_alike}
use Rattle.dns_edit.proofs.EntryLemmas.{all_later, all_sooner, apart_after, apart_before, apart_in, long_record, skipped_by, skipped_nth, skipped_rise, skipped_until}
use Rattle.dns_edit.proofs.OptionLemmas.{opt_records, option_within, question_rises, record_rises}
use Rattle.dns_edit.proofs.ReadLemmas.{number16_same}
use Rattle.dns_edit.proofs.RegularLemmas.{alike_same, unchanged}
use Rattle.dns_edit.proofs.RegularStays.{LabelsStay}
use Rattle.dns_edit.proofs.RegularTtls.{data_stays, questions_stay, record_stays}
use Rattle.dns_edit.proofs.StayLemmas.{SameApart, label_at_same, label_same, pointer_same, root_same}

-- A record is accepted, and its owner and the ten octets after it are apart from the fields. So is its RDATA, or it is an OPT record.
record ClearRecord (b fields names : List ℕ) (p q : ℕ) (after : List ℕ) : Type 0 where
  accepts : AcceptsRecord b names p q after
  head : Apart fields p (accepts.skips.name_end + 10)
  rdata : Apart fields (accepts.skips.name_end + 10) q ⊎ (number_at w16 b accepts.skips.name_end ≡ 41)

module _ {b fields : List ℕ} where
  -- records after the fields
  clear_after : {n p q : ℕ} {names after : List ℕ} → All (λ f. f + 4 ≤ p) fields → AllAccepted (AcceptsRecord b) n names p q after
      → AllAccepted (ClearRecord b fields) n names p q after
  clear_after sooner none = none
  clear_after sooner (more {p = p} {q = q} h rest) =
      let r = h.skips.name_end in
      let l = long_record b h.skips in
      let low : p ≤ r = l.0 in
      let high : r + 10 ≤ q = l.1 in
      let this : ClearRecord b fields _ p q _ = record {
        accepts = h;
        head = apart_before fields p p (r + 10) (omega arith) sooner;
        rdata = inl (apart_before fields p (r + 10) q (omega arith) sooner);
      } in
      more this (clear_after (all_sooner fields p q (omega arith) sooner) rest)

  -- records of which one is an OPT record with the fields in its RDATA
  clear_all : {n k p q o end : ℕ} {names after : List ℕ} (s : SkipsRecord b o end) → number_at w16 b s.name_end ≡ 41 → All (λ f. s.name_end + 10 ≤ f) fields → All (λ f. f + 4 ≤ end) fields
      → AllAccepted (AcceptsRecord b) n names p q after → Skipped (SkipsRecord b) k p o → AllAccepted (ClearRecord b fields) n names p q after
  clear_all s is low high none y = none
  clear_all {end = end} s is low high (more {p = p} {q = q} h rest) Skipped.none =
      let e : q ≡ end = (record_end_or_fault b).one p q end h.skips s in
      let r : h.skips.name_end ≡ s.name_end = one_end b p _ _ h.skips.name_ends s.name_ends in
      let this : ClearRecord b fields _ p q _ = record {
        accepts = h;
        head = apart_after fields (s.name_end + 10) p (h.skips.name_end + 10) (omega arith) low;
        rdata = inr (ap (number_at w16 b) r ∙ is);
      } in
      more this (clear_after (subst (λ q. All (λ f. f + 4 ≤ q) fields) (sym e) high) rest)
  clear_all {o = o} s is low high (more {p = p} {q = q} h rest) (Skipped.more {n = k} {q = q'} g y) =
      let e : q' ≡ q = (record_end_or_fault b).one p q' q g h.skips in
      let next : Skipped (SkipsRecord b) k q o = subst (λ q. Skipped (SkipsRecord b) k q o) e y in
      let rise = skipped_rise (record_rises b) next in
      let first = long_record b h.skips in
      let inner : h.skips.name_end + 10 ≤ q = first.1 in
      let last = long_record b s in
      let from : o ≤ s.name_end = last.0 in
      let this : ClearRecord b fields _ p q _ = record {
        accepts = h;
        head = apart_after fields (s.name_end + 10) p (h.skips.name_end + 10) (omega arith) low;
        rdata = inl (apart_after fields (s.name_end + 10) (h.skips.name_end + 10) q (omega arith) low);
      } in
      more this (clear_all s is low high rest next)

no_entries : {Accepts : List ℕ → ℕ → ℕ → List ℕ → Type 0} {n p q : ℕ} {names after : List ℕ} → n ≡ 0 → AllAccepted Accepts n names p q after → (p ≡ q) × (names ≡ after)
no_entries e none = (refl, refl)
no_entries e (more h x) = absurd (omega arith)

-- an OPT record has no names in RDATA
opt_data_stays : {b c names after : List ℕ} {start end : ℕ} → AcceptsData b names 41 start end after → AcceptsData c names 41 start end after × (names ≡ after)
opt_data_stays (AcceptsData.empty e) = (AcceptsData.empty e, refl)
opt_data_stays {c = c} {names = names} {start = start} {end = end} (AcceptsData.all {stop = stop} ne x l) =
    let y = no_entries refl x in
    let less : names_start c 41 start ≤ end = subst (λ p. p ≤ end) (sym y.0) l in
    (subst (λ (after : List ℕ). AcceptsData c names 41 start end after) y.1 (AcceptsData.all ne none less), y.1)

opt_data_apart : {b fields names after : List ℕ} {start end : ℕ} → AcceptsData b names 41 start end after → DataApart b fields 41 start end × (names ≡ after)
opt_data_apart (AcceptsData.empty e) = (inl e, refl)
opt_data_apart {b = b} {start = start} {end = end} (AcceptsData.all {stop = stop} ne x l) =
    let y = no_entries refl x in
    let less : names_start b 41 start ≤ end = subst (λ p. p ≤ end) (sym y.0) l in
    (inr (names_start b 41 start, less, Skipped.none), y.1)

-- the names of a record use no octet of the fields, and these are after its ten octets
abbrev HeadApart : List ℕ → List ℕ → ℕ → ℕ → Type 0
HeadApart b fields p q = (h : RecordApart b fields p q) × Apart fields p (h.0.name_end + 10)

module _ {b fields : List ℕ} where
  records_apart : {n p q : ℕ} {names after : List ℕ} → AllAccepted (ClearRecord b fields) n names p q after → AllApart b fields names → Skipped (HeadApart b fields) n p q
  records_apart none all = Skipped.none
  records_apart (more {p = p} {q = q} {mid = mid} h rest) all =
      let s = h.accepts.skips in
      let r = s.name_end in
      let l = long_record b s in
      let low : p ≤ r = l.0 in
      let first = name_apart h.accepts.owner (apart_in fields p (r + 10) p r (omega arith) (omega arith) h.head) all in
      let rtype = number_at w16 b r in
      let second : DataApart b fields rtype (r + 10) q × AllApart b fields mid = elim h.rdata [
        | inl a ↦ data_apart h.accepts.rdata a first.1
        | inr is ↦
            let y = opt_data_apart {fields = fields} (subst (λ rtype. AcceptsData b h.accepts.mid rtype (r + 10) q mid) is h.accepts.rdata) in
            (subst (λ rtype. DataApart b fields rtype (r + 10) q) (sym is) y.0, subst (λ (names : List ℕ). AllApart b fields names) y.1 first.1)
      ] in
      Skipped.more ((s, first.0, second.0), h.head) (records_apart rest second.1)

  module _ {c : List ℕ} (same : SameApart fields b c) where
    records_stay : {n p q : ℕ} {names after : List ℕ} → AllAccepted (ClearRecord b fields) n names p q after → LabelsStay b c names
        → AllAccepted (AcceptsRecord c) n names p q after
    records_stay none stay = none
    records_stay (more {p = p} {q = q} {mid = mid} h rest) stay =
        let s = h.accepts.skips in
        let r = s.name_end in
        let l = long_record b s in
        let low : p ≤ r = l.0 in
        let owner = apart_in fields p (r + 10) p (r + 4) (omega arith) (omega arith) h.head in
        let size = apart_in fields p (r + 10) (r + 8) (r + 10) (omega arith) (omega arith) h.head in
        let rtype = number_at w16 b r in
        let rdata : LabelsStay b c h.accepts.mid → AcceptsData c h.accepts.mid rtype (r + 10) q mid × LabelsStay b c mid = λ stay. elim h.rdata [
          | inl a ↦ data_stays same h.accepts.rdata a stay
          | inr is ↦
              let y = opt_data_stays {c = c} (subst (λ rtype. AcceptsData b h.accepts.mid rtype (r + 10) q mid) is h.accepts.rdata) in
              (subst (λ rtype. AcceptsData c h.accepts.mid rtype (r + 10) q mid) (sym is) y.0, subst (λ (names : List ℕ). LabelsStay b c names) y.1 stay)
        ] in
        let this = record_stays same h.accepts owner size stay rdata in
        more this.0 (records_stay rest this.1)

    -- a name that uses no octet of the fields reads alike
    name_alike : {f : List ℕ → List ℕ} {p : ℕ} → NameApart b fields p → NameAlike f b c p
    name_alike (NameApart.root h a) = NameAlike.root h (root_same same a h)
    name_alike {f = f} (NameApart.label {p = p} {n = n} h a x) = NameAlike.label h (label_same same a h) (ap f (sym (label_at_same same p n a))) (name_alike x)
    name_alike (NameApart.pointer h a x) = NameAlike.pointer h (pointer_same same a h) (name_alike x)

    apart_octets : (p n : ℕ) → Apart fields p (p + n) → SameOctets b c p n
    apart_octets p n a = record { long = same.long; octets = λ k l m. same.same k (apart_in fields p (p + n) k (k + 1) l (omega arith) a) }

    record_alike : (p q : ℕ) → HeadApart b fields p q → RecordAlike unchanged b c p q
    record_alike p q h =
        let r = h.0.0.name_end in
        let l = long_record b h.0.0 in
        let low : p ≤ r = l.0 in
        record { skips = h.0.0; owner = name_alike h.0.1; after = apart_octets r 10 (apart_in fields p (r + 10) r (r + 10) (omega arith) (omega arith) h.1) }

    question_alike : (start : ℕ) → All (λ f. start ≤ f) fields → (p q : ℕ) → q ≤ start → QuestionApart b fields p q → QuestionAlike unchanged b c p q
    question_alike start later p q l h =
        let r = h.0.name_end in
        let e = h.0.end in
        record { skips = h.0; name = name_alike h.1; after = apart_octets r 4 (apart_after fields start r (r + 4) (omega arith) later) }

    -- names in RDATA
    rdata_alike : {start end : ℕ} (a : AcceptsFrom b start) → Skipped (HeadApart b fields) (record_total b) start end → (p end : ℕ) → RdataNameAt b p end → NameAlike unchanged b c p
    rdata_alike {start = start} a records p end x =
        let begin : x.entry.0 ≡ start = sym (asked_end a.questions x.entry.2) in
        let there : Skipped (SkipsRecord b) x.entry.1 start x.start = subst (λ from. Skipped (SkipsRecord b) x.entry.1 from x.start) begin x.entry.4 in
        let y = skipped_nth (λ p q h. h.0.0) (record_end_or_fault b).one records there x.entry.3 in
        let s = y.1.0.0 in
        let e : x.skips.name_end ≡ s.name_end = one_end b x.start _ _ x.skips.name_ends s.name_ends in
        let eq : end ≡ y.0 = (record_end_or_fault b).one x.start end y.0 x.skips s in
        let less : x.before < name_count (number_at w16 b s.name_end) = subst (λ r. x.before < name_count (number_at w16 b r)) e x.less in
        let others = subst (λ r. Skipped (NameEndsAt b) x.before (names_start b (number_at w16 b r) (r + 10)) p) e x.others in
        elim y.1.0.2 [
          | inl same ↦ absurd (x.some (let is : x.skips.name_end + 10 ≡ end = omega arith in is))
          | inr z ↦ name_alike (skipped_nth (λ p q h. h.0) (one_end b) z.2 others less).1.1
        ]

-- What changes of a message whose records begin at `start`: fields in the RDATA of an OPT record.
record Change (b c : List ℕ) (start : ℕ) : Type 0 where
  fields : List ℕ
  same : SameApart fields b c
  before : ℕ
  from : ℕ
  end : ℕ
  others : Skipped (SkipsRecord b) before start from
  skips : SkipsRecord b from end
  is_opt : number_at w16 b skips.name_end ≡ 41
  low : All (λ f. skips.name_end + 10 ≤ f) fields
  high : All (λ f. f + 4 ≤ end) fields

change_of : (code : ℕ) (octets b : List ℕ) (q : ℕ) {start : ℕ} → AcceptsFrom b start → OptionAt code b q (length octets) → Change b (overwritten b q octets) start
change_of code octets b q {start = start} a (p, end, o, i) =
    let x = opt_records o in
    let begin : x.0 ≡ start = sym (asked_end a.questions x.2) in
    let w = option_within i in
    let first : p ≤ i.start = w.0 in
    let last = w.1 in
    let rdata = o.after_fields in
    let data_start = i.after_fields in
    let inside = o.skips.within in
    let n = length octets in
    record {
      fields = cover i.start n;
      same = subst (λ q. SameApart (cover i.start n) b (overwritten b q octets)) (sym data_start) (overwritten_same b octets i.start (omega arith));
      before = x.1;
      from = o.start;
      end = end;
      others = subst (λ from. Skipped (SkipsRecord b) x.1 from o.start) begin x.3;
      skips = o.skips;
      is_opt = o.is_opt;
      low = cover_begins i.start n (o.skips.name_end + 10) (omega arith);
      high = cover_ends i.start n end (omega arith);
    }

module _ {b c : List ℕ} {start : ℕ} (a : AcceptsFrom b start) (x : Change b c start) where
  later : All (λ f. start ≤ f) x.fields
  later =
      let rise = skipped_rise (record_rises b) x.others in
      let l = long_record b x.skips in
      let low : x.from ≤ x.skips.name_end = l.0 in
      all_later x.fields (x.skips.name_end + 10) start (omega arith) x.low

  clear : AllAccepted (ClearRecord b x.fields) (record_total b) a.asked start a.end a.names
  clear = clear_all x.skips x.is_opt x.low x.high a.records x.others

  counted : (p : ℕ) → p + 2 ≤ header_size → number_at w16 b p ≡ number_at w16 c p
  counted p l = let rise = questions_rise a.questions in number16_same x.same p (apart_after x.fields start p (p + 2) (omega arith) later)

  asked_apart : Skipped (QuestionApart b x.fields) (question_count b) header_size start × AllApart b x.fields a.asked
  asked_apart = questions_apart a.questions later (λ t y. absurd y)

  clear_apart : Skipped (HeadApart b x.fields) (record_total b) start a.end
  clear_apart = records_apart clear asked_apart.1

  all_alike : AllAlike unchanged b c
  all_alike = record {
    long = x.same.long;
    counts = λ p low high. counted p (omega arith);
    start = start;
    end = a.end;
    questions = skipped_until (λ p q h. question_rises b p q h.0) start (question_alike x.same start later) (omega arith) asked_apart.0;
    records = skipped_by (record_alike x.same) clear_apart;
    rdata = rdata_alike x.same a clear_apart;
  }

  stays : AcceptsFrom c start
  stays =
      let all : record_total b ≡ record_total c = (λ i. counted 6 (omega arith) i + counted 8 (omega arith) i + counted 10 (omega arith) i) in
      let asked = questions_stay x.same a.questions later (λ t y. absurd y) in
      record {
        end = a.end;
        asked = a.asked;
        names = a.names;
        questions = subst (λ n. AllAccepted (AcceptsQuestion c) n [] header_size start a.asked) (counted 4 (omega arith)) asked.0;
        records = subst (λ n. AllAccepted (AcceptsRecord c) n a.asked start a.end a.names) all (records_stay x.same clear asked.1);
      }

-- If the data of an option of a regular message is replaced, all entries read the same.
pub replaced_reads_alike : ReplacedReadsAlike
replaced_reads_alike code octets b q (start, a) o = alike_same (entries_alike (all_alike a (change_of code octets b q a o)))

-- The message stays regular.
pub replaced_stays_regular : ReplacedStaysRegular
replaced_stays_regular code octets b q (start, a) o = (start, stays a (change_of code octets b q a o))
