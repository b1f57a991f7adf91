-- Questions and records that were written: their names, and that they are accepted.
use Rattle.std.proofs.Common.{◌≡◌, ◌∙◌, ℕ, ◌+◌, ◌≤◌, List, [], ◌∷◌, ◌++◌, map, length, append_assoc, sym, subst, arith}
use Rattle.std.specs.Int.{w16}
use Rattle.dns_name.specs.Parsers.{number_at}
use Rattle.dns_name.proofs.theory.ExtentLaws.{one_end}
use Rattle.dns_wire.specs.Encoders.{CompressionTable, Encoder, Rule, encode_name, encode_octets, both, with_length}
use Rattle.dns_wire.specs.Parts.{encode_parts}
use Rattle.dns_wire.specs.Targets.{Written, IsTarget}
use Rattle.dns_wire.proofs.theory.CompressedNames.{compressed_ends, compressed_long}
use Rattle.dns_wire.proofs.theory.EncoderLaws.{Encodes, IsStable, Consecutive, HasName, HasOctets, HasParts, HasLength, encodes_both, encodes_name, encodes_octets, encodes_parts, encodes_with_length, parts_rise, stable_octets}
use Rattle.dns_wire.proofs.theory.NameSizes.{parts_are_short}
use Rattle.dns_item.specs.Items.{RecordItem, IsRecord, encode_record, record_fields}
use Rattle.dns_item.specs.Questions.{QuestionItem, IsQuestion, encode_question, question_fields}
use Rattle.dns_item.proofs.theory.ItemLemmas.{HasRecord, reads_record}
use Rattle.dns_item.proofs.theory.QuestionItemLemmas.{HasQuestion}
use Rattle.dns_edit.specs.Acceptance.{AcceptsQuestion, AcceptsRecord, AcceptsData, AllAccepted}
use Rattle.dns_edit.specs.Acceptance.AllAccepted.{none, more}
use Rattle.dns_edit.specs.Pointers.{AcceptsName}
use Rattle.dns_build.specs.State.{Every, all_of}
use Rattle.dns_build.proofs.theory.EncodingReading.{HasAll, encodes_all}
use Rattle.dns_regular.specs.Built.{HasItsNames}
use Rattle.dns_regular.proofs.Origins.{Spans, Traced, Traces, both_spans, no_spans, one_span, length_spans, part_spans, traces_both, traces_name, traces_none, traces_octets, traces_parts, traces_with_length}
use Rattle.dns_regular.proofs.Names.{From, Known, accepts_name, known_after, known_later}
use Rattle.dns_regular.proofs.Data.{accepts_data, from_both, parts_from}

-- Where their names are.

-- the name of a question
abbrev pub question_spans : (x : QuestionItem) (t : Written) (p q : ℕ) → HasQuestion x t p q → Spans
question_spans x = both_spans (HasName x.name) (HasOctets (question_fields x)) (one_span (HasName x.name)) (no_spans (HasOctets (question_fields x)))

-- A question has its name.
pub traces_question : (rule : Rule) (x : QuestionItem) → IsQuestion x → Traces (encode_question rule x) (HasQuestion x) (question_spans x)
unfolding encode_question
traces_question rule x is =
    let fields = question_fields x in
    traces_both (encode_name rule x.name) (encode_octets fields) (HasName x.name) (HasOctets fields) (one_span (HasName x.name)) (no_spans (HasOctets fields))
    (encodes_name rule x.name is.name) (encodes_octets fields) (traces_name rule x.name is.name) (traces_octets fields)

-- the owner of a record, and the names in its RDATA that may be compressed
abbrev pub record_spans : (x : RecordItem) (t : Written) (p q : ℕ) → HasRecord x t p q → Spans
record_spans x =
    both_spans (HasName x.owner) (Consecutive (HasOctets (record_fields x)) (HasLength (HasParts x.parts))) (one_span (HasName x.owner))
    (both_spans (HasOctets (record_fields x)) (HasLength (HasParts x.parts)) (no_spans (HasOctets (record_fields x))) (length_spans (HasParts x.parts) (part_spans x.parts)))

-- A record has them.
pub traces_record : (rule : Rule) (x : RecordItem) → IsRecord x → Traces (encode_record rule x) (HasRecord x) (record_spans x)
unfolding encode_record
traces_record rule x is =
    let inner = encode_parts rule x.parts in
    let fields = record_fields x in
    let small : (m : CompressionTable) (w : ℕ) → length (inner m w).octets ≤ 65535 = λ m w. let a = parts_are_short rule x.parts m w in let b = is.short in omega arith in
    let last = encodes_with_length inner (HasParts x.parts) small (encodes_parts rule x.parts is.parts) in
    let rest = encodes_both (encode_octets fields) (with_length inner) (HasOctets fields) (HasLength (HasParts x.parts)) (stable_octets fields) (encodes_octets fields) last in
    let rest_traces =
    traces_both (encode_octets fields) (with_length inner) (HasOctets fields) (HasLength (HasParts x.parts)) (no_spans (HasOctets fields)) (length_spans (HasParts x.parts) (part_spans x.parts))
    (encodes_octets fields) last (traces_octets fields) (traces_with_length inner (HasParts x.parts) (part_spans x.parts) (traces_parts rule x.parts is.parts)) in
    traces_both (encode_name rule x.owner) (both (encode_octets fields) (with_length inner)) (HasName x.owner) (Consecutive (HasOctets fields) (HasLength (HasParts x.parts)))
    (one_span (HasName x.owner)) _ (encodes_name rule x.owner is.owner) rest (traces_name rule x.owner is.owner) rest_traces

-- the names of each item of a list
abbrev pub all_spans : {X : Type 0} (P : X → Written → ℕ → ℕ → Type 0) → ((x : X) (t : Written) (p q : ℕ) → P x t p q → Spans) → (xs : List X) (t : Written) (p q : ℕ) → HasAll P xs t p q → Spans
all_spans P spans [] = no_spans (HasAll P [])
all_spans P spans (x ∷ xs) = both_spans (P x) (HasAll P xs) (spans x) (all_spans P spans xs)

module _ {X : Type 0} (P : X → Written → ℕ → ℕ → Type 0) (stable : (x : X) → IsStable (P x)) (spans : (x : X) (t : Written) (p q : ℕ) → P x t p q → Spans) (encode_item : X → Encoder) (Is : X → Type 0)
    (encodes : (x : X) → Is x → Encodes (encode_item x) (P x)) (traces : (x : X) → Is x → Traces (encode_item x) (P x) (spans x)) where
  -- Items in order have the names of each.
  pub traces_all : (xs : List X) → Every Is xs → Traces (all_of (map encode_item xs)) (HasAll P xs) (all_spans P spans xs)
  traces_all [] is = traces_none (HasAll P []) (λ t p q h. h)
  traces_all (x ∷ xs) is =
      traces_both (encode_item x) (all_of (map encode_item xs)) (P x) (HasAll P xs) (spans x) (all_spans P spans xs)
      (encodes x is.0) (encodes_all P stable encode_item Is encodes xs is.1) (traces x is.0) (traces_all xs is.1)

-- That they are accepted.

-- An entry is accepted, after the earlier names.
pub record Accepted (Accepts : List ℕ → ℕ → ℕ → List ℕ → Type 0) (IsSpan : ℕ → ℕ → Type 0) (names : List ℕ) (p q : ℕ) (others : Spans) : Type 0 where
  pub after : List ℕ
  pub accepted : Accepts names p q after
  pub known : Known IsSpan after q others

module _ (IsSpan : ℕ → ℕ → Type 0) (t : Written) (good : IsTarget t) (traced : Traced IsSpan t) where
  -- A question is accepted.
  pub accepts_question : (x : QuestionItem) (names : List ℕ) (p q : ℕ) (others : Spans) → IsQuestion x → (h : HasQuestion x t p q) → From q others
      → Known IsSpan names p (question_spans x t p q h ++ others) → Accepted (AcceptsQuestion t.octets) IsSpan names p q others
  accepts_question x names p q others is h from known =
      let r = h.0 in
      let end = h.2.1 in
      let long = compressed_long h.1 in
      let inside = h.2.0.within in
      let from_name : From r others = λ a e among. let k = from a e among in omega arith in
      record {
        after = p ∷ names;
        accepted = record {
          name_end = r;
          name = accepts_name IsSpan t good traced names p r x.name others is.name h.1 from_name known;
          end = end;
          within = omega arith;
        };
        known = known_later IsSpan (p ∷ names) r q others (omega arith) (known_after IsSpan names p r others (omega (arith, long.0)) known);
      }

  -- A record that has its names is accepted.
  pub accepts_record : (x : RecordItem) (names : List ℕ) (p q : ℕ) (others : Spans) → IsRecord x × HasItsNames x → (h : HasRecord x t p q) → From q others
      → Known IsSpan names p (record_spans x t p q h ++ others) → Accepted (AcceptsRecord t.octets) IsSpan names p q others
  accepts_record x names p q others is h from known =
      let r = h.0 in
      let s : ℕ = h.2.0 in
      let is_s : s ≡ r + 8 = h.2.1.1 in
      let long = compressed_long h.1 in
      let ss = part_spans x.parts t (s + 2) q h.2.2.1 in
      let rises = parts_rise x.parts t (s + 2) q h.2.2.1 in
      let from_data : From r (ss ++ others) =
      from_both r q ss others (omega arith) (λ a e among. let k = parts_from x.parts t (s + 2) q h.2.2.1 a e among in omega arith) from in
      let name = accepts_name IsSpan t good traced names p r x.owner (ss ++ others) is.0.owner h.1 from_data known in
      let at_data = known_later IsSpan (p ∷ names) r (s + 2) (ss ++ others) (omega arith) (known_after IsSpan names p r (ss ++ others) (omega (arith, long.0)) known) in
      let rdata = accepts_data IsSpan t good traced x (p ∷ names) (s + 2) q others is.0.parts is.1 h.2.2.1 from at_data in
      let reads = reads_record x t p q is.0 good h in
      let skips = reads.reads.skips in
      let short = is.0.owner.short in
      let e : skips.name_end ≡ r = one_end t.octets skips.name_ends (compressed_ends 0 good (omega (arith, short)) h.1) in
      let rtype : x.rtype ≡ number_at w16 t.octets skips.name_end = sym reads.reports.rtype ∙ reads.reads.rtype in
      let start : s + 2 ≡ skips.name_end + 10 = omega arith in
      record {
        after = rdata.after;
        accepted = record {
          skips = skips;
          mid = p ∷ names;
          owner = subst (λ (k : ℕ). AcceptsName t.octets names p k (p ∷ names)) (sym e) name;
          rdata = subst (λ (k : ℕ). AcceptsData t.octets (p ∷ names) k (skips.name_end + 10) q rdata.after) rtype
              (subst (λ (k : ℕ). AcceptsData t.octets (p ∷ names) x.rtype k q rdata.after) start rdata.accepted);
        };
        known = rdata.known;
      }

-- Entries in order are accepted.
pub record AcceptedAll (Accepts : List ℕ → ℕ → ℕ → List ℕ → Type 0) (IsSpan : ℕ → ℕ → Type 0) (n : ℕ) (names : List ℕ) (p q : ℕ) (others : Spans) : Type 0 where
  pub after : List ℕ
  pub accepted : AllAccepted Accepts n names p q after
  pub known : Known IsSpan after q others

module _ {X : Type 0} (P : X → Written → ℕ → ℕ → Type 0) (spans : (x : X) (t : Written) (p q : ℕ) → P x t p q → Spans) (Is : X → Type 0) (t : Written)
    (rises : (x : X) (p q : ℕ) → P x t p q → p ≤ q) (begins : (x : X) (p q : ℕ) (h : P x t p q) → From p (spans x t p q h)) where
  -- Items end at or after their beginning.
  pub all_rise : (xs : List X) (p q : ℕ) → HasAll P xs t p q → p ≤ q
  all_rise [] p q h = omega arith
  all_rise (x ∷ xs) p q h = let one = rises x p h.0 h.1 in let rest = all_rise xs h.0 q h.2 in omega arith

  -- Their names begin at or after it.
  pub all_from : (xs : List X) (p q : ℕ) (h : HasAll P xs t p q) → From p (all_spans P spans xs t p q h)
  all_from [] p q h = λ a e among. absurd among
  all_from (x ∷ xs) p q h =
      from_both p h.0 (spans x t p h.0 h.1) (all_spans P spans xs t h.0 q h.2) (rises x p h.0 h.1) (begins x p h.0 h.1) (all_from xs h.0 q h.2)

  -- Each item is accepted, if one is after any others.
  pub accepts_all : (Accepts : List ℕ → ℕ → ℕ → List ℕ → Type 0) (IsSpan : ℕ → ℕ → Type 0)
      → ((x : X) (names : List ℕ) (p q : ℕ) (others : Spans) → Is x → (h : P x t p q) → From q others → Known IsSpan names p (spans x t p q h ++ others) → Accepted Accepts IsSpan names p q others)
      → (xs : List X) (names : List ℕ) (p q : ℕ) (others : Spans) → Every Is xs → (h : HasAll P xs t p q) → From q others
      → Known IsSpan names p (all_spans P spans xs t p q h ++ others) → AcceptedAll Accepts IsSpan (length xs) names p q others
  accepts_all Accepts IsSpan step [] names p q others is h from known = record {
    after = names;
    accepted = subst (λ (k : ℕ). AllAccepted Accepts 0 names p k names) h none;
    known = known_later IsSpan names p q others (omega arith) known;
  }
  accepts_all Accepts IsSpan step (x ∷ xs) names p q others is h from known =
      let ss = all_spans P spans xs t h.0 q h.2 in
      let next = from_both h.0 q ss others (all_rise xs h.0 q h.2) (all_from xs h.0 q h.2) from in
      let one = step x names p h.0 (ss ++ others) is.0 h.1 next
      (subst (λ (k : Spans). Known IsSpan names p k) (append_assoc (spans x t p h.0 h.1) ss others) known) in
      let rest = accepts_all Accepts IsSpan step xs one.after h.0 q others is.1 h.2 from one.known in
      record { after = rest.after; accepted = more one.accepted rest.accepted; known = rest.known }
