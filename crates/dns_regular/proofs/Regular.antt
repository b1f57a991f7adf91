-- Messages that builders write are regular.
use Rattle.std.proofs.Common.{◌≡◌, ◌∙◌, inl, inr, ℕ, suc, ◌+◌, ◌≤◌, List, [], ◌∷◌, ◌++◌, map, length, length-append, append-nil, sym, subst, arith}
use Rattle.std.specs.Prelude.{Some, None}
use Rattle.std.specs.FinMap.{get-empty}
use Rattle.dns_wire.specs.Encoders.{Encoder, Rule, encode_octets, suffix_cmp}
use Rattle.dns_wire.specs.Targets.{Written, IsTarget}
use Rattle.dns_wire.proofs.theory.CompressedNames.{compressed_long}
use Rattle.dns_wire.proofs.theory.EncodedNames.{encode_octets_grows}
use Rattle.dns_wire.proofs.theory.EncoderLaws.{Encodes, Consecutive, parts_rise}
use Rattle.dns_code.proofs.theory.HeaderOctets.{length-octets_of_fields}
use Rattle.dns_code.specs.Header.{octets_of_fields}
use Rattle.dns_item.specs.Items.{RecordItem, IsRecord, encode_record}
use Rattle.dns_item.specs.Questions.{QuestionItem, IsQuestion, encode_question}
use Rattle.dns_item.proofs.theory.ItemLemmas.{HasRecord, encodes_record, stable_record}
use Rattle.dns_item.proofs.theory.QuestionItemLemmas.{HasQuestion, encodes_question, stable_question}
use Rattle.dns_edit.specs.Acceptance.{AcceptsQuestion, AcceptsRecord, AllAccepted}
use Rattle.dns_edit.specs.Acceptance.AllAccepted.{none, more}
use Rattle.dns_build.specs.State.{State, IsState, Every, all_of, encode, encoders_of, head_of, counts_of}
use Rattle.dns_build.proofs.theory.Encodings.{append-nothing, both-all_of}
use Rattle.dns_build.proofs.theory.EncodingReading.{HasAll, Sections, encodes_all, encodes_append, encode_target, encodings_read_back, head_target, sections_encode, stable_all}
use Rattle.dns_regular.specs.Built.{BuiltIsRegular, HasItsNames}
use Rattle.dns_regular.proofs.Origins.{Also, Spans, Traced, Traces, both_spans, traces_both}
use Rattle.dns_regular.proofs.Names.{From, Known}
use Rattle.dns_regular.proofs.Data.{from_both, parts_from}
use Rattle.dns_regular.proofs.Items.{AcceptedAll, accepts_all, accepts_question, accepts_record, all_from, all_rise, all_spans, question_spans, record_spans, traces_all, traces_question, traces_record}

-- Where the names of a message are.

abbrev questions_spans : (xs : List QuestionItem) (t : Written) (p q : ℕ) → HasAll HasQuestion xs t p q → Spans
questions_spans = all_spans HasQuestion question_spans

abbrev records_spans : (xs : List RecordItem) (t : Written) (p q : ℕ) → HasAll HasRecord xs t p q → Spans
records_spans = all_spans HasRecord record_spans

abbrev section_spans : (s : State) (t : Written) (p q : ℕ) → Sections s t p q → Spans
section_spans s =
    both_spans (HasAll HasQuestion s.questions) _ (questions_spans s.questions)
    (both_spans (HasAll HasRecord s.answers) _ (records_spans s.answers)
    (both_spans (HasAll HasRecord s.authorities) (HasAll HasRecord s.additionals) (records_spans s.authorities) (records_spans s.additionals)))

traces_append : (ps qs : List Encoder) (P Q : Written → ℕ → ℕ → Type 0) (first : (t : Written) (p q : ℕ) → P t p q → Spans) (second : (t : Written) (p q : ℕ) → Q t p q → Spans)
    → Encodes (all_of ps) P → Encodes (all_of qs) Q → Traces (all_of ps) P first → Traces (all_of qs) Q second
    → Traces (all_of (ps ++ qs)) (Consecutive P Q) (both_spans P Q first second)
traces_append ps qs P Q first second one two x y =
    subst (λ (p : Encoder). Traces p (Consecutive P Q) (both_spans P Q first second)) (both-all_of ps qs) (traces_both (all_of ps) (all_of qs) P Q first second one two x y)

traces_state : (rule : Rule) (s : State) → IsState s → Traces (all_of (encoders_of rule s)) (Sections s) (section_spans s)
traces_state rule s is =
    let records = λ (xs : List RecordItem) (are : Every IsRecord xs).
    encodes_all HasRecord stable_record (encode_record rule) IsRecord (encodes_record rule) xs are in
    let traced = λ (xs : List RecordItem) (are : Every IsRecord xs).
    traces_all HasRecord stable_record record_spans (encode_record rule) IsRecord (encodes_record rule) (traces_record rule) xs are in
    let stay = stable_all HasRecord stable_record in
    let answers = map (encode_record rule) s.answers in
    let authorities = map (encode_record rule) s.authorities in
    let additionals = map (encode_record rule) s.additionals in
    let last = encodes_append authorities additionals _ _ (stay s.authorities) (records s.authorities is.authorities.0) (records s.additionals is.additionals.0) in
    let later = encodes_append answers (authorities ++ additionals) _ _ (stay s.answers) (records s.answers is.answers.0) last in
    traces_append (map (encode_question rule) s.questions) (answers ++ (authorities ++ additionals)) _ _ (questions_spans s.questions) _
    (encodes_all HasQuestion stable_question (encode_question rule) IsQuestion (encodes_question rule) s.questions is.questions.0) later
    (traces_all HasQuestion stable_question question_spans (encode_question rule) IsQuestion (encodes_question rule) (traces_question rule) s.questions is.questions.0)
    (traces_append answers (authorities ++ additionals) _ _ (records_spans s.answers) _ (records s.answers is.answers.0) last (traced s.answers is.answers.0)
    (traces_append authorities additionals _ _ (records_spans s.authorities) (records_spans s.additionals) (records s.authorities is.authorities.0) (records s.additionals is.additionals.0)
    (traced s.authorities is.authorities.0) (traced s.additionals is.additionals.0)))

-- no name was written before a message
abbrev NoSpan : ℕ → ℕ → Type 0
NoSpan p q = ⊥

-- Each entry of the table of a message is of a label of one of its names.
traced_state : (rule : Rule) (s : State) (is : IsState s) → Traced (Also NoSpan (section_spans s (encode rule s) 12 (length (encode rule s).octets) (sections_encode rule s is))) (encode rule s)
unfolding encode
traced_state rule s is =
    let t = encode rule s in
    let n = length-append (octets_of_fields s.header) (counts_of s) in
    let four = length-octets_of_fields s.header in
    ((traces_state rule s is).traces NoSpan (head_of s) t (encode_octets []) (head_target s) (encode_target rule s is)
    (record { each = λ k x e. absurd (let none : None ≡ Some x = sym (get-empty suffix_cmp k) ∙ e in cc) })
    (encode_octets_grows []) (sym (append-nothing t)) 12 (length t.octets) (omega arith) (sections_encode rule s is)).1

-- That they are accepted.

question_rises : (t : Written) (x : QuestionItem) (p q : ℕ) → HasQuestion x t p q → p ≤ q
question_rises t x p q h = let long = compressed_long h.1 in let end = h.2.1 in omega (arith, long.0)

question_from : (t : Written) (x : QuestionItem) (p q : ℕ) (h : HasQuestion x t p q) → From p (question_spans x t p q h)
question_from t x p q h a e (inl this) = omega (arith, this.0)
question_from t x p q h a e (inr among) = absurd among

record_rises : (t : Written) (x : RecordItem) (p q : ℕ) → HasRecord x t p q → p ≤ q
record_rises t x p q h =
    let s : ℕ = h.2.0 in
    let is_s : s ≡ h.0 + 8 = h.2.1.1 in
    let long = compressed_long h.1 in
    let rises = parts_rise x.parts t (s + 2) q h.2.2.1 in
    omega (arith, long.0, is_s, rises)

record_from : (t : Written) (x : RecordItem) (p q : ℕ) (h : HasRecord x t p q) → From p (record_spans x t p q h)
record_from t x p q h a e (inl this) = omega (arith, this.0)
record_from t x p q h a e (inr among) =
    let s : ℕ = h.2.0 in
    let is_s : s ≡ h.0 + 8 = h.2.1.1 in
    let long = compressed_long h.1 in
    let from = parts_from x.parts t (s + 2) q h.2.2.1 a e among in
    omega (arith, long.0, is_s, from)

-- what holds of each of a list, and what else does
every_both : {X : Type 0} (P Q : X → Type 0) (xs : List X) → Every P xs → Every Q xs → Every (λ x. P x × Q x) xs
every_both P Q [] h k = tt
every_both P Q (x ∷ xs) h k = ((h.0, k.0), every_both P Q xs h.1 k.1)

-- entries that are accepted, and others after them
accepted_append : (Accepts : List ℕ → ℕ → ℕ → List ℕ → Type 0) (m : ℕ) {mid : List ℕ} {after : List ℕ} {n p q r : ℕ} {names : List ℕ}
    → AllAccepted Accepts n names p q mid → AllAccepted Accepts m mid q r after → AllAccepted Accepts (n + m) names p r after
accepted_append Accepts m {after = after} {r = r} (none {p = p} {names = names}) later =
    subst (λ (k : ℕ). AllAccepted Accepts k names p r after) (let e : m ≡ 0 + m = omega arith in e) later
accepted_append Accepts m {after = after} {r = r} (more {n = n} {p = p} {names = names} one rest) later =
    subst (λ (k : ℕ). AllAccepted Accepts k names p r after) (let e : suc (n + m) ≡ suc n + m = omega arith in e) (more one (accepted_append Accepts m rest later))

-- the records of a section are accepted
accepts_records : (IsSpan : ℕ → ℕ → Type 0) (t : Written) → IsTarget t → Traced IsSpan t → (xs : List RecordItem) (names : List ℕ) (p q : ℕ) (others : Spans)
    → Every IsRecord xs → Every HasItsNames xs → (h : HasAll HasRecord xs t p q) → From q others → Known IsSpan names p (records_spans xs t p q h ++ others)
    → AcceptedAll (AcceptsRecord t.octets) IsSpan (length xs) names p q others
accepts_records IsSpan t good traced xs names p q others are have h from known =
    accepts_all HasRecord record_spans (λ x. IsRecord x × HasItsNames x) t (record_rises t) (record_from t) (AcceptsRecord t.octets) IsSpan
    (accepts_record IsSpan t good traced) xs names p q others (every_both IsRecord HasItsNames xs are have) h from known

-- The octets of a state are regular, if its records have their names.
pub built_is_regular : BuiltIsRegular
built_is_regular rule s is have =
    let t = encode rule s in
    let b = t.octets in
    let end = length b in
    let good = encode_target rule s is in
    let h = sections_encode rule s is in
    let IsSpan = Also NoSpan (section_spans s t 12 end h) in
    let traced = traced_state rule s is in
    let back = encodings_read_back rule s is in
    let a1 = h.0 in
    let a2 = h.2.0 in
    let a3 = h.2.2.0 in
    let h1 = h.2.1 in
    let h2 = h.2.2.1 in
    let h3 = h.2.2.2 in
    let s1 = records_spans s.answers t a1 a2 h1 in
    let s2 = records_spans s.authorities t a2 a3 h2 in
    let s3 = records_spans s.additionals t a3 end h3 in
    let f3 : From a3 s3 = all_from HasRecord record_spans IsRecord t (record_rises t) (record_from t) s.additionals a3 end h3 in
    let f2 : From a2 (s2 ++ s3) =
    from_both a2 a3 s2 s3 (all_rise HasRecord record_spans IsRecord t (record_rises t) (record_from t) s.authorities a2 a3 h2)
    (all_from HasRecord record_spans IsRecord t (record_rises t) (record_from t) s.authorities a2 a3 h2) f3 in
    let f1 : From a1 (s1 ++ (s2 ++ s3)) =
    from_both a1 a2 s1 (s2 ++ s3) (all_rise HasRecord record_spans IsRecord t (record_rises t) (record_from t) s.answers a1 a2 h1)
    (all_from HasRecord record_spans IsRecord t (record_rises t) (record_from t) s.answers a1 a2 h1) f2 in
    let known0 : Known IsSpan [] 12 (questions_spans s.questions t 12 a1 h.1 ++ (s1 ++ (s2 ++ s3))) = λ a e one. elim one [ inl before ↦ absurd before | inr among ↦ inr among ] in
    let asked =
    accepts_all HasQuestion question_spans IsQuestion t (question_rises t) (question_from t) (AcceptsQuestion b) IsSpan (accepts_question IsSpan t good traced)
    s.questions [] 12 a1 (s1 ++ (s2 ++ s3)) is.questions.0 h.1 f1 known0 in
    let first = accepts_records IsSpan t good traced s.answers asked.after a1 a2 (s2 ++ s3) is.answers.0 have.0 h1 f2 asked.known in
    let second = accepts_records IsSpan t good traced s.authorities first.after a2 a3 s3 is.authorities.0 have.1 h2 f3 first.known in
    let third = accepts_records IsSpan t good traced s.additionals second.after a3 end [] is.additionals.0 have.2 h3 (λ a e none. absurd none)
    (subst (λ (ss : Spans). Known IsSpan second.after a3 ss) (sym (append-nil s3)) second.known) in
    let records =
    accepted_append (AcceptsRecord b) (length s.additionals) {mid = second.after} {after = third.after}
    (accepted_append (AcceptsRecord b) (length s.authorities) {mid = first.after} {after = second.after} first.accepted second.accepted) third.accepted in (
      a1,
      record {
        end = end;
        asked = asked.after;
        names = third.after;
        questions = subst (λ (k : ℕ). AllAccepted (AcceptsQuestion b) k [] 12 a1 asked.after) (sym back.questions_counted) asked.accepted;
        records = subst (λ (k : ℕ). AllAccepted (AcceptsRecord b) k asked.after a1 end third.after)
            (omega (arith, back.answers_counted, back.authorities_counted, back.additionals_counted)) records;
      },
    )
