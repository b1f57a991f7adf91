-- How responses are ended: their octets, and the OPT record.
use Rattle.std.proofs.Common.{◌≡◌, ◌≢◌, ◌∙◌, ℕ, ◌+◌, ◌≤◌, true, None, Some, List, [], ◌∷◌, ◌++◌, ap, append_assoc, arith, length, length-append, refl, subst, sym}
use Rattle.std.specs.Prelude.{Err, Option, Ok, map}
use Rattle.dns_message.specs.Builders.{Built, Gathered, InAdditional, IsMessageOf, PushesOptRecord, Represents, Reserving, State, all_of, opt_record, opt_size, with_header, with_limit, with_opt}
use Rattle.dns_message.specs.Builders.{with_record}
use Rattle.dns_message.specs.Headers.{HeaderFields}
use Rattle.dns_message.specs.Questions.{encode_question}
use Rattle.dns_message.specs.Records.{RecordItem, encode_record}
use Rattle.dns_message.specs.Targets.{CompressionTable, Encoder, Fits, Tree, Written, nothing}
use Rattle.dns_message.specs.declared.builder.PushError.{PushError}
use Rattle.dns_message.specs.declared.builder.PushError.TheVariants.{CountOverflow, LimitExceeded, ShortBuf, OutOfMemory}
use Rattle.dns_message.proofs.CallerLemmas.{encodings_are_messages, message_size}
use Rattle.example_response.specs.Responses.{size, size_of_opt, whole_limit, with_own_opt}

-- The octets of a builder are the message of its state.
pub message_is : (s : State) (new : Built) (octets : List ℕ) → Represents InAdditional Tree s new → octets ≡ new.written.octets → IsMessageOf Tree s octets
message_is s new octets h is =
    subst (IsMessageOf Tree s) (sym (is ∙ ap (λ (w : Written). w.octets) h.written)) (encodings_are_messages Tree s h.state)

-- There are as many as the message of the state has.
pub length_is : (s : State) (new : Built) (octets : List ℕ) → Represents InAdditional Tree s new → octets ≡ new.written.octets → length octets ≡ size s
length_is s new octets h is = ap length is ∙ ap (λ (w : Written). length w.octets) h.written

-- Another header doesn't matter for the length.
pub size_headed : (header : HeaderFields) (s : State) → size (with_header header s) ≡ size s
size_headed header s = message_size Tree (with_header header s) ∙ sym (message_size Tree s)

-- a record takes octets
record_octets : (x : RecordItem) (m : CompressionTable) (w : ℕ) → 1 ≤ length (encode_record Tree x m w).octets
unfolding encode_record
record_octets x m w = simp length-append (omega arith)

records_few : (xs : List RecordItem) (m : CompressionTable) (w : ℕ) → length xs ≤ length (all_of (map (encode_record Tree) xs) m w).octets
records_few [] m w = omega arith
records_few (x ∷ xs) m w =
    let first = record_octets x m w in
    let rest = records_few xs (encode_record Tree x m w).table (w + length (encode_record Tree x m w).octets) in
    simp length-append (omega (arith, first, rest))

last_few : (ps : List Encoder) (xs : List RecordItem) (m : CompressionTable) (w : ℕ) → length xs ≤ length (all_of (ps ++ map (encode_record Tree) xs) m w).octets
last_few [] xs m w = records_few xs m w
last_few (p ∷ ps) xs m w =
    let rest = last_few ps xs (p m w).table (w + length (p m w).octets) in
    simp length-append (omega (arith, rest))

-- a message has at least as many octets as additional records
additionals_few : (s : State) → length s.additionals ≤ size s
additionals_few s =
    let asked = map (encode_question Tree) s.questions in
    let answers = map (encode_record Tree) s.answers in
    let authorities = map (encode_record Tree) s.authorities in
    let additionals = map (encode_record Tree) s.additionals in
    let same : (asked ++ (answers ++ authorities)) ++ additionals ≡ asked ++ (answers ++ (authorities ++ additionals)) =
    append_assoc asked (answers ++ authorities) additionals ∙ ap (λ (ps : List Encoder). asked ++ ps) (append_assoc answers authorities additionals) in
    let few = subst (λ (ps : List Encoder). length s.additionals ≤ length (all_of ps nothing 12).octets) same (last_few (asked ++ (answers ++ authorities)) s.additionals nothing 12) in
    let n = message_size Tree s in
    omega (arith, few, n)

-- An OPT record that fits is refused only if an allocation fails.
pub refused_for_memory : (g : Gathered) (s : State) (new : Built) (e : PushError) → PushesOptRecord None true Tree g s new (Err e) → s.limit ≤ 65535
    → (e ≢ ShortBuf) × (e ≢ LimitExceeded) → e ≡ OutOfMemory
refused_for_memory g s new ShortBuf pushes small fits = absurd (fits.0 refl)
refused_for_memory g s new OutOfMemory pushes small fits = refl
refused_for_memory g s new LimitExceeded pushes small fits = absurd (fits.1 refl)
refused_for_memory g s new CountOverflow pushes small fits =
    let few = additionals_few (with_record InAdditional (opt_record g) s) in
    let n = length-append s.additionals (opt_record g ∷ []) in
    let h = pushes.outcome in
    absurd (omega (arith, few, n, h, small))

-- One that is pushed ends the message within its limit.
pub ended_within : (g : Gathered) (s : State) (new : Built) (octets : List ℕ) → PushesOptRecord None true Tree g s new (Ok tt) → octets ≡ new.written.octets
    → IsMessageOf Tree (with_opt g s) octets × (length octets ≤ s.limit)
ended_within g s new octets pushes is =
    let same = length_is (with_opt g s) new octets pushes.accepted is in
    let header : size (with_opt g s) ≡ size (with_record InAdditional (opt_record g) s) = size_headed (record s.header { rcode = g.header.rcode }) (with_record InAdditional (opt_record g) s) in
    let h = pushes.outcome in
    (message_is (with_opt g s) new octets pushes.accepted is, omega (arith, same, header, h))

-- The limit doesn't matter for the length.
size_limited : (n : ℕ) (s : State) → size (with_limit n s) ≡ size s
size_limited n s = message_size Tree (with_limit n s) ∙ sym (message_size Tree s)

module _ (builder : Reserving) (opt : Option Gathered) where
  -- Without an OPT record the message of the builder is the response.
  pub ended_without : opt ≡ None → (s : State) → Represents InAdditional Tree s builder.built → (released : Built) (octets : List ℕ)
      → Represents InAdditional Tree (with_limit (whole_limit builder) s) released
      → ((n : ℕ) → n ≤ length builder.built.written.octets + builder.reserved → Fits None n × (n ≤ whole_limit builder)) → octets ≡ released.written.octets
      → IsMessageOf Tree (with_own_opt opt (with_limit (whole_limit builder) s)) octets × (length octets ≤ whole_limit builder)
  ended_without none s h released octets moved fits is =
      let size_before : length builder.built.written.octets ≡ size s = ap (λ (w : Written). length w.octets) h.written in
      let size_after = length_is (with_limit (whole_limit builder) s) released octets moved is in
      let same = size_limited (whole_limit builder) s in (
        subst (λ o. IsMessageOf Tree (with_own_opt o (with_limit (whole_limit builder) s)) octets) (sym none) (message_is (with_limit (whole_limit builder) s) released octets moved is),
        (fits (length octets) (omega (arith, size_before, size_after, same))).1,
      )

  module _ (g : Gathered) (some : opt ≡ Some g) (s : State) (new : Built) where
    -- With one it is the message with the record.
    pub ended_with : (octets : List ℕ) → PushesOptRecord None true Tree g (with_limit (whole_limit builder) s) new (Ok tt) → octets ≡ new.written.octets
        → IsMessageOf Tree (with_own_opt opt (with_limit (whole_limit builder) s)) octets × (length octets ≤ whole_limit builder)
    ended_with octets pushes is =
        let e = ended_within g (with_limit (whole_limit builder) s) new octets pushes is in
        (subst (λ o. IsMessageOf Tree (with_own_opt o (with_limit (whole_limit builder) s)) octets) (sym some) e.0, e.1)

    -- It is refused only if an allocation fails.
    pub ended_refused : (e : PushError) → PushesOptRecord None true Tree g (with_limit (whole_limit builder) s) new (Err e)
        → (opt_size g ≤ builder.reserved → (e ≢ ShortBuf) × (e ≢ LimitExceeded)) → size_of_opt opt ≤ builder.reserved → whole_limit builder ≤ 65535 → e ≡ OutOfMemory
    ended_refused e pushes fits within small =
        refused_for_memory g (with_limit (whole_limit builder) s) new e pushes small (fits (subst (λ o. size_of_opt o ≤ builder.reserved) some within))
