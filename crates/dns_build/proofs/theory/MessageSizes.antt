-- How many octets the messages of states have, under every rule.
use Rattle.std.proofs.Common.{◌≡◌, ◌∙◌, ℕ, ◌+◌, ◌≤◌, List, [], ◌∷◌, ◌++◌, length, length-append, append_assoc, ap, sym, refl, arith}
use Rattle.std.proofs.lemmas.List.{append-nil, map-append, length-map}
use Rattle.std.specs.Prelude.{map}
use Rattle.dns_wire.specs.Encoders.{CompressionTable, Encoder, Rule, nothing}
use Rattle.dns_code.specs.Header.{HeaderFields}
use Rattle.dns_code.proofs.theory.HeaderOctets.{length-octets_of_fields}
use Rattle.dns_item.specs.Questions.{QuestionItem, encode_question}
use Rattle.dns_item.specs.Items.{RecordItem, encode_record}
use Rattle.dns_build.specs.BuilderStates.{size_after}
use Rattle.dns_build.specs.State.{InAnswer, InQuestion, State, Every, all_of, encode, encoders_of, head_of, move_to, tc_rewound, up_to, with_header, with_records}
use Rattle.dns_build.proofs.theory.Encodings.{every_append}

-- Further encodings don't shorten the octets.
pub longer_octets : (ps qs : List Encoder) (m : CompressionTable) (w : ℕ) → length (all_of ps m w).octets ≤ length (all_of (ps ++ qs) m w).octets
longer_octets [] qs m w = omega arith
longer_octets (p ∷ ps) qs m w =
    let rest = longer_octets ps qs (p m w).table (w + length (p m w).octets) in
    simp length-append (omega (arith, rest))

-- An encoding of n octets adds n octets.
pub one_more : (ps : List Encoder) (q : Encoder) (n : ℕ) → ((m : CompressionTable) (w : ℕ) → length (q m w).octets ≡ n) → (m : CompressionTable) (w : ℕ)
    → length (all_of (ps ++ q ∷ []) m w).octets ≡ length (all_of ps m w).octets + n
one_more [] q n sized m w = simp length-append (let e = sized m w in omega (arith, e))
one_more (p ∷ ps) q n sized m w =
    let rest = one_more ps q n sized (p m w).table (w + length (p m w).octets) in
    simp length-append (omega (arith, rest))

-- The header section takes 12 octets.
head_size : (s : State) → length (head_of s).octets ≡ 12
head_size s = length-append _ _ ∙ ap (λ n. n + 8) (length-octets_of_fields s.header)

-- The octets of a header section and of these encodings after it.
abbrev pub octets_after : List Encoder → ℕ
octets_after ps = 12 + length (all_of ps nothing 12).octets

-- An encoding has at least one octet, for any compression table and at any offset.
abbrev HasOctets : Encoder → Type 0
HasOctets p = (m : CompressionTable) (w : ℕ) → 1 ≤ length (p m w).octets

-- The encodings of items have octets if that of each item has.
all_have_octets : {X : Type 0} (encoding : X → Encoder) → ((x : X) → HasOctets (encoding x)) → (xs : List X) → Every HasOctets (map encoding xs)
all_have_octets encoding each [] = tt
all_have_octets encoding each (x ∷ xs) = (each x, all_have_octets encoding each xs)

-- There are at least as many octets as such encodings.
encoders_within : (ps : List Encoder) (m : CompressionTable) (w : ℕ) → Every HasOctets ps → length ps ≤ length (all_of ps m w).octets
encoders_within [] m w all = omega arith
encoders_within (p ∷ ps) m w all =
    let first = all.0 m w in
    let rest = encoders_within ps (p m w).table (w + length (p m w).octets) all.1 in
    simp length-append (omega (arith, first, rest))

module _ (rule : Rule) where
  -- The octets of the message of a state.
  abbrev size : State → ℕ
  size = size_after rule (λ s. s)

  -- They are those of the header section and of the encodings after it.
  pub message_size : (s : State) → size s ≡ octets_after (encoders_of rule s)
  unfolding encode
  message_size s = length-append _ _ ∙ (λ i. head_size s i + length (all_of (encoders_of rule s) nothing (head_size s i)).octets)

  -- Another header doesn't change how long a message is.
  pub size_with_header : (header : HeaderFields) (s : State) → size (with_header header s) ≡ size s
  size_with_header header s = message_size (with_header header s) ∙ sym (message_size s)

  -- Emptying the answer section and setting TC doesn't lengthen a message.
  pub tc_rewound_is_shorter : (s : State) → size (tc_rewound InAnswer s) ≤ size s
  tc_rewound_is_shorter s =
      let asked = map (encode_question rule) s.questions in
      let l = longer_octets asked (map (encode_record rule) s.answers ++ (map (encode_record rule) s.authorities ++ map (encode_record rule) s.additionals)) nothing 12 in
      let a = message_size s in
      let b : size (tc_rewound InAnswer s) ≡ octets_after asked = message_size (tc_rewound InAnswer s) ∙ ap octets_after (append-nil asked) in
      omega (arith, a, b, l)

  -- Moving to the answer section writes no octets if nothing follows the questions.
  pub moving_adds_nothing : (s : State) (xs : List QuestionItem) → size (move_to InAnswer (record (up_to InQuestion s) { questions = xs })) ≡ size (record (up_to InQuestion s) { questions = xs })
  unfolding encode
  moving_adds_nothing s xs = refl

  -- Further questions don't shorten the message.
  pub longer_with_questions : (s : State) (xs ys : List QuestionItem) → size (record (up_to InQuestion s) { questions = xs }) ≤ size (record (up_to InQuestion s) { questions = xs ++ ys })
  longer_with_questions s xs ys =
      let encoding = encode_question rule in
      let l = longer_octets (map encoding xs) (map encoding ys) nothing 12 in
      let a : size (record (up_to InQuestion s) { questions = xs }) ≡ octets_after (map encoding xs) =
      message_size (record (up_to InQuestion s) { questions = xs }) ∙ ap octets_after (append-nil (map encoding xs)) in
      let b : size (record (up_to InQuestion s) { questions = xs ++ ys }) ≡ octets_after (map encoding xs ++ map encoding ys) =
      message_size (record (up_to InQuestion s) { questions = xs ++ ys }) ∙ ap octets_after (append-nil (map encoding (xs ++ ys)) ∙ map-append encoding xs ys) in
      omega (arith, a, b, l)

  -- Further answers don't shorten the message.
  pub longer_with_answers : (s : State) (xs ys : List RecordItem) → size (with_records InAnswer xs (up_to InAnswer s)) ≤ size (with_records InAnswer (xs ++ ys) (up_to InAnswer s))
  longer_with_answers s xs ys =
      let encoding = encode_record rule in
      let asked = map (encode_question rule) s.questions in
      let front = asked ++ map encoding (s.answers ++ xs) in
      let l = longer_octets front (map encoding ys) nothing 12 in
      let a : size (with_records InAnswer xs (up_to InAnswer s)) ≡ octets_after front =
      message_size (with_records InAnswer xs (up_to InAnswer s)) ∙ ap (λ (ps : List Encoder). octets_after (asked ++ ps)) (append-nil (map encoding (s.answers ++ xs))) in
      let e : map encoding (s.answers ++ (xs ++ ys)) ≡ map encoding (s.answers ++ xs) ++ map encoding ys =
      ap (map encoding) (sym (append_assoc s.answers xs ys)) ∙ map-append encoding (s.answers ++ xs) ys in
      let b : size (with_records InAnswer (xs ++ ys) (up_to InAnswer s)) ≡ octets_after (front ++ map encoding ys) =
      message_size (with_records InAnswer (xs ++ ys) (up_to InAnswer s))
      ∙ ap (λ (ps : List Encoder). octets_after (asked ++ ps)) (append-nil (map encoding (s.answers ++ (xs ++ ys))) ∙ e)
      ∙ ap octets_after (sym (append_assoc asked (map encoding (s.answers ++ xs)) (map encoding ys))) in
      omega (arith, a, b, l)

  question_octets : (x : QuestionItem) → HasOctets (encode_question rule x)
  unfolding encode_question
  question_octets x m w = simp length-append (omega arith)

  record_octets : (x : RecordItem) → HasOctets (encode_record rule x)
  unfolding encode_record
  record_octets x m w = simp length-append (omega arith)

  -- Questions and answers together are at most as many as the octets after the header section.
  pub items_are_few : (s : State) → 12 + (length s.questions + length s.answers) ≤ size s
  items_are_few s =
      let questions = map (encode_question rule) s.questions in
      let answers = map (encode_record rule) s.answers in
      let after_them = map (encode_record rule) s.authorities ++ map (encode_record rule) s.additionals in
      let l = encoders_within (questions ++ answers) nothing 12 (every_append HasOctets questions answers (all_have_octets (encode_question rule) question_octets s.questions)
      (all_have_octets (encode_record rule) record_octets s.answers)) in
      let m = longer_octets (questions ++ answers) after_them nothing 12 in
      let a = message_size s ∙ ap octets_after (sym (append_assoc questions answers after_them)) in
      let n = length-append questions answers in
      let q = length-map s.questions (encode_question rule) in
      let r = length-map s.answers (encode_record rule) in
      omega (arith, a, l, m, n, q, r)
