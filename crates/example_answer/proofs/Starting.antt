-- How a reply is started: which questions it has, and how many octets.
use Rattle.std.proofs.Common.{◌≡◌, ◌∙◌, ℕ, ◌≤◌, List, [], ◌∷◌, ◌++◌, length, length-append, append_assoc, ap, cond, sym, refl, subst, inl, inr, arith, true, false, Bool}
use Rattle.std.proofs.lemmas.Bool.{leb-true}
use Rattle.std.specs.List.{filter_map}
use Rattle.std.specs.Result.{result_ok}
use Rattle.std.specs.Prelude.{nat_le, Result, Ok, Err, Option, Some, None}
use Rattle.dns_message.specs.Names.{Fault}
use Rattle.dns_message.specs.Targets.{Plain, Written}
use Rattle.dns_message.specs.Headers.{header_size}
use Rattle.dns_message.specs.Questions.{QuestionItem}
use Rattle.dns_message.specs.Records.{RecordItem, OptItem}
use Rattle.dns_message.specs.Messages.{opt_of, asked_first, first_value}
use Rattle.dns_message.specs.Sections.{questions_from, question_count}
use Rattle.dns_message.specs.Builders.{AreAccepted, GivesAnswer, IsEither, answering, readable_questions, ReadsBack, Built, InEach, Represents, fresh, InAnswer}
use Rattle.dns_message.specs.Builders.{State, with_limit, with_questions, tc_rewound}
use Rattle.dns_message.specs.declared.builder.PushError.{PushError}
use Rattle.dns_message.specs.declared.builder.PushError.TheVariants.{CountOverflow, LimitExceeded, ShortBuf, OutOfMemory}
use Rattle.dns_message.proofs.CallerLemmas.{questions_from_are_read, readings_of_questions_end, accepted_within}
use Rattle.example_answer.specs.declared.answering.NoAnswer.TheVariants.{Refused}
use Rattle.example_answer.specs.Answering.{HasNoAnswer, IsMessage, answer_to, asked_again, asked_records, format_error, payload_size, size, size_said, with_answers}
use Rattle.example_answer.specs.Pushing.{AddsRecords, RefusesMore}
use Rattle.dns_message.proofs.CallerLemmas.{message_size, moving_adds_nothing, tc_rewound_is_shorter, longer_with_questions, items_are_few}

-- the state of a new builder, limited to what the client of a query accepts
abbrev pub client : List ℕ → State
client b = with_limit (payload_size b) fresh

-- the accepted size is at least that of a header section
size_large : (o : Option OptItem) → 12 ≤ size_said o
size_large None = omega arith
size_large (Some opt) = grind arith

-- the first state of a reply is within the limit: it is a header section
starts_within : (rcode : ℕ) (b : List ℕ) → size (answering rcode b (client b)) ≤ payload_size b
starts_within rcode b =
    let e = message_size Plain (answering rcode b (client b)) in
    let l = size_large (opt_of b) in
    omega (arith, e, l)

-- the state chosen by the test `fits` is within a limit
either_within : (all none : State) (limit : ℕ) → size none ≤ limit → (fits : Bool) → nat_le (size all) limit ≡ fits → size (cond fits all none) ≤ limit
either_within all none limit l true is = leb-true (size all) limit is
either_within all none limit l false is = l

module _ (b : List ℕ) where
  -- a reply with all questions of the query is within the limit
  pub started_within : AreAccepted None true Plain (answering 0 b (client b)) (readable_questions b) → size (asked_again b) ≤ payload_size b
  started_within accepted =
      let l = accepted_within None true Plain (answering 0 b (client b)) (readable_questions b) accepted (starts_within 0 b) in
      let e = moving_adds_nothing Plain (answering 0 b (client b)) (readable_questions b) in
      omega (arith, e, l)

  -- the reply with these questions
  abbrev asking : List QuestionItem → State
  asking xs = with_questions xs (answering 0 b (client b))

  -- the reason for which a question is refused is the reason for which there is no answer
  pub not_started : (e : PushError) → payload_size b ≤ 65535 → GivesAnswer None true Plain (answering 0 b (client b)) (readable_questions b) (Err e) → HasNoAnswer b (Refused e)
  not_started OutOfMemory small gives = tt
  not_started ShortBuf small gives = gives.1.refused
  not_started LimitExceeded small gives =
      let s = answering 0 b (client b) in
      let p = gives.1 in
      let xs = gives.0 ++ p.next ∷ [] in
      let l = longer_with_questions Plain s xs p.others in
      let all : xs ++ p.others ≡ readable_questions b = append_assoc gives.0 (p.next ∷ []) p.others ∙ sym p.all in
      let e = moving_adds_nothing Plain s (readable_questions b) ∙ ap (λ (zs : List QuestionItem). size (asking zs)) (sym all) in
      let k = p.refused in
      omega (arith, e, k, l)
  not_started CountOverflow small gives =
      let p = gives.1 in
      let k = items_are_few Plain (asking (gives.0 ++ p.next ∷ [])) in
      let n = length-append gives.0 (p.next ∷ []) in
      let q = p.refused in
      omega (arith, k, n, q)

  -- nor is there an answer if a record is refused for another reason than the limit
  pub no_records : (e : PushError) → payload_size b ≤ 65535 → RefusesMore (asked_again b) e → HasNoAnswer b (Refused e)
  no_records OutOfMemory small h = tt
  no_records ShortBuf small h = h
  no_records LimitExceeded small h = absurd h
  no_records CountOverflow small h = omega (arith, h)

  -- an answer is within the limit
  pub answer_within : (table : List RecordItem) (asked : QuestionItem) → size (asked_again b) ≤ payload_size b → size (answer_to b table asked) ≤ payload_size b
  answer_within table asked l =
      let all = with_answers (asked_records asked table) (asked_again b) in
      either_within all (tc_rewound InAnswer (asked_again b)) (payload_size b) (let m = tc_rewound_is_shorter Plain (asked_again b) in omega (arith, l, m))
      (nat_le (size all) (payload_size b)) refl

  -- so is a FORMERR reply
  pub error_within : size (format_error b) ≤ payload_size b
  error_within = let e = message_size Plain (format_error b) in let l = size_large (opt_of b) in omega (arith, e, l)

  -- a started reply to which the matches are added is the answer
  pub answered : (table : List RecordItem) (asked : QuestionItem) (mid new : Built) → GivesAnswer None true Plain (answering 0 b (client b)) (readable_questions b) (Ok mid)
      → InEach InAnswer Plain mid (λ s. AddsRecords (asked_records asked table) s (Ok new)) → Represents InAnswer Plain (answer_to b table asked) new
  answered table asked mid new gives adds = adds (asked_again b) gives.1 (started_within gives.0)

  -- if the first question can't be read, no question can
  readable : (xs : List (Result QuestionItem Fault)) → ((f : Fault) (ys : List (Result QuestionItem Fault)) → xs ≡ Err f ∷ ys → ys ≡ []) → first_value xs ≡ None → filter_map result_ok xs ≡ []
  readable [] ends first = refl
  readable (Ok x ∷ xs) ends first = absurd (cc)
  readable (Err f ∷ xs) ends first = ap (filter_map result_ok) (ends f xs refl)

  none_readable : asked_first b ≡ None → readable_questions b ≡ []
  none_readable first =
      let reading = (questions_from_are_read b).reading (question_count b) header_size in
      let end = readings_of_questions_end b in
      readable (questions_from b (question_count b) header_size) (λ f ys e. end.last (question_count b) header_size _ [] ys f reading e) first

  -- so a FORMERR reply has no question
  pub error_started : (new : Built) → asked_first b ≡ None → IsEither None true Plain (answering 1 b (client b)) (readable_questions b) new → Represents InAnswer Plain (format_error b) new
  error_started new first gives = by (subst (λ xs. IsEither None true Plain (answering 1 b (client b)) xs new) (none_readable first) gives)
    where
      none_refused : (first : List QuestionItem) (x : QuestionItem) (others : List QuestionItem) → [] ≡ first ++ x ∷ others → ⊥
      none_refused [] x others is = cc
      none_refused (y ∷ first) x others is = cc

      by : IsEither None true Plain (answering 1 b (client b)) [] new → Represents InAnswer Plain (format_error b) new
      by (inl p) = p.1
      by (inr p) = absurd (none_refused p.1 p.2.next p.2.others p.2.all)

-- what is started for the message is started for the octets of the query
pub for_query : (rcode : ℕ) (b m : List ℕ) (limit : ℕ) (Gives : State → List QuestionItem → Type 0) → m ≡ b → limit ≡ payload_size m
    → Gives (answering rcode m (with_limit limit fresh)) (readable_questions m) → Gives (answering rcode b (client b)) (readable_questions b)
for_query rcode b m limit Gives is taken gives =
    subst (λ (x : List ℕ). Gives (answering rcode x (client x)) (readable_questions x)) is (subst (λ n. Gives (answering rcode m (with_limit n fresh)) (readable_questions m)) taken gives)

-- the octets of a builder are the message of its state
pub message_of : (s : State) (new : Built) (octets : List ℕ) → Represents InAnswer Plain s new → octets ≡ new.written.octets → InEach InAnswer Plain new (λ t. ReadsBack t octets) → IsMessage s octets
message_of s new octets represents is reads = record { octets = is ∙ ap (λ (w : Written). w.octets) represents.written; reads_back = reads s represents }

-- a message has as many octets as its state says
pub message_within : (s : State) (octets : List ℕ) (limit : ℕ) → IsMessage s octets → size s ≤ limit → length octets ≤ limit
message_within s octets limit is l = subst (λ (o : List ℕ). length o ≤ limit) (sym is.octets) l

-- a value, or another one if there is none
abbrev or_else : QuestionItem → Option QuestionItem → QuestionItem
or_else x None = x
or_else x (Some y) = y

-- `Some` is injective
pub some_same : (x y : QuestionItem) → Some x ≡ Some y → x ≡ y
some_same x y e = ap (or_else x) e
